-- `utf::utf8::put_scalar` meets its contract: in each of the four sizes the bytes fit, and each store is one of `encode`'s.
use mathlib.Core.Path.{ap}
use Prim.Native.Nat.{◌+◌, ◌≤◌}
use native.Mathlib.Numerals.{add-one}
use native.Mathlib.Omega.{arith}
use lib.ListN.{length, length-set}
use Rattle.utf.proofs.Scalars.{encode_one, encode-two, encode-three, encode-four, add-two, add-three}
use Rattle.utf.proofs.utf8.put_scalar.Goals as goal

fits1 : (c : goal.Then-v-lt128) → c.args.at + 1 ≤ length c.args.out.now
fits1 c =
    let v = c.args.v in omega (arith, ap length (encode_one v c.if-v-lt128.true))

fits2 : (c : goal.Then-v-lt2048) → c.args.at + 2 ≤ length c.args.out.now
fits2 c =
    let v = c.args.v in omega (arith, ap length (encode-two v c.if-v-lt128.false c.if-v-lt2048.true))

fits3 : (c : goal.Then-v-lt65536) → c.args.at + 3 ≤ length c.args.out.now
fits3 c =
    let v = c.args.v in omega (arith, ap length (encode-three v c.if-v-lt2048.false c.if-v-lt65536.true))

fits4 : (c : goal.Else-v-lt65536) → c.args.at + 4 ≤ length c.args.out.now
fits4 c =
    let v = c.args.v in omega (arith, ap length (encode-four v c.if-v-lt65536.false))

pub bounds-out-at : goal.bounds-out-at
bounds-out-at c = omega (arith, fits1 c)

pub returns-then-v-lt128 : goal.returns-then-v-lt128
returns-then-v-lt128 c =
    let v = c.args.v in let e = encode_one v c.if-v-lt128.true in (rw e, rw (e))

pub bounds-out-at-then-v-lt2048 : goal.bounds-out-at-then-v-lt2048
bounds-out-at-then-v-lt2048 c = omega (arith, fits2 c)

pub bounds-out-at-then-v-lt2048-2 : goal.bounds-out-at-then-v-lt2048-2
bounds-out-at-then-v-lt2048-2 c = simp length-set (omega (arith, fits2 c))

pub returns-then-v-lt2048 : goal.returns-then-v-lt2048
returns-then-v-lt2048 c =
    let v = c.args.v in let e = encode-two v c.if-v-lt128.false c.if-v-lt2048.true in (rw e, rw (e, add-one))

pub bounds-out-at-then-v-lt65536 : goal.bounds-out-at-then-v-lt65536
bounds-out-at-then-v-lt65536 c = omega (arith, fits3 c)

pub bounds-out-at-then-v-lt65536-2 : goal.bounds-out-at-then-v-lt65536-2
bounds-out-at-then-v-lt65536-2 c = simp length-set (omega (arith, fits3 c))

pub bounds-out-at-then-v-lt65536-3 : goal.bounds-out-at-then-v-lt65536-3
bounds-out-at-then-v-lt65536-3 c = simp length-set (omega (arith, fits3 c))

pub returns-then-v-lt65536 : goal.returns-then-v-lt65536
returns-then-v-lt65536 c =
    let v = c.args.v in let e = encode-three v c.if-v-lt2048.false c.if-v-lt65536.true in (rw e, rw (e, add-one, add-two))

pub bounds-out-at-2 : goal.bounds-out-at-2
bounds-out-at-2 c = omega (arith, fits4 c)

pub bounds-out-at-3 : goal.bounds-out-at-3
bounds-out-at-3 c = simp length-set (omega (arith, fits4 c))

pub bounds-out-at-4 : goal.bounds-out-at-4
bounds-out-at-4 c = simp length-set (omega (arith, fits4 c))

pub bounds-out-at-5 : goal.bounds-out-at-5
bounds-out-at-5 c = simp length-set (omega (arith, fits4 c))

pub returns : goal.returns
returns c =
    let v = c.args.v in let e = encode-four v c.if-v-lt65536.false in (rw e, rw (e, add-one, add-two, add-three))
