-- `xml::chars::ascii_at` meets its contract: a byte of ASCII is its own value, and a unit whose high byte is 0.
use Prim.Native.Nat.{ℕ, ◌<◌}
use native.Mathlib.Omega.{arith}
use lib.ListN.{get_or}
use Rattle.std.proofs.Common.{Option, Some, None}
use Rattle.std.specs.Option.{IfSome}
use Rattle.xml.specs.declared.Sort.{Sort}
use Rattle.xml.proofs.Names.{told-ascii, told-unit}
use Rattle.xml.proofs.chars.ascii_at.Goals as goal

some-by : {P Q : Sort → Type 0} → ((k : Sort) → P k → Q k) → (o : Option Sort) → IfSome o P → IfSome o Q
some-by f None p = p
some-by f (Some k) p = f k p

pub returns-then-not-utf16 : goal.returns-then-not-utf16
returns-then-not-utf16 c =
    rw c.if-not-utf16.true (some-by (λ k a. told-ascii c.args.s.now c.args.at _ c.requires.1 a.0 a.1) c.ascii_sort.result c.ascii_sort.ensures.ascii)

pub returns : goal.returns
returns c =
    let s = c.args.s.now in
    let at = c.args.at in
    let bytes : (k : ℕ) → get_or s k 0 < 256 = λ k. (c.type_inv.s k).fits in
    rw c.if-not-utf16.false
    (some-by (λ k a. told-unit s at _ (omega arith) bytes c.if-s-at-ne0.false a.1) c.ascii_sort-2.result c.ascii_sort-2.ensures.ascii)
