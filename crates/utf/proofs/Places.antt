-- A step at a place, by the bytes that the code reads there.
use mathlib.Core.Path.{◌≡◌, ap}
use mathlib.Core.Bool.{true}
use mathlib.Core.List.{List}
use Prim.Native.Nat.{ℕ, suc, ◌+◌, ◌≤◌, ◌<◌}
use native.Mathlib.Nat.{add_assoc, add-zero}
use native.Mathlib.Omega.{arith}
use borrow.Author.Tests.{lt-ltb, le-ltb}
use lib.Dec.{ltb}
use lib.ListN.{length, get_or, drop, length-drop, drop_of_length-le}
use lib.Seq.{drop-cons, get_or-drop}
use Rattle.utf.specs.declared.Step.TheVariants.{Bad, End}
use Rattle.utf.specs.Utf8.{step8}
use Rattle.utf.specs.Utf16.{unit, pair_of, step16}
use Rattle.utf.specs.Inner.Lead.{lead_of, step_by}
use Rattle.utf.proofs.Leads.{step8-lead}

pub step8-past : (s : List ℕ) (at : ℕ) → length s ≤ at → step8 (drop at s) ≡ End
unfolding step8
step8-past s at h = rw (drop_of_length-le s h)

pub step8-at : (s : List ℕ) (at : ℕ) → at < length s
    → step8 (drop at s) ≡ step_by (lead_of (get_or s at 0)) (get_or s at 0) (get_or s (at + 1) 0) (get_or s (at + 2) 0) (get_or s (at + 3) 0)
step8-at s at h =
    let t = drop (suc at) s in
    let one : get_or t 0 0 ≡ get_or s (at + 1) 0 = rw (get_or-drop (suc at) s 0 0) (ap (λ (i : ℕ). get_or s i 0) (omega arith)) in
    let two : get_or t 1 0 ≡ get_or s (at + 2) 0 = rw (get_or-drop (suc at) s 1 0) (ap (λ (i : ℕ). get_or s i 0) (omega arith)) in
    let three : get_or t 2 0 ≡ get_or s (at + 3) 0 = rw (get_or-drop (suc at) s 2 0) (ap (λ (i : ℕ). get_or s i 0) (omega arith)) in
    rw (drop-cons s at 0 h, step8-lead (get_or s at 0) t, one, two, three)

pub step16-at : (s : List ℕ) (at : ℕ) → at + 1 < length s → step16 (drop at s) ≡ pair_of (unit s at) (unit s (at + 2))
unfolding step16 unit
step16-at s at h =
    let t : ltb 1 (length (drop at s)) ≡ true = lt-ltb 1 (length (drop at s)) (omega (arith, length-drop at s)) in
    rw (t, get_or-drop at s 0 0, get_or-drop at s 1 0, get_or-drop at s 2 0, get_or-drop at s 3 0, add-zero, add_assoc at 2 1)

pub step16-short : (s : List ℕ) (at : ℕ) → at < length s → length s ≤ at + 1 → step16 (drop at s) ≡ Bad 1
unfolding step16
step16-short s at h l = rw (le-ltb 1 (length (drop at s)) (omega (arith, length-drop at s)), lt-ltb 0 (length (drop at s)) (omega (arith, length-drop at s)))

pub step16-past : (s : List ℕ) (at : ℕ) → length s ≤ at → step16 (drop at s) ≡ End
unfolding step16
step16-past s at h = rw (drop_of_length-le s h)
