-- Laws of specs/Le.antt, for every reader above. No contract cites this file.
-- In order: what stands in the rest of a list stands in the list (`-drop`); what stands in the front of a list stands there
-- whatever follows (`-append`).
use Prim.Native.Nat.{ℕ, ◌+◌, ◌≤◌}
use native.Mathlib.Omega.{arith}
use native.Mathlib.Nat.{add_assoc}
use mathlib.Core.Path.{◌≡◌}
use mathlib.Core.List.{List, ◌++◌}
use lib.ListN.{drop, length, get_or-append}
use lib.Seq.{get_or-drop}
use Rattle.field.specs.Le.{u8le, u16le, u32le}

-- ---- the rest of a list

pub u16le-drop : (s : List ℕ) (n k : ℕ) → u16le (drop n s) k ≡ u16le s (n + k)
unfolding u16le
u16le-drop s n k = simp (get_or-drop, ← add_assoc)

pub u32le-drop : (s : List ℕ) (n k : ℕ) → u32le (drop n s) k ≡ u32le s (n + k)
unfolding u32le
u32le-drop s n k = simp (u16le-drop, ← add_assoc)

-- ---- the front of a list

pub u8le-append : (s t : List ℕ) (k : ℕ) → k + 1 ≤ length s → u8le (s ++ t) k ≡ u8le s k
u8le-append s t k h = rw (get_or-append s t 0 k (omega arith))

pub u16le-append : (s t : List ℕ) (k : ℕ) → k + 2 ≤ length s → u16le (s ++ t) k ≡ u16le s k
unfolding u16le
u16le-append s t k h = rw (get_or-append s t 0 k (omega arith), get_or-append s t 0 (k + 1) (omega arith))

pub u32le-append : (s t : List ℕ) (k : ℕ) → k + 4 ≤ length s → u32le (s ++ t) k ≡ u32le s k
unfolding u32le
u32le-append s t k h = rw (u16le-append s t k (omega arith), u16le-append s t (k + 2) (omega arith))
