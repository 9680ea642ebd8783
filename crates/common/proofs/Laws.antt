-- Laws of specs/Header.antt. No contract cites this file.
-- In order: the header at a place (`header_none_at`, `header_some_at`); a whole header has its 8 bytes (`header_of-long`,
-- `header_of-long-at`); it stands there whatever follows (`header_of-append`).
use Rattle.std.specs.Prelude.{Some, None}
use Prim.Native.Nat.{ℕ, ◌+◌, ◌-◌, ◌≤◌, ◌<◌}
use native.Mathlib.Omega.{arith}
use native.Mathlib.Nat.{add-zero}
use mathlib.Core.Path.{◌≡◌, refl}
use mathlib.Core.List.{List, ◌++◌}
use mathlib.Core.Bool.{Bool, true, false}
use borrow.Author.Tests.{ltb-true, ltb-false, lt-ltb, le-ltb}
use lib.ListN.{length, drop, length-drop, length-append}
use lib.Dec.{ltb}
use Rattle.field.specs.Le.{u16le, u32le}
use Rattle.field.proofs.Laws.{u16le-append, u32le-append, u16le-drop, u32le-drop}
use Rattle.common.specs.Header.{header_of}
use Rattle.common.specs.declared.ResChunkHeader.{ResChunkHeader}

-- the fields of a whole header
abbrev pub header_here : List ℕ → ResChunkHeader
header_here l = record { kind = u16le l 0; header_size = u16le l 2; size = u32le l 4 }

pub header_of-short : (l : List ℕ) → length l < 8 → header_of l ≡ None
unfolding header_of
header_of-short l h = rw (lt-ltb (length l) 8 h)

pub header_of-whole : (l : List ℕ) → 8 ≤ length l → header_of l ≡ Some (header_here l)
unfolding header_of
header_of-whole l h = rw (le-ltb (length l) 8 h)

-- what `header_at` looks at: where fewer than 8 bytes are left, and where they are there
pub header_none_at : (s : List ℕ) (at : ℕ) → length s - at < 8 → header_of (drop at s) ≡ None
header_none_at s at h = header_of-short (drop at s) (rw length-drop h)

pub header_some_at
    : (s : List ℕ) (at : ℕ)
    → 8 ≤ length s - at
    → header_of (drop at s) ≡ Some (record { kind = u16le s at; header_size = u16le s (at + 2); size = u32le s (at + 4) })
unfolding header_of
header_some_at s at h = simp (length-drop, le-ltb _ _ h, u16le-drop, u32le-drop, add-zero)

-- a whole header has its 8 bytes
pub header_of-long : (l : List ℕ) {h : ResChunkHeader} → header_of l ≡ Some h → 8 ≤ length l
unfolding header_of
header_of-long l {h} w = go (ltb (length l) 8) refl
  where
    go : (b : Bool) → ltb (length l) 8 ≡ b → 8 ≤ length l
    go true e = let z : ◌≡◌ {A = ℕ} 0 1 = cc in omega arith
    go false e = ltb-false _ _ e

-- a whole header at a place has its 8 bytes there
pub header_of-long-at : (s : List ℕ) (at : ℕ) {h : ResChunkHeader} → header_of (drop at s) ≡ Some h → at ≤ length s → at + 8 ≤ length s
header_of-long-at s at w p = let q : 8 ≤ length s - at = rw length-drop at (header_of-long (drop at s) w) in omega arith

-- where there is none, fewer than 8 bytes are left
pub header_of-short-lt : (l : List ℕ) → header_of l ≡ None → length l < 8
header_of-short-lt l w = go (ltb (length l) 8) refl
  where
    go : (b : Bool) → ltb (length l) 8 ≡ b → length l < 8
    go true e = ltb-true _ _ e
    go false e = let e' = header_of-whole l (ltb-false _ _ e) in let z : ◌≡◌ {A = ℕ} 0 1 = cc in omega arith

-- a whole header stands there whatever follows
pub header_of-append : (c m : List ℕ) {h : ResChunkHeader} → header_of c ≡ Some h → header_of (c ++ m) ≡ Some h
unfolding header_of
header_of-append c m {h} w =
    let long : 8 ≤ length c = header_of-long c w in
    let more : 8 ≤ length (c ++ m) = rw length-append (omega arith) in
    let w' = rw (le-ltb (length c) 8 long) at w in
    rw (le-ltb (length (c ++ m)) 8 more, u16le-append c m 0 (omega arith), u16le-append c m 2 (omega arith), u32le-append c m 4 (omega arith)) w'
