-- Laws of specs/Inner/HeaderOnly.antt. No contract cites this file.
-- In order: what a bare header takes (`is_xml-bare`, `run_used-bare`), what `doubt_at` computes (`doubt-here`), what a row of bare headers takes
-- (`skip_run-bare`), what `bare_block` counts (`all_bare-step`, `all_bare-stop`).
use Prim.Native.Nat.{ℕ, zero, suc, ◌+◌, ◌-◌, ◌*◌, ◌/◌, ◌≤◌, ◌<◌}
use native.Mathlib.Omega.{arith}
use native.Mathlib.Nat.{add-zero}
use mathlib.Core.Path.{◌≡◌, refl, sym, ap, ◌∙◌}
use mathlib.Core.List.{List}
use mathlib.Core.Bool.{Bool, true, false, cond, not, ◌&&◌, ◌||◌, and-true, and-false, and_assoc, false≢true}
use borrow.Author.Tests.{ltb-true, ltb-false, leb-true, not-true, le-leb, lt-leb, eqb-true, eqb-false, ne_eqb}
use lib.ListN.{length, get_or, drop, length-drop}
use lib.Seq.{get_or-drop, drop-drop}
use lib.Dec.{ltb, leb, eqb}
use mir.Val.{bool_byte}
use Rattle.common.proofs.Laws.{header_here, header_of-whole}
use Rattle.field.specs.Le.{u16le, u32le}
use Rattle.field.proofs.Laws.{u32le-drop}
use Rattle.chunk.specs.Sort.{is_xml, chunk_sort, foreign_len}
use Rattle.chunk.specs.Inner.Run.{run_used, skip_run}
use Rattle.chunk.specs.Inner.HeaderOnly.{is_bare, all_bare}
use Rattle.chunk.proofs.Laws.{content_size-whole, run_used-same, skip_run-step}

-- ---- one header

-- every XML type has the high byte 1
pub is_xml-bare : (k : ℕ) → (k / 256 ≡ 1 → ⊥) → is_xml k ≡ false
unfolding is_xml
is_xml-bare k h = go (leb 0x100 k) refl
  where
    other : k ≡ 0x17f → ⊥
    other e = h (omega arith)

    go : (b : Bool) → leb 0x100 k ≡ b → is_xml k ≡ false
    go true e =
        let low : 0x100 ≤ k = leb-true _ _ e in
        let high : 0x104 < k = omega arith in
        rw (e, lt-leb k 0x104 high, ne_eqb k 0x17f other)
    go false e = rw (e, ne_eqb k 0x17f other)

both_true : (a b : Bool) → a && b ≡ true → (a ≡ true) × (b ≡ true)
both_true true b e = (refl, e)
both_true false b e = absurd (false≢true e)

-- it takes its 8 bytes and belongs to a run of the sort 0
pub run_used-bare : (l : List ℕ) → 8 ≤ length l → is_bare l ≡ true → run_used 0 l ≡ 8
unfolding is_bare chunk_sort foreign_len
run_used-bare l p e =
    let parts = both_true (not (eqb (u16le l 0 / 256) 1)) (leb (u32le l 4) 8) e in
    let small : u32le l 4 ≤ 8 = leb-true (u32le l 4) 8 parts.1 in
    let foreign = is_xml-bare (u16le l 0) (eqb-false (u16le l 0 / 256) 1 (not-true (eqb (u16le l 0 / 256) 1) parts.0)) in
    let sort : chunk_sort (header_here l) ≡ 0 = rw foreign in
    run_used-same 0 l (header_of-whole l p) sort ∙ rw (content_size-whole (length l - 8) (u32le l 4) (omega arith)) (omega arith)

-- ---- what `doubt_at` computes

-- the high byte of the type is the second byte
high_byte : (s : List ℕ) (at : ℕ) → get_or s at 0 < 256 → u16le (drop at s) 0 / 256 ≡ get_or s (at + 1) 0
unfolding u16le
high_byte s at h = simp (get_or-drop, add-zero) (omega arith)

leb-not : (a b : ℕ) → leb a b ≡ not (ltb b a)
leb-not a b = go (ltb b a) refl
  where
    go : (t : Bool) → ltb b a ≡ t → leb a b ≡ not (ltb b a)
    go true e = rw (e, lt-leb a b (ltb-true b a e))
    go false e = rw (e, le-leb a b (ltb-false b a e))

byte-either : (a b : Bool) → bool_byte (a || b) ≡ cond (not a && not b) 0 1
byte-either true b = refl
byte-either false true = refl
byte-either false false = refl

pub doubt-here : (s : List ℕ) (at size : ℕ) → get_or s at 0 < 256 → size ≡ u32le s (at + 4)
    → bool_byte (eqb (get_or s (at + 1) 0) 1 || ltb 8 size) ≡ cond (is_bare (drop at s)) 0 1
unfolding is_bare
doubt-here s at size h e =
    rw (high_byte s at h, u32le-drop s at 4, leb-not (u32le s (at + 4)) 8, e) (byte-either (eqb (get_or s (at + 1) 0) 1) (ltb 8 (u32le s (at + 4))))

-- ---- a row

-- n bare headers are n chunks of the run
pub skip_run-bare : (n : ℕ) (s : List ℕ) (p : ℕ) → p + 8 * n ≤ length s → all_bare n (drop p s) ≡ true → skip_run s p 0 ≡ skip_run s (p + 8 * n) 0
unfolding all_bare
skip_run-bare zero s p h e = ap (λ (q : ℕ). skip_run s q 0) (omega arith)
skip_run-bare (suc n) s p h e =
    let parts = both_true (is_bare (drop p s)) (all_bare n (drop 8 (drop p s))) e in
    let long : 8 ≤ length (drop p s) = rw length-drop (omega arith) in
    let next : all_bare n (drop (p + 8) s) ≡ true = rw drop-drop at parts.1 in
    let same : p + 8 + 8 * n ≡ p + 8 * suc n = omega arith in
    skip_run-step s p 0 8 (run_used-bare (drop p s) long parts.0) (omega arith)
    ∙ skip_run-bare n s (p + 8) (omega arith) next
    ∙ ap (λ (q : ℕ). skip_run s q 0) same

-- where a test of three, the sort 0 among them, has passed, what holds of a run of the sort 0 holds of this one
pub skip_run-tested : (s : List ℕ) (q r k : ℕ) (a b : Bool) → a && eqb k 0 && b ≡ true → skip_run s q 0 ≡ skip_run s r 0
    → skip_run s q k ≡ skip_run s r k
skip_run-tested s q r k a b e same =
    let zero-sort : k ≡ 0 = eqb-true k 0 (both_true a (eqb k 0) (both_true (a && eqb k 0) b e).0).1 in rw zero-sort same

-- ---- a count of doubts

-- no doubt in d and none in the next header
doubt-more : (d : ℕ) (b : Bool) → eqb (d + cond b 0 1) 0 ≡ eqb d 0 && b
doubt-more d true = let same : d + 0 ≡ d = omega arith in rw (same, and-true)
doubt-more d false = rw (ne_eqb (d + 1) 0 (omega arith), and-false)

pub doubt-le : {x : ℕ} (b : Bool) → x ≡ cond b 0 1 → x ≤ 1
doubt-le true e = omega arith
doubt-le false e = omega arith

-- with d doubts about the first k of n headers, x about the next
pub all_bare-step : (n k d x : ℕ) (s : List ℕ) (at : ℕ) → k < n → x ≡ cond (is_bare (drop (at + 8 * k) s)) 0 1
    → eqb d 0 && all_bare (n - k) (drop (at + 8 * k) s) ≡ eqb (d + x) 0 && all_bare (n - (k + 1)) (drop (at + 8 * (k + 1)) s)
unfolding all_bare
all_bare-step n k d x s at h e =
    let left : n - k ≡ suc (n - (k + 1)) = omega arith in
    let next : at + 8 * (k + 1) ≡ at + 8 * k + 8 = omega arith in
    rw (left, drop-drop, next, e, doubt-more, and_assoc)

-- the doubts about all n
pub all_bare-stop : (n k d : ℕ) (l : List ℕ) → n ≤ k → eqb d 0 ≡ eqb d 0 && all_bare (n - k) l
unfolding all_bare
all_bare-stop n k d l h = let none : n - k ≡ 0 = omega arith in sym (rw (none, and-true))
