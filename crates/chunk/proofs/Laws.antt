-- Laws of specs/Sort.antt and specs/Inner/Run.antt. No contract cites this file.
-- In order: bounds (`content_size-le`, `foreign_len-le`), what a chunk of a sort takes (`runUsed-..`), the two equations of a run
-- (`skip_run-stop`, `skip_run-step`), what the code computes at a place (`-here`). Not here: laws of headers (common).
use Rattle.std.specs.Prelude.{Some, None}
use Prim.Native.Nat.{ℕ, zero, suc, ◌+◌, ◌-◌, ◌≤◌, ◌<◌, zero-le}
use native.Mathlib.Omega.{arith}
use mathlib.Core.Path.{◌≡◌, refl, sym, ◌∙◌}
use mathlib.Core.List.{List}
use mathlib.Core.Bool.{Bool, true, false, cond}
use borrow.Author.Tests.{ltb-true, ltb-false, le-leb, lt-leb, leb-true, eqb-true, eqb-false, eq-eqb, ne_eqb}
use lib.ListN.{length, drop, length-drop}
use lib.Seq.{drop-drop}
use lib.Dec.{ltb, leb, eqb}
use Rattle.common.specs.Header.{header_of}
use Rattle.common.specs.declared.ResChunkHeader.{ResChunkHeader}
use Rattle.common.proofs.Laws.{header_here, header_of-short, header_of-whole, header_of-long-at}
use Rattle.chunk.specs.Sort.{chunk_sort, content_size, foreign_len}
use Rattle.chunk.specs.Inner.Run.{run_used, skip_run}
use Rattle.chunk.proofs.Walk.{walk-stop, walk_step}

-- ---- bounds

-- either way a choice is at most m
pub cond-le : (b : Bool) (x y m : ℕ) → (b ≡ true → x ≤ m) → (b ≡ false → y ≤ m) → cond b x y ≤ m
cond-le true x y m p q = p refl
cond-le false x y m p q = q refl

pub content_size-le : (left size : ℕ) → content_size left size ≤ left
unfolding content_size
content_size-le left size = cond-le (leb (size - 8) left) _ _ left (λ e. leb-true _ _ e) (λ e. omega arith)

-- content that is all there goes, also where it ends at the very end
pub content_size-whole : (left size : ℕ) → size - 8 ≤ left → content_size left size ≡ size - 8
unfolding content_size
content_size-whole left size h = rw (le-leb (size - 8) left h)

-- content that passes the end stays
pub content_size-cut : (left size : ℕ) → left < size - 8 → content_size left size ≡ 0
unfolding content_size
content_size-cut left size h = rw (lt-leb (size - 8) left h)

pub foreign_len-le : (n : ℕ) (h : ResChunkHeader) → 8 ≤ n → foreign_len n h ≤ n
unfolding foreign_len
foreign_len-le n h p = omega (arith, content_size-le (n - 8) h.size)

-- it takes its 8 bytes in any case
pub foreign_len-lt : (n : ℕ) (h : ResChunkHeader) → 7 < foreign_len n h
unfolding foreign_len
foreign_len-lt n h = omega arith

-- ---- a chunk of a sort

pub run_used-short : (k : ℕ) (l : List ℕ) → header_of l ≡ None → run_used k l ≡ 0
unfolding run_used
run_used-short k l w = rw w

pub run_used-same : (k : ℕ) (l : List ℕ) {h : ResChunkHeader} → header_of l ≡ Some h → chunk_sort h ≡ k → run_used k l ≡ foreign_len (length l) h
unfolding run_used
run_used-same k l w e = rw (w, eq-eqb _ _ e)

pub run_used-other : (k : ℕ) (l : List ℕ) {h : ResChunkHeader} → header_of l ≡ Some h → (chunk_sort h ≡ k → ⊥) → run_used k l ≡ 0
unfolding run_used
run_used-other k l w e = rw (w, ne_eqb _ _ e)

pub run_used-fits : (k : ℕ) (l : List ℕ) → run_used k l ≤ length l
run_used-fits k l = go (ltb (length l) 8) refl
  where
    whole : (h : ResChunkHeader) → header_of l ≡ Some h → 8 ≤ length l → (b : Bool) → eqb (chunk_sort h) k ≡ b → run_used k l ≤ length l
    whole h w p true e = rw (run_used-same k l w (eqb-true _ _ e)) (foreign_len-le (length l) h p)
    whole h w p false e = rw (run_used-other k l w (eqb-false _ _ e)) zero-le

    go : (b : Bool) → ltb (length l) 8 ≡ b → run_used k l ≤ length l
    go true e = rw (run_used-short k l (header_of-short l (ltb-true _ _ e))) zero-le
    go false e =
        let p = ltb-false _ _ e in
        whole (header_here l) (header_of-whole l p) p (eqb (chunk_sort (header_here l)) k) refl

-- ---- a run

pub skip_run-stop : (s : List ℕ) (p k : ℕ) → run_used k (drop p s) ≡ 0 → skip_run s p k ≡ p
unfolding skip_run
skip_run-stop s p k e = walk-stop _ _ (drop p s) p e

pub skip_run-step : (s : List ℕ) (p k n : ℕ) → run_used k (drop p s) ≡ n → 0 < n → skip_run s p k ≡ skip_run s (p + n) k
unfolding skip_run
skip_run-step s p k zero e h = absurd (omega arith)
skip_run-step s p k (suc m) e h =
    walk_step _ _ (drop p s) p m e (rw e at (run_used-fits k (drop p s))) ∙ rw (e, drop-drop)

-- ---- at a place

-- the end of the content, as `skip_content` gives it, less the place of the header
pub foreign_len-here : (s : List ℕ) (at r : ℕ) (h : ResChunkHeader) → at + 8 ≤ length s
    → r ≡ at + 8 + content_size (length s - (at + 8)) h.size → r - at ≡ foreign_len (length (drop at s)) h
unfolding foreign_len
foreign_len-here s at r h long q =
    let same : length s - at - 8 ≡ length s - (at + 8) = omega arith in
    rw (length-drop, same) (omega arith)

-- what `run_used` computes where a chunk of the sort stands
pub run_used-here : (s : List ℕ) (at k r : ℕ) {h : ResChunkHeader} → header_of (drop at s) ≡ Some h → chunk_sort h ≡ k → at ≤ length s
    → r ≡ at + 8 + content_size (length s - (at + 8)) h.size → (r - at ≡ run_used k (drop at s)) × (at + (r - at) ≤ length s)
run_used-here s at k r {h} w e p q =
    let long : at + 8 ≤ length s = header_of-long-at s at w p in (
      foreign_len-here s at r h long q ∙ sym (run_used-same k (drop at s) w e),
      omega (arith, content_size-le (length s - (at + 8)) h.size),
    )
