-- The words of records at their places, in tables that grow: docs/FORMAT.md, B9 to B11. For proofs/Structure/Shape.antt and others.
--
--   place-lt   a word of one of n records stands in the table
--   word-old, word-new, word-other, word_same   the words of records behind new ones, and where the count of a node is written
use Prim.Native.Nat.{ℕ, suc, ◌+◌, ◌*◌, ◌≤◌, ◌<◌}
use native.Mathlib.Omega.{arith}
use native.Mathlib.Nat.{mul-suc, mul-le-mul_left}
use mathlib.Core.Path.{◌≡◌, sym, ◌∙◌, ap}
use mathlib.Core.List.{List, ◌++◌}
use lib.ListN.{length, set, get_or, get_or-append}
use lib.Seq.{get_or-append-add, get_or-set_same, get_or-set_other}
use Rattle.records.specs.Words.{node_width, node_count}
use Rattle.claims.specs.Shape.{word, node_word}

-- a word of one of n records stands in the table
pub place-lt : (width n i k : ℕ) → i < n → k < width → width * i + k < width * n
place-lt width n i k h g =
    let e : width * suc i ≡ width * i + width = mul-suc width i in
    let l : width * suc i ≤ width * n = mul-le-mul_left width h in
    omega (arith, e, l)

module _ (width : ℕ) (w v : List ℕ) (n : ℕ) (len : length w ≡ width * n) where
  pub word-old : (i k : ℕ) → i < n → k < width → word width (w ++ v) i k ≡ word width w i k
  word-old i k h g = get_or-append w v 0 (width * i + k) (omega (arith, place-lt width n i k h g))

  pub word-new : (k : ℕ) → word width (w ++ v) n k ≡ get_or v k 0
  word-new k = ap (λ (i : ℕ). get_or (w ++ v) (i + k) 0) (sym len) ∙ get_or-append-add w v k 0

-- the count of the node j is written
abbrev pub counting : List ℕ → ℕ → ℕ → List ℕ
counting w j x = set w (node_width * j + node_count) x

pub word-other : (w : List ℕ) (j i k x : ℕ) → (i ≡ j → k ≡ node_count → ⊥) → k < node_width → node_word (counting w j x) i k ≡ node_word w i k
word-other w j i k x h g = get_or-set_other w (node_width * j + node_count) (node_width * i + k) x 0 (λ e. h (omega arith) (omega arith))

pub word_same : (w : List ℕ) (j x : ℕ) → node_width * (j + 1) ≤ length w → node_word (counting w j x) j node_count ≡ x
word_same w j x l = get_or-set_same w (node_width * j + node_count) x 0 (omega arith)
