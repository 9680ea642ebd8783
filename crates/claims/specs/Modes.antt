-- Attributes read in the first mode beside those read in the second: docs/FORMAT.md, W22, W23, B16.
--
--   merged_prefix   the prefix that the first mode gives where the second gives p
--   Merges         the first list of records is the second without some, in the same order; where a record of the second has prefix 3, it has 1
use Rattle.std.specs.Prelude.{ℕ, List, [], ◌++◌, cond, eqb}
use Rattle.records.specs.Words.{attribute_words, own_prefix}

abbrev pub merged_prefix : ℕ → ℕ
merged_prefix p = cond (eqb p own_prefix) 1 p

pub data Merges : List ℕ → List ℕ → Type 0 where
  none : Merges [] []
  both : (owner p name kind value ns : ℕ) {xs ys : List ℕ} → Merges xs ys
      → Merges (xs ++ attribute_words owner (merged_prefix p) name kind value ns) (ys ++ attribute_words owner p name kind value ns)
  lost : (owner p name kind value ns : ℕ) {xs ys : List ℕ} → Merges xs ys → Merges xs (ys ++ attribute_words owner p name kind value ns)
