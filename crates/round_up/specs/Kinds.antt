-- The notes of a table by kind, from the words of the table: docs/FORMAT.md, R4, B12.
--
--   kinds_from   the kinds of the first n notes of a table
--   how_many     how often a number stands in a list
--   tally       how often each of the n numbers from k on stands in a list
--   kinds_in     THE PROMISE of `kinds_in`: how many of the first `notes` notes, or of all if there are fewer, are of each kind from 0 to 12. A note of
--               any other kind is not counted, and words behind the last whole note are none
--   in_grid      how many of these kinds are 0 to 12: what the counts of `kinds_in` sum up to
use Rattle.std.specs.Prelude.{ℕ, zero, suc, ◌+◌, ◌/◌, min, cond, List, [], ◌∷◌, length, get_or, drop, ltb, eqb}
use Rattle.records.specs.Words.{note_width, note_kind}
use Rattle.round_up.specs.RoundUp.{kinds}

unfoldable pub kinds_from : ℕ → List ℕ → List ℕ
kinds_from zero words = []
kinds_from (suc n) words = get_or words note_kind 0 ∷ kinds_from n (drop note_width words)

unfoldable pub how_many : ℕ → List ℕ → ℕ
how_many k [] = 0
how_many k (x ∷ xs) = cond (eqb x k) 1 0 + how_many k xs

unfoldable pub tally : ℕ → ℕ → List ℕ → List ℕ
tally zero k xs = []
tally (suc n) k xs = how_many k xs ∷ tally n (suc k) xs

abbrev pub kinds_in : List ℕ → ℕ → List ℕ
kinds_in words notes = tally kinds 0 (kinds_from (min notes (length words / note_width)) words)

unfoldable pub in_grid : List ℕ → ℕ
in_grid [] = 0
in_grid (x ∷ xs) = cond (ltb x kinds) 1 0 + in_grid xs
