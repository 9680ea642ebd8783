-- A history of files, added one after another: the words of the claims about a round-up. docs/FORMAT.md, R7, R8.
--
--   File        a file as `add_reading` is told of it: its kept notes by kind, the answer of its reading, its length in bytes
--   share_in     what it adds
--   next        the round-up after it is added, or has met 29
--   after       the round-up after all of these, in their order
--   is_added     whether an answer is that of a file that was added
--   NoneFull    none of these meets 29
--   added_in     of these, those that were added: the history
--   total       the sum of numbers
--   kept_of      the kept notes of kinds 0 to 12 of a file: 0 for one that was refused
--   kept_in      of all of these
use Rattle.std.specs.Prelude.{ℕ, ◌+◌, ◌≡◌, Bool, true, false, cond, List, [], ◌∷◌, ◌++◌, length, Result, Ok, Err}
use Rattle.round_up.specs.declared.RoundUp.{RoundUp}
use Rattle.round_up.specs.RoundUp.{kinds, share_of, added_to}
use Rattle.errors.specs.declared.ReadCounts.{ReadCounts}
use Rattle.errors.specs.declared.Refusal.{Refusal}

pub record File : Type 0 where
  pub kept : List ℕ
  pub thirteen : length kept ≡ kinds
  pub answer : Result ReadCounts Refusal
  pub bytes : ℕ

abbrev pub share_in : File → List ℕ
share_in f = share_of f.kept f.answer f.bytes

abbrev pub next : RoundUp → File → RoundUp
next r f = (added_to r (share_in f)).round_up

unfoldable pub after : RoundUp → List File → RoundUp
after r [] = r
after r (f ∷ fs) = after (next r f) fs

abbrev pub is_added : Result (Unit {0}) Refusal → Bool
is_added (Ok u) = true
is_added (Err x) = false

unfoldable pub NoneFull : RoundUp → List File → Type 0
NoneFull r [] = Unit {0}
NoneFull r (f ∷ fs) = ((added_to r (share_in f)).answer ≡ Ok tt) × NoneFull (next r f) fs

unfoldable pub added_in : RoundUp → List File → List File
added_in r [] = []
added_in r (f ∷ fs) = cond (is_added (added_to r (share_in f)).answer) (f ∷ []) [] ++ added_in (next r f) fs

unfoldable pub total : List ℕ → ℕ
total [] = 0
total (n ∷ l) = n + total l

abbrev pub kept_by : Result ReadCounts Refusal → List ℕ → ℕ
kept_by (Ok c) counts = total counts
kept_by (Err x) counts = 0

abbrev pub kept_of : File → ℕ
kept_of f = kept_by f.answer f.kept

unfoldable pub kept_in : List File → ℕ
kept_in [] = 0
kept_in (f ∷ fs) = kept_of f + kept_in fs
