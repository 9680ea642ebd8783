-- What is due at a place of a listing, and what is wrong there: docs/FORMAT.md, L7, L8.
--
--   Step         what the lines so far leave: a refusal's number and its value, or the numbers that were taken and the bytes behind them
--   is_over       more than 32 bits hold
--   stray        what is wrong with the line at the front, which is not the one due: 26 at the end of the text and for a line of another form, 25 where
--                a number of that line is over, 24 where it has none of the ten forms
--   head_line     a line of one number is due. In this order: 24 where the test does not take the number, 25 where it is over
--   record_line   the line of record k is due. In this order: 25, 26 for another record's number, and the table's own refusal where it has no place
--                for this record. The record's words are the numbers behind its own
--   records      the lines of n records from the k-th on, of which the first is the line with this number
--   ended        nothing more is due
--
-- Once there is a refusal nothing is looked at any more. Laws: proofs/Steps.antt.
use Rattle.std.specs.Prelude.{ℕ, zero, suc, ◌+◌, Bool, false, cond, ◌||◌, List, [], ◌∷◌, ◌++◌, drop, get_or, eqb, ltb}
use Rattle.listing_back.specs.Forms.{Front, lost, front, held, taken, forms_of, forms}

pub data Step : Type 0 where
  stops : ℕ → ℕ → Step
  goes : List ℕ → List ℕ → Step

abbrev pub is_over : ℕ → Bool
is_over n = ltb 4294967295 n

unfoldable pub any_over : List ℕ → Bool
any_over [] = false
any_over (n ∷ ns) = is_over n || any_over ns

-- ---- a line that is not due

abbrev pub stray_by : Front → ℕ → ℕ
stray_by lost other = other
stray_by (front ns s) other = cond (any_over ns) 25 26

unfoldable pub stray_in : List (List ℕ) → List ℕ → ℕ
unfolding any_over held
stray_in [] s = 24
stray_in (form ∷ rest) s = stray_by (taken form s) (stray_in rest s)

unfoldable pub stray : List ℕ → ℕ
unfolding stray_in forms_of
stray [] = 26
stray (b ∷ s) = stray_in forms (b ∷ s)

-- ---- a line that is due

-- a test of a number, by the numbers before it
abbrev pub Test : Type 0
Test = List ℕ → ℕ → Bool

abbrev pub head_by : Test → ℕ → List ℕ → List ℕ → Front → Step
head_by ok line ws s lost = stops (stray s) line
head_by ok line ws s (front ns r) =
    cond (ok ws (get_or ns 0 0)) (cond (any_over ns) (stops 25 line) (goes (ws ++ ns) r)) (stops 24 line)

abbrev pub head_line : List ℕ → ℕ → Test → Step → Step
head_line form line ok (stops number value) = stops number value
head_line form line ok (goes ws s) = head_by ok line ws s (taken form s)

-- a table of records: the form of its lines, its places, and the refusal where there is none
pub record Table : Type 0 where
  pub form : List ℕ
  pub places : ℕ
  pub full : ℕ

abbrev pub record_by : Table → ℕ → ℕ → List ℕ → List ℕ → Front → Step
record_by t line k ws s lost = stops (stray s) line
record_by t line k ws s (front ns r) =
    cond (any_over ns) (stops 25 line)
    (cond (eqb (get_or ns 0 0) k) (cond (ltb k t.places) (goes (ws ++ drop 1 ns) r) (stops t.full t.places)) (stops 26 line))

abbrev pub record_line : Table → ℕ → ℕ → Step → Step
record_line t line k (stops number value) = stops number value
record_line t line k (goes ws s) = record_by t line k ws s (taken t.form s)

unfoldable pub records : Table → ℕ → ℕ → ℕ → Step → Step
unfolding stray any_over held
records t line k zero st = st
records t line k (suc n) st = records t (line + 1) (k + 1) n (record_line t line k st)

abbrev pub ended : ℕ → Step → Step
ended line (stops number value) = stops number value
ended line (goes ws []) = goes ws []
ended line (goes ws (b ∷ s)) = stops (stray (b ∷ s)) line
