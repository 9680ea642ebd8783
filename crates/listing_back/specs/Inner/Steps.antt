-- How the structs of the code stand for what the lines so far leave.
--
--   equals_in     how many numbers a form has
--   TakesAlone   a line of which no word is kept
--   test_by       a test of a number by its kind: a refusal that can be listed, zero, any number
--   step_of       what the lines so far leave, with the numbers that were taken
--   CountsOn     a line of the head more, whatever the numbers before it, where the test is one of the three kinds
--   RecordOn     the line of a record more, its words behind those before it; RecordsOn the lines of all records of a table
--   EndsOn       the end of the text
use Rattle.std.specs.Prelude.{ℕ, suc, ◌+◌, ◌*◌, ◌/◌, ◌≤◌, ◌≡◌, Bool, true, cond, Option, List, [], ◌∷◌, ◌++◌, length, take, drop, eqb}
use Rattle.listing_back.specs.Forms.{Front}
use Rattle.listing_back.specs.Due.{Step, stops, goes, Test, Table, head_line, record_line, records, ended}
use Rattle.listing_back.specs.Back.{is_listed}
use Rattle.listing_back.specs.Inner.Stands.{Holds, form_at}
use Rattle.listing_back.specs.declared.taking.Taking.{Taking}
use Rattle.listing_back.specs.declared.stepping.Kind.{Kind}
use Rattle.listing_back.specs.declared.stepping.Kind.TheVariants.{Any, Zero, Code}
use Rattle.listing_back.specs.declared.stepping.Spot.{Spot}

unfoldable pub equals_in : List ℕ → ℕ
equals_in [] = 0
equals_in (c ∷ form) = cond (eqb c 61) (suc (equals_in form)) (equals_in form)

pub record TakesAlone (text : List ℕ) (r : Option Taking) (x : Front) : Type 0 where
  pub before : List ℕ
  pub after : List ℕ
  pub holds : Holds text 1 before after r x

abbrev pub test_by : Kind → ℕ → Bool
test_by Any n = true
test_by Zero n = eqb n 0
test_by Code n = is_listed n

abbrev pub step_of : List ℕ → List ℕ → Spot → Step
step_of text ws p = cond (eqb p.fault 0) (goes ws (drop p.at text)) (stops p.fault p.value)

pub record CountsOn (text : List ℕ) (before : Spot) (n line : ℕ) (kind : Kind) (r : Spot) : Type 0 where
  pub step : (ws : List ℕ) (ok : Test) → ((v : ℕ) → ok ws v ≡ test_by kind v) →
      step_of text (ws ++ (r.number ∷ [])) r ≡ head_line (form_at n) line ok (step_of text ws before)
  pub inside : r.at ≤ length text

abbrev pub table_of : ℕ → ℕ → ℕ → Table
table_of n places full = record { form = form_at n; places = places; full = full }

-- of the record at the place i, which has so many words
pub record RecordOn (text : List ℕ) (before : Spot) (line n : ℕ) (words : List ℕ) (i k places full : ℕ) (r : Spot) (words' : List ℕ) : Type 0 where
  pub step : (width : ℕ) → equals_in (form_at n) ≡ suc width → (k + 1 ≤ places → i + width ≤ length words) → (full ≡ 0 → ⊥) →
      step_of text (take (i + width) words') r ≡ record_line (table_of n places full) line k (step_of text (take i words) before)
  pub room : r.fault ≡ 0 → (full ≡ 0 → ⊥) → k + 1 ≤ places
  pub inside : r.at ≤ length text
  pub same : length words' ≡ length words

pub record RecordsOn (text : List ℕ) (before : Spot) (line n width count full : ℕ) (words : List ℕ) (r : Spot) (words' : List ℕ) : Type 0 where
  pub step : step_of text (take (width * count) words') r ≡ records (table_of n (length words / width) full) line 0 count (step_of text [] before)
  pub room : r.fault ≡ 0 → width * count ≤ length words
  pub inside : r.at ≤ length text
  pub same : length words' ≡ length words

pub record EndsOn (text : List ℕ) (before : Spot) (line : ℕ) (r : Spot) : Type 0 where
  pub step : (ws : List ℕ) → step_of text ws r ≡ ended line (step_of text ws before)
  pub inside : r.at ≤ length text
