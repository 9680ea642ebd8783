-- Askers in general, which answer many pairs at once, and a sort of askers that the promise must rule out: docs/FORMAT.md, M, P5.
--
--   Ask           what a program can be called with: bytes and words
--   Asker         takes what a call of `first_values` is lent, and gives an answer and the list afterwards
--   MeetsAll      the promise holds of all its results, asked of calls alone, so that a program is an asker
--   TwelveToAll   it says 12 to every pair of every call that it answers
use Rattle.std.specs.Prelude.{ℕ, ◌+◌, ◌*◌, ◌<◌, ◌≡◌, List, get_or, Result, Ok}
use Rattle.records.specs.Words.{answer_width, answer_refusal}
use Rattle.system_types.specs.Names.{Lent}
use Rattle.first_values.specs.Pairs.{ManyReads}
use Rattle.claims.specs.Readers.{Bytes, Words}
use Rattle.errors.specs.declared.Refusal.{Refusal}

pub record Ask (f : List ℕ) (lent : Lent) (ns ats pairs area before : List ℕ) (nodes attributes : ℕ) : Type 0 where
  pub file : Bytes f
  pub name_words : Words lent.names
  pub area_bytes : Bytes lent.area
  pub node_words : Words ns
  pub attribute_words : Words ats
  pub pair_words : Words pairs
  pub pair_bytes : Bytes area
  pub answer_words : Words before
  pub node_count : nodes < 4294967296
  pub attribute_count : attributes < 4294967296

pub record Asked : Type 0 where
  pub answer : Result ℕ Refusal
  pub list : List ℕ

-- from file, names and their area, the tables of nodes and attributes, pairs and their area, the list, and the two counts
abbrev pub Asker : Type 0
Asker = List ℕ → Lent → List ℕ → List ℕ → List ℕ → List ℕ → List ℕ → ℕ → ℕ → Asked

abbrev pub MeetsAll : Asker → Type 0
MeetsAll A =
    (f : List ℕ) (lent : Lent) (ns ats pairs area before : List ℕ) (nodes attributes : ℕ) → Ask f lent ns ats pairs area before nodes attributes
    → ManyReads f lent ns ats pairs area before nodes attributes (A f lent ns ats pairs area before nodes attributes).answer
    (A f lent ns ats pairs area before nodes attributes).list

abbrev pub TwelveToAll : Asker → Type 0
TwelveToAll A =
    (f : List ℕ) (lent : Lent) (ns ats pairs area before : List ℕ) (nodes attributes : ℕ) → Ask f lent ns ats pairs area before nodes attributes
    → (n i : ℕ) → (A f lent ns ats pairs area before nodes attributes).answer ≡ Ok n → i < n
    → ◌≡◌ {A = ℕ} (get_or (A f lent ns ats pairs area before nodes attributes).list (answer_width * i + answer_refusal) 0) 12
