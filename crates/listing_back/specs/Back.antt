-- A listing read back: docs/FORMAT.md, L7 to L9.
--
--   is_listed     the refusals that a listing can have, and 0: what the listing program answers
--   is_plain      those without a value
--   head_of       the seven lines of every listing: refusal, value, cap, starts, nodes, attributes, notes
--   Relisting    what a listing says: the cap, the numbers, and the words of all records, notes three words to a place
--   relisting    THE DEFINITION: what the text says in tables of so many words, or the refusal of the first line with a fault
--   relist_text   the text of what a listing says, as the printer has it
--   Relists      THE PROMISE of `read_listing`: numbers, cap and every word of the three tables. Where the reader itself refuses (8 to 10, 24 to 26)
--                the counts, the cap and all words are 0
--
-- A cap of 0 says that notes are unknown: a listing made with notes switched off is read, and has none. That `relist_text` is the only text of
-- a relisting, and that each that can be printed reads back: proofs/Whole.antt. Two claims of crate claims say it of the calls.
use Rattle.std.specs.Prelude.{ℕ, ◌+◌, ◌/◌, ◌≡◌, Bool, true, cond, not, ◌&&◌, ◌||◌, List, [], ◌∷◌, ◌++◌, length, get_or, eqb, leb}
use Rattle.digits.specs.Written.{fitted}
use Rattle.errors.specs.declared.Numbers.{Numbers}
use Rattle.errors.specs.Refusal.{numbers_of}
use Rattle.records.specs.Words.{node_width, attribute_width, note_width, note_kind, note_a, note_b}
use Rattle.listing_text.specs.Keys.{refusal_key, value_key, cap_key, starts_key, nodes_key, attributes_key, notes_key}
use Rattle.listing_text.specs.Listing.{Line, field, lines_text, head_lines, node_line, attribute_line, note_line, record_lines}
use Rattle.listing_back.specs.Forms.{form_text, node_form, attribute_form, note_form}
use Rattle.listing_back.specs.Due.{Step, stops, goes, Test, Table, head_line, records, ended}
use Rattle.listing_back.specs.declared.Relisted.{Relisted}

-- ---- the head

-- 0 to 3, 6, 41 to 45, 51, 52
abbrev pub is_listed : ℕ → Bool
is_listed n = leb n 3 || (eqb n 6 || ((leb 41 n && leb n 45) || (leb 51 n && leb n 52)))

abbrev pub is_plain : ℕ → Bool
is_plain n = eqb n 0 || (eqb n 2 || eqb n 6)

-- 0, where the test holds
abbrev pub zero_where : Bool → ℕ → Bool
zero_where b n = cond b (eqb n 0) true

abbrev pub refusal_test : Test
refusal_test = λ ws n. is_listed n

abbrev pub value_test : Test
value_test = λ ws n. zero_where (is_plain (get_or ws 0 0)) n

abbrev pub any_test : Test
any_test = λ ws n. true

-- a count: 0 beside a refusal
abbrev pub count_test : Test
count_test = λ ws n. zero_where (not (eqb (get_or ws 0 0) 0)) n

-- notes: 0 at cap 0 too
abbrev pub notes_test : Test
notes_test = λ ws n. count_test ws n && zero_where (eqb (get_or ws 2 0) 0) n

abbrev pub head_form : List ℕ → List ℕ
head_form key = form_text (field key 0 ∷ [])

unfoldable pub head_of : List ℕ → Step
unfolding form_text
head_of s =
    head_line (head_form notes_key) 7 notes_test
    (head_line (head_form attributes_key) 6 count_test
    (head_line (head_form nodes_key) 5 count_test
    (head_line (head_form starts_key) 4 count_test
    (head_line (head_form cap_key) 3 any_test
    (head_line (head_form value_key) 2 value_test
    (head_line (head_form refusal_key) 1 refusal_test (goes [] s)))))))

-- ---- the whole

pub record Relisting : Type 0 where
  pub cap : ℕ
  pub numbers : Numbers
  pub nodes : List ℕ
  pub attributes : List ℕ
  pub notes : List ℕ

-- a refusal of the reader's own, its number and its value; or what the listing says
pub data Found : Type 0 where
  fault : ℕ → ℕ → Found
  found : Relisting → Found

-- the words of the three tables that are lent
pub record Words : Type 0 where
  pub nodes : ℕ
  pub attributes : ℕ
  pub notes : ℕ

abbrev pub node_table : Words → Table
node_table w = record { form = node_form; places = w.nodes / node_width; full = 8 }

abbrev pub attribute_table : Words → Table
attribute_table w = record { form = attribute_form; places = w.attributes / attribute_width; full = 9 }

abbrev pub note_table : Words → Table
note_table w = record { form = note_form; places = w.notes / note_width; full = 10 }

-- the numbers of the head, in their order
abbrev pub head_numbers : List ℕ → Numbers
head_numbers h = record {
  refusal = get_or h 0 0;
  value = get_or h 1 0;
  starts = get_or h 3 0;
  nodes = get_or h 4 0;
  attributes = get_or h 5 0;
  notes = get_or h 6 0;
}

abbrev pub head_cap : List ℕ → ℕ
head_cap h = get_or h 2 0

abbrev pub in_notes : List ℕ → List ℕ → List ℕ → Step → Found
in_notes h ns ats (stops number value) = fault number value
in_notes h ns ats (goes os s) =
    found (record { cap = head_cap h; numbers = head_numbers h; nodes = ns; attributes = ats; notes = os })

abbrev pub in_attributes : Words → List ℕ → List ℕ → Step → Found
in_attributes w h ns (stops number value) = fault number value
in_attributes w h ns (goes ats s) =
    let n = head_numbers h in
    let line = 8 + n.nodes + n.attributes in
    in_notes h ns ats (ended (line + n.notes) (records (note_table w) line 0 n.notes (goes [] s)))

abbrev pub in_nodes : Words → List ℕ → Step → Found
in_nodes w h (stops number value) = fault number value
in_nodes w h (goes ns s) =
    in_attributes w h ns (records (attribute_table w) (8 + (head_numbers h).nodes) 0 (head_numbers h).attributes (goes [] s))

abbrev pub in_head : Words → Step → Found
in_head w (stops number value) = fault number value
in_head w (goes h s) = in_nodes w h (records (node_table w) 8 0 (head_numbers h).nodes (goes [] s))

unfoldable pub relisting : Words → List ℕ → Found
unfolding head_of records form_text
relisting w s = in_head w (head_of s)

-- ---- the text of a relisting

-- the line of a note whose words are lent
abbrev pub note_words_line : ℕ → List ℕ → Line
note_words_line k w = note_line k (record { kind = get_or w note_kind 0; a = get_or w note_a 0; b = get_or w note_b 0 })

unfoldable pub relist_text : Relisting → List ℕ
unfolding lines_text record_lines
relist_text r =
    lines_text (head_lines r.cap r.numbers ++ (record_lines node_width node_line 0 r.numbers.nodes r.nodes ++
    (record_lines attribute_width attribute_line 0 r.numbers.attributes r.attributes ++ record_lines note_width note_words_line 0 r.numbers.notes r.notes)))

-- ---- the promise

abbrev pub fault_numbers : ℕ → ℕ → Numbers
fault_numbers number value = record { refusal = number; value = value; starts = 0; nodes = 0; attributes = 0; notes = 0 }

abbrev pub fault_relisting : ℕ → ℕ → Relisting
fault_relisting number value = record { cap = 0; numbers = fault_numbers number value; nodes = []; attributes = []; notes = [] }

-- what is told of either
abbrev pub told : Found → Relisting
told (fault number value) = fault_relisting number value
told (found r) = r

-- in tables with these contents before the call
abbrev pub relisted_in : List ℕ → List ℕ → List ℕ → List ℕ → Relisting
relisted_in text ns ats os = told (relisting (record { nodes = length ns; attributes = length ats; notes = length os }) text)

pub record Relists (text ns ats os : List ℕ) (r : Relisted) (ns' ats' os' : List ℕ) : Type 0 where
  pub answer : numbers_of r.answer ≡ (relisted_in text ns ats os).numbers
  pub capped : r.cap ≡ (relisted_in text ns ats os).cap
  pub nodes : ns' ≡ fitted (relisted_in text ns ats os).nodes (length ns)
  pub attributes : ats' ≡ fitted (relisted_in text ns ats os).attributes (length ats)
  pub notes : os' ≡ fitted (relisted_in text ns ats os).notes (length os)
