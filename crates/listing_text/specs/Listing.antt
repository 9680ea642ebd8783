-- A listing as data, and its text: docs/FORMAT.md, L1 to L4.
--
--   Field       a key and a number, `key=number`
--   line_text    the fields of a line with a space between them, and a newline at its end
--   record_lines the lines of a table's records: nodes and attributes
--   listing     the lines of an answer: seven lines of one field each, then a line for each node, attribute and note
--   listing_text their text
--
-- A refusal has the first seven lines alone, the last four 0. Numbers are in decimal (digits/specs/Digits.antt). Laws: proofs/Laws.antt.
use Rattle.std.specs.Prelude.{ℕ, zero, suc, ◌+◌, List, [], ◌∷◌, ◌++◌, cond, length, drop, get_or, ltb}
use Rattle.anomaly.specs.declared.Note.{Note}
use Rattle.digits.specs.Digits.{decimal}
use Rattle.errors.specs.declared.Numbers.{Numbers}
use Rattle.records.specs.Words.{node_width, node_name, node_fixed, node_parent, node_first, node_count, node_line as line_word}
use Rattle.records.specs.Words.{attribute_width, attribute_owner, attribute_prefix, attribute_name, attribute_type, attribute_data, attribute_namespace}
use Rattle.listing_text.specs.Keys.{refusal_key, value_key, cap_key, starts_key, nodes_key, attributes_key, notes_key}
use Rattle.listing_text.specs.Keys.{node_key, name_key, fixed_key, parent_key, first_key, count_key, line_key}
use Rattle.listing_text.specs.Keys.{attribute_key, owner_key, prefix_key, type_key, data_key, ns_key, note_key, kind_key, a_key, b_key}

pub record Field : Type 0 where
  pub key : List ℕ
  pub number : ℕ

abbrev pub Line : Type 0
Line = List Field

-- ---- the printer

unfoldable pub field_text : Field → List ℕ
field_text f = f.key ++ (61 ∷ decimal f.number)

unfoldable pub line_text : Line → List ℕ
unfolding field_text
line_text [] = 10 ∷ []
line_text (f ∷ []) = field_text f ++ (10 ∷ [])
line_text (f ∷ g ∷ fs) = field_text f ++ (32 ∷ line_text (g ∷ fs))

unfoldable pub lines_text : List Line → List ℕ
unfolding line_text
lines_text [] = []
lines_text (l ∷ ls) = line_text l ++ lines_text ls

-- ---- the lines

abbrev pub field : List ℕ → ℕ → Field
field k n = record { key = k; number = n }

-- refusal, value, cap, starts, nodes, attributes, notes
abbrev pub head_lines : ℕ → Numbers → List Line
head_lines cap n =
    (field refusal_key n.refusal ∷ []) ∷ (field value_key n.value ∷ []) ∷ (field cap_key cap ∷ []) ∷ (field starts_key n.starts ∷ []) ∷
    (field nodes_key n.nodes ∷ []) ∷ (field attributes_key n.attributes ∷ []) ∷ (field notes_key n.notes ∷ []) ∷ []

abbrev pub node_line : ℕ → List ℕ → Line
node_line k w =
    field node_key k ∷ field name_key (get_or w node_name 0) ∷ field fixed_key (get_or w node_fixed 0) ∷ field parent_key (get_or w node_parent 0) ∷
    field first_key (get_or w node_first 0) ∷ field count_key (get_or w node_count 0) ∷ field line_key (get_or w line_word 0) ∷ []

abbrev pub attribute_line : ℕ → List ℕ → Line
attribute_line k w =
    field attribute_key k ∷ field owner_key (get_or w attribute_owner 0) ∷ field prefix_key (get_or w attribute_prefix 0) ∷ field name_key (get_or w attribute_name 0) ∷
    field type_key (get_or w attribute_type 0) ∷ field data_key (get_or w attribute_data 0) ∷ field ns_key (get_or w attribute_namespace 0) ∷ []

-- the n records whose words follow, so many words each, numbered from k; a record that is not there whole makes no line
unfoldable pub record_lines : ℕ → (ℕ → List ℕ → Line) → ℕ → ℕ → List ℕ → List Line
record_lines width line k zero w = []
record_lines width line k (suc n) w = cond (ltb (length w) width) [] (line k w ∷ record_lines width line (k + 1) n (drop width w))

abbrev pub node_lines : ℕ → ℕ → List ℕ → List Line
node_lines k n w = record_lines node_width node_line k n w

abbrev pub attribute_lines : ℕ → ℕ → List ℕ → List Line
attribute_lines k n w = record_lines attribute_width attribute_line k n w

abbrev pub note_line : ℕ → Note → Line
note_line k o = field note_key k ∷ field kind_key o.kind ∷ field a_key o.a ∷ field b_key o.b ∷ []

-- the first n notes, numbered from k
unfoldable pub note_lines : ℕ → ℕ → List Note → List Line
note_lines k zero os = []
note_lines k (suc n) [] = []
note_lines k (suc n) (o ∷ os) = note_line k o ∷ note_lines (k + 1) n os

unfoldable pub listing : ℕ → Numbers → List ℕ → List ℕ → List Note → List Line
unfolding record_lines note_lines
listing cap n ns ats os = head_lines cap n ++ (node_lines 0 n.nodes ns ++ (attribute_lines 0 n.attributes ats ++ note_lines 0 n.notes os))

unfoldable pub listing_text : ℕ → Numbers → List ℕ → List ℕ → List Note → List ℕ
unfolding listing lines_text
listing_text cap n ns ats os = lines_text (listing cap n ns ats os)
