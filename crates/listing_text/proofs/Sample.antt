-- The listing of file S, computed: docs/FORMAT.md, L4. No contract cites this file.
-- One start, one node, one attribute and no note; each line stands above its bytes, and its newline is the 10 at their end.
use mathlib.Core.Path.{◌≡◌, refl}
use mathlib.Core.List.{List, [], ◌∷◌, ◌++◌}
use Prim.Native.Nat.{ℕ}
use Rattle.anomaly.specs.declared.Note.{Note}
use Rattle.errors.specs.declared.Numbers.{Numbers}
use Rattle.digits.specs.Digits.{digits}
use Rattle.listing_text.specs.Listing.{field_text, line_text, lines_text, record_lines, note_lines, listing, listing_text}

abbrev pub sample_numbers : Numbers
sample_numbers = record { refusal = 0; value = 0; starts = 1; nodes = 1; attributes = 1; notes = 0 }

abbrev pub sample_nodes : List ℕ
sample_nodes = 0 ∷ 0 ∷ 4294967295 ∷ 0 ∷ 1 ∷ 1 ∷ []

abbrev pub sample_attributes : List ℕ
sample_attributes = 0 ∷ 2 ∷ 0 ∷ 3 ∷ 0 ∷ 0 ∷ []

-- refusal=0
abbrev pub refusal_line : List ℕ
refusal_line = 114 ∷ 101 ∷ 102 ∷ 117 ∷ 115 ∷ 97 ∷ 108 ∷ 61 ∷ 48 ∷ 10 ∷ []

-- value=0
abbrev pub value_line : List ℕ
value_line = 118 ∷ 97 ∷ 108 ∷ 117 ∷ 101 ∷ 61 ∷ 48 ∷ 10 ∷ []

-- cap=8
abbrev pub cap_line : List ℕ
cap_line = 99 ∷ 97 ∷ 112 ∷ 61 ∷ 56 ∷ 10 ∷ []

-- starts=1
abbrev pub starts_line : List ℕ
starts_line = 115 ∷ 116 ∷ 97 ∷ 114 ∷ 116 ∷ 115 ∷ 61 ∷ 49 ∷ 10 ∷ []

-- nodes=1
abbrev pub nodes_line : List ℕ
nodes_line = 110 ∷ 111 ∷ 100 ∷ 101 ∷ 115 ∷ 61 ∷ 49 ∷ 10 ∷ []

-- attributes=1
abbrev pub attributes_line : List ℕ
attributes_line = 97 ∷ 116 ∷ 116 ∷ 114 ∷ 105 ∷ 98 ∷ 117 ∷ 116 ∷ 101 ∷ 115 ∷ 61 ∷ 49 ∷ 10 ∷ []

-- notes=0
abbrev pub notes_line : List ℕ
notes_line = 110 ∷ 111 ∷ 116 ∷ 101 ∷ 115 ∷ 61 ∷ 48 ∷ 10 ∷ []

-- node=0 name=0 fixed=0 parent=4294967295 first=0 count=1 line=1
abbrev pub node_text : List ℕ
node_text =
    110 ∷ 111 ∷ 100 ∷ 101 ∷ 61 ∷ 48 ∷ 32 ∷ 110 ∷ 97 ∷ 109 ∷ 101 ∷ 61 ∷ 48 ∷ 32 ∷ 102 ∷ 105 ∷ 120 ∷ 101 ∷ 100 ∷ 61 ∷ 48 ∷ 32 ∷ 112 ∷ 97 ∷
    114 ∷ 101 ∷ 110 ∷ 116 ∷ 61 ∷ 52 ∷ 50 ∷ 57 ∷ 52 ∷ 57 ∷ 54 ∷ 55 ∷ 50 ∷ 57 ∷ 53 ∷ 32 ∷ 102 ∷ 105 ∷ 114 ∷ 115 ∷ 116 ∷ 61 ∷ 48 ∷ 32 ∷ 99 ∷
    111 ∷ 117 ∷ 110 ∷ 116 ∷ 61 ∷ 49 ∷ 32 ∷ 108 ∷ 105 ∷ 110 ∷ 101 ∷ 61 ∷ 49 ∷ 10 ∷ []

-- attribute=0 owner=0 prefix=2 name=0 type=3 data=0 ns=0
abbrev pub attribute_text : List ℕ
attribute_text =
    97 ∷ 116 ∷ 116 ∷ 114 ∷ 105 ∷ 98 ∷ 117 ∷ 116 ∷ 101 ∷ 61 ∷ 48 ∷ 32 ∷ 111 ∷ 119 ∷ 110 ∷ 101 ∷ 114 ∷ 61 ∷ 48 ∷ 32 ∷ 112 ∷ 114 ∷ 101 ∷ 102 ∷
    105 ∷ 120 ∷ 61 ∷ 50 ∷ 32 ∷ 110 ∷ 97 ∷ 109 ∷ 101 ∷ 61 ∷ 48 ∷ 32 ∷ 116 ∷ 121 ∷ 112 ∷ 101 ∷ 61 ∷ 51 ∷ 32 ∷ 100 ∷ 97 ∷ 116 ∷ 97 ∷ 61 ∷ 48 ∷
    32 ∷ 110 ∷ 115 ∷ 61 ∷ 48 ∷ 10 ∷ []

abbrev pub sample_text : List ℕ
sample_text = refusal_line ++ value_line ++ cap_line ++ starts_line ++ nodes_line ++ attributes_line ++ notes_line ++ node_text ++ attribute_text

pub listing_text-sample : (os : List Note) → listing_text 8 sample_numbers sample_nodes sample_attributes os ≡ sample_text
unfolding digits field_text line_text lines_text record_lines note_lines listing listing_text
listing_text-sample os = refl
