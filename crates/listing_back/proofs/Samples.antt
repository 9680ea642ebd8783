-- The definitions computed: a listing read back whole, and the smallest texts that are refused. No contract cites this file.
-- The listing of the sample and its lines are those of listing_text/proofs/Sample.antt; each other text stands above its bytes, \n for a newline.
use Prim.Native.Nat.{ℕ, ◌-◌}
use mathlib.Core.Path.{◌≡◌, refl}
use mathlib.Core.List.{List, [], ◌∷◌, ◌++◌}
use lib.ListN.{length, take}
use Rattle.digits.specs.Digits.{digits}
use Rattle.listing_text.specs.Listing.{field_text, line_text, lines_text, record_lines}
use Rattle.listing_text.proofs.Sample.{sample_numbers, sample_nodes, sample_attributes, sample_text}
use Rattle.listing_text.proofs.Sample.{refusal_line, value_line, cap_line, starts_line, nodes_line, attributes_line, notes_line, node_text, attribute_text}
use Rattle.listing_back.specs.Forms.{digits_from, number_at_front, form_text, held, forms_of}
use Rattle.listing_back.specs.Due.{any_over, stray_in, stray, records}
use Rattle.listing_back.specs.Back.{Relisting, Found, fault, found, Words, head_of, relisting, relist_text, fault_numbers}

abbrev room : Words
room = record { nodes = 20; attributes = 20; notes = 20 }

abbrev none : Words
none = record { nodes = 4; attributes = 20; notes = 20 }

-- all but the last byte
abbrev cut : List ℕ → List ℕ
cut l = take (length l - 1) l

abbrev head_text : List ℕ
head_text = refusal_line ++ value_line ++ cap_line ++ starts_line ++ nodes_line ++ attributes_line ++ notes_line

abbrev sample : Relisting
sample = record { cap = 8; numbers = sample_numbers; nodes = sample_nodes; attributes = sample_attributes; notes = [] }

-- refusal=7\n
abbrev seventh : List ℕ
seventh = 114 ∷ 101 ∷ 102 ∷ 117 ∷ 115 ∷ 97 ∷ 108 ∷ 61 ∷ 55 ∷ 10 ∷ []

-- refusal=0\r\n
abbrev crlf : List ℕ
crlf = 114 ∷ 101 ∷ 102 ∷ 117 ∷ 115 ∷ 97 ∷ 108 ∷ 61 ∷ 48 ∷ 13 ∷ 10 ∷ []

-- refusal=4294967296\n
abbrev large_refusal : List ℕ
large_refusal = 114 ∷ 101 ∷ 102 ∷ 117 ∷ 115 ∷ 97 ∷ 108 ∷ 61 ∷ 52 ∷ 50 ∷ 57 ∷ 52 ∷ 57 ∷ 54 ∷ 55 ∷ 50 ∷ 57 ∷ 54 ∷ 10 ∷ []

-- cap=08\n
abbrev padded : List ℕ
padded = 99 ∷ 97 ∷ 112 ∷ 61 ∷ 48 ∷ 56 ∷ 10 ∷ []

-- starts=+1\n
abbrev plus : List ℕ
plus = 115 ∷ 116 ∷ 97 ∷ 114 ∷ 116 ∷ 115 ∷ 61 ∷ 43 ∷ 49 ∷ 10 ∷ []

-- nodes=4294967296\n
abbrev large_nodes : List ℕ
large_nodes = 110 ∷ 111 ∷ 100 ∷ 101 ∷ 115 ∷ 61 ∷ 52 ∷ 50 ∷ 57 ∷ 52 ∷ 57 ∷ 54 ∷ 55 ∷ 50 ∷ 57 ∷ 54 ∷ 10 ∷ []

-- notes=1\n
abbrev one_note : List ℕ
one_note = 110 ∷ 111 ∷ 116 ∷ 101 ∷ 115 ∷ 61 ∷ 49 ∷ 10 ∷ []

-- cap=0\n
abbrev cap_zero : List ℕ
cap_zero = 99 ∷ 97 ∷ 112 ∷ 61 ∷ 48 ∷ 10 ∷ []

-- value=5\n
abbrev second_value : List ℕ
second_value = 118 ∷ 97 ∷ 108 ∷ 117 ∷ 101 ∷ 61 ∷ 53 ∷ 10 ∷ []

-- refusal=1\n
abbrev first : List ℕ
first = 114 ∷ 101 ∷ 102 ∷ 117 ∷ 115 ∷ 97 ∷ 108 ∷ 61 ∷ 49 ∷ 10 ∷ []

-- cap=9\n
abbrev cap_nine : List ℕ
cap_nine = 99 ∷ 97 ∷ 112 ∷ 61 ∷ 57 ∷ 10 ∷ []

-- starts=0\nnodes=0\nattributes=0\nnotes=0\n
abbrev zeros : List ℕ
zeros =
    115 ∷ 116 ∷ 97 ∷ 114 ∷ 116 ∷ 115 ∷ 61 ∷ 48 ∷ 10 ∷ 110 ∷ 111 ∷ 100 ∷ 101 ∷ 115 ∷ 61 ∷ 48 ∷ 10 ∷ 97 ∷ 116 ∷ 116 ∷ 114 ∷ 105 ∷ 98 ∷ 117 ∷ 116 ∷ 101 ∷
    115 ∷ 61 ∷ 48 ∷ 10 ∷ 110 ∷ 111 ∷ 116 ∷ 101 ∷ 115 ∷ 61 ∷ 48 ∷ 10 ∷ []

-- node=1
abbrev other_node : List ℕ
other_node = 110 ∷ 111 ∷ 100 ∷ 101 ∷ 61 ∷ 49 ∷ []

-- \n
abbrev blank : List ℕ
blank = 10 ∷ []

-- each text, in order
abbrev texts : List (List ℕ)
texts =
    ([]) ∷
    (refusal_line) ∷
    (seventh) ∷
    (refusal_line ++ seventh) ∷
    (crlf) ∷
    (large_refusal) ∷
    (blank) ∷
    (refusal_line ++ value_line ++ padded) ∷
    (refusal_line ++ value_line ++ cap_line ++ plus) ∷
    (refusal_line ++ second_value) ∷
    (refusal_line ++ value_line ++ cap_line ++ nodes_line) ∷
    (refusal_line ++ value_line ++ cap_line ++ large_nodes) ∷
    (refusal_line ++ value_line ++ cap_zero ++ starts_line ++ nodes_line ++ attributes_line ++ one_note) ∷
    (first ++ second_value ++ cap_line ++ starts_line) ∷
    (head_text) ∷
    (cut sample_text) ∷
    (sample_text ++ blank) ∷
    (sample_text ++ cap_line) ∷
    (sample_text ++ large_nodes) ∷
    (head_text ++ other_node ++ cut node_text) ∷
    (head_text ++ attribute_text) ∷
    (head_text ++ node_text ++ node_text) ∷
    []

abbrev faults : List Found
faults =
    fault 26 1 ∷
    fault 26 2 ∷
    fault 24 1 ∷
    fault 26 2 ∷
    fault 24 1 ∷
    fault 24 1 ∷
    fault 24 1 ∷
    fault 24 3 ∷
    fault 24 4 ∷
    fault 24 2 ∷
    fault 26 4 ∷
    fault 25 4 ∷
    fault 24 7 ∷
    fault 24 4 ∷
    fault 26 8 ∷
    fault 24 9 ∷
    fault 24 10 ∷
    fault 26 10 ∷
    fault 25 10 ∷
    fault 24 8 ∷
    fault 26 8 ∷
    fault 26 9 ∷
    []

abbrev read : List (List ℕ) → List Found
read [] = []
read (t ∷ ts) = relisting room t ∷ read ts

-- what is refused, with the line
pub refused-right : read texts ≡ faults
unfolding digits_from number_at_front form_text held forms_of any_over stray_in stray records head_of relisting
refused-right = refl

-- what is read: the sample, one refused listing at another cap, notes as words, a cap of 0
pub sample-right : relisting room sample_text ≡ found sample
unfolding digits_from number_at_front form_text held forms_of any_over stray_in stray records head_of relisting
sample-right = refl

pub listed-right :
    relisting room (first ++ second_value ++ cap_nine ++ zeros) ≡
    found (record { cap = 9; numbers = fault_numbers 1 5; nodes = []; attributes = []; notes = [] })
unfolding digits_from number_at_front form_text held forms_of any_over stray_in stray records head_of relisting
listed-right = refl

pub unknown-right :
    relisting room (refusal_line ++ value_line ++ cap_zero ++ zeros) ≡
    found (record { cap = 0; numbers = fault_numbers 0 0; nodes = []; attributes = []; notes = [] })
unfolding digits_from number_at_front form_text held forms_of any_over stray_in stray records head_of relisting
unknown-right = refl

-- a record without a place: at its line, and only there
pub full-right : relisting none sample_text ≡ fault 8 0
unfolding digits_from number_at_front form_text held forms_of any_over stray_in stray records head_of relisting
full-right = refl

-- and back to its text
pub text-right : relist_text sample ≡ sample_text
unfolding digits field_text line_text lines_text record_lines relist_text
text-right = refl
