-- Laws of specs/Listing.antt, for this crate and for whoever reads a listing. In order: lines, the words of a record.
-- Not here: decimal numbers (crate digits), greatest lengths (proofs/Lengths.antt).
use Rattle.std.specs.Prelude.{Err}
use Prim.Native.Nat.{ℕ, ◌+◌}
use mathlib.Core.Path.{◌≡◌, refl}
use mathlib.Core.List.{List, [], ◌∷◌, ◌++◌, append_assoc}
use lib.ListN.{get_or}
use Rattle.anomaly.specs.declared.Note.{Note}
use Rattle.errors.specs.declared.Refusal.{Refusal}
use Rattle.errors.specs.Refusal.{numbers_of}
use Rattle.records.specs.Words.{node_name, node_fixed, node_parent, node_first, node_count, node_line as line_word}
use Rattle.records.specs.Words.{attribute_owner, attribute_prefix, attribute_name, attribute_type, attribute_data, attribute_namespace}
use Rattle.listing_text.specs.Keys.{node_key, name_key, fixed_key, parent_key, first_key, count_key, line_key, attribute_key, owner_key, prefix_key, type_key, data_key, ns_key}
use Rattle.listing_text.specs.Listing.{Field, Line, field_text, line_text, lines_text, field, node_line, attribute_line}
use Rattle.listing_text.specs.Listing.{head_lines, record_lines, note_lines, listing}
use Rattle.listing_text.specs.Inner.Three.{three_text}

-- ---- lines

pub lines_text-append : (a b : List Line) → lines_text (a ++ b) ≡ lines_text a ++ lines_text b
unfolding lines_text
lines_text-append [] b = refl
lines_text-append (x ∷ a) b = rw (lines_text-append a b, append_assoc)

-- a refusal has the seven lines alone
pub listing-refused :
    (most : ℕ) (r : Refusal) (ns ats : List ℕ) (os : List Note) → listing most (numbers_of (Err r)) ns ats os ≡ head_lines most (numbers_of (Err r))
unfolding listing record_lines note_lines numbers_of
listing-refused most r ns ats os = refl

-- a line in halves, as it is written
pub line_text-seven :
    (f g h i j k l : Field) → three_text 32 32 f g h ++ (three_text 32 32 i j k ++ (field_text l ++ (10 ∷ []))) ≡ line_text (f ∷ g ∷ h ∷ i ∷ j ∷ k ∷ l ∷ [])
unfolding line_text
line_text-seven f g h i j k l = simp append_assoc

pub line_text-four : (f g h i : Field) → three_text 32 32 f g h ++ (field_text i ++ (10 ∷ [])) ≡ line_text (f ∷ g ∷ h ∷ i ∷ [])
unfolding line_text
line_text-four f g h i = simp append_assoc

pub lines_text-seven :
    (f g h i j k l : Field) → three_text 10 10 f g h ++ (three_text 10 10 i j k ++ (field_text l ++ (10 ∷ []))) ≡
    lines_text ((f ∷ []) ∷ (g ∷ []) ∷ (h ∷ []) ∷ (i ∷ []) ∷ (j ∷ []) ∷ (k ∷ []) ∷ (l ∷ []) ∷ [])
unfolding lines_text line_text
lines_text-seven f g h i j k l = simp append_assoc

-- the words of a record, read one by one
pub node_line-words :
    (k : ℕ) (w : List ℕ) {a b c d e f : ℕ} → a ≡ get_or w node_name 0 → b ≡ get_or w node_fixed 0 → c ≡ get_or w node_parent 0 → d ≡ get_or w node_first 0 →
    e ≡ get_or w node_count 0 → f ≡ get_or w line_word 0 →
    three_text 32 32 (field node_key k) (field name_key a) (field fixed_key b) ++
    (three_text 32 32 (field parent_key c) (field first_key d) (field count_key e) ++ (field_text (field line_key f) ++ (10 ∷ []))) ≡
    line_text (node_line k w)
node_line-words k w {a} {b} {c} {d} {e} {f} pa pb pc pd pe pf =
    rw (
      ← pa,
      ← pb,
      ← pc,
      ← pd,
      ← pe,
      ← pf,
    )
    (line_text-seven (field node_key k) (field name_key a) (field fixed_key b) (field parent_key c) (field first_key d) (field count_key e) (field line_key f))

pub attribute_line-words :
    (k : ℕ) (w : List ℕ) {a b c d e f : ℕ} → a ≡ get_or w attribute_owner 0 → b ≡ get_or w attribute_prefix 0 → c ≡ get_or w attribute_name 0 → d ≡ get_or w attribute_type 0 →
    e ≡ get_or w attribute_data 0 → f ≡ get_or w attribute_namespace 0 →
    three_text 32 32 (field attribute_key k) (field owner_key a) (field prefix_key b) ++
    (three_text 32 32 (field name_key c) (field type_key d) (field data_key e) ++ (field_text (field ns_key f) ++ (10 ∷ []))) ≡
    line_text (attribute_line k w)
attribute_line-words k w {a} {b} {c} {d} {e} {f} pa pb pc pd pe pf =
    rw (
      ← pa,
      ← pb,
      ← pc,
      ← pd,
      ← pe,
      ← pf,
    )
    (line_text-seven (field attribute_key k) (field owner_key a) (field prefix_key b) (field name_key c) (field type_key d) (field data_key e) (field ns_key f))
