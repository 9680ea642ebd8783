-- How long a listing can be, whatever its numbers (specs/Size.antt): of tables of so many places, and so of the tables that a listing has, full.
-- No contract cites this file.
use Prim.Native.Nat.{ℕ, zero, suc, ◌+◌, ◌*◌, ◌≤◌, ◌<◌}
use mathlib.Core.Path.{◌≡◌, refl}
use mathlib.Core.Bool.{Bool, true, false, cond}
use mathlib.Core.List.{List, [], ◌∷◌}
use native.Mathlib.Omega.{arith}
use native.Mathlib.Nat.{mul-suc, mul-zero}
use borrow.Author.Tests.{ltb-false}
use lib.Dec.{ltb}
use lib.ListN.{length, drop, get_or, length-append, length-drop}
use Rattle.anomaly.specs.declared.Note.{Note}
use Rattle.errors.specs.declared.Numbers.{Numbers}
use Rattle.records.specs.Words.{node_width, node_name, node_fixed, node_parent, node_first, node_count, node_line as line_word}
use Rattle.records.specs.Words.{attribute_width, attribute_owner, attribute_prefix, attribute_name, attribute_type, attribute_data, attribute_namespace}
use Rattle.records.specs.Limits.{listed_nodes, listed_attributes, listed_notes}
use Rattle.listing_text.specs.Size.{head_bytes, line_bytes, listed_bytes}
use Rattle.listing_text.specs.Keys.{node_key, name_key, fixed_key, parent_key, first_key, count_key, line_key, attribute_key, owner_key}
use Rattle.listing_text.specs.Keys.{prefix_key, type_key, data_key, ns_key, note_key, kind_key, a_key, b_key}
use Rattle.listing_text.specs.Listing.{Field, Line, field, line_text, lines_text, head_lines, node_line, record_lines}
use Rattle.listing_text.specs.Listing.{attribute_line, note_line, note_lines, listing_text}
use Rattle.digits.proofs.Laws.{decimal-le}
use Rattle.listing_text.proofs.Whole.{listing_text-parts}

module _ (f g h i : Field) where
  four-le : length (line_text (f ∷ g ∷ h ∷ i ∷ [])) ≤ length f.key + length g.key + length h.key + length i.key + 88
  unfolding line_text
  four-le =
      simp length-append (omega (arith, decimal-le f.number, decimal-le g.number, decimal-le h.number, decimal-le i.number))

  seven-le :
      (j k l : Field) → length (line_text (f ∷ g ∷ h ∷ i ∷ j ∷ k ∷ l ∷ [])) ≤
      length f.key + length g.key + length h.key + length i.key + length j.key + length k.key + length l.key + 154
  unfolding line_text
  seven-le j k l =
      simp length-append
      (omega (
        arith,
        decimal-le f.number,
        decimal-le g.number,
        decimal-le h.number,
        decimal-le i.number,
        decimal-le j.number,
        decimal-le k.number,
        decimal-le l.number,
      ))

pub node_line-le : (k : ℕ) (w : List ℕ) → length (line_text (node_line k w)) ≤ line_bytes
node_line-le k w =
    let h =
    seven-le (field node_key k) (field name_key (get_or w node_name 0)) (field fixed_key (get_or w node_fixed 0)) (field parent_key (get_or w node_parent 0)) (field first_key (get_or w node_first 0))
    (field count_key (get_or w node_count 0)) (field line_key (get_or w line_word 0))
    in
    omega arith

pub attribute_line-le : (k : ℕ) (w : List ℕ) → length (line_text (attribute_line k w)) ≤ line_bytes
attribute_line-le k w =
    let h =
    seven-le (field attribute_key k) (field owner_key (get_or w attribute_owner 0)) (field prefix_key (get_or w attribute_prefix 0))
    (field name_key (get_or w attribute_name 0)) (field type_key (get_or w attribute_type 0))
    (field data_key (get_or w attribute_data 0)) (field ns_key (get_or w attribute_namespace 0))
    in
    omega arith

pub note_line-le : (k : ℕ) (o : Note) → length (line_text (note_line k o)) ≤ line_bytes
note_line-le k o = let h = four-le (field note_key k) (field kind_key o.kind) (field a_key o.a) (field b_key o.b) in omega arith

head_lines-le : (most : ℕ) (n : Numbers) → length (lines_text (head_lines most n)) ≤ head_bytes
unfolding lines_text
head_lines-le most n =
    simp length-append
    (omega (
      arith,
      decimal-le n.refusal,
      decimal-le n.value,
      decimal-le most,
      decimal-le n.starts,
      decimal-le n.nodes,
      decimal-le n.attributes,
      decimal-le n.notes,
    ))

-- ---- the lines of a table of at most m places

none-le : (m : ℕ) → length (lines_text []) ≤ line_bytes * m
unfolding lines_text
none-le m = omega arith

-- one line more
more-le :
    (x : Line) (xs : List Line) (m : ℕ) → length (line_text x) ≤ line_bytes → length (lines_text xs) ≤ line_bytes * m →
    length (lines_text (x ∷ xs)) ≤ line_bytes * suc m
unfolding lines_text
more-le x xs m h i = rw (length-append, mul-suc) (omega arith)

module _ (width : ℕ) (line : ℕ → List ℕ → Line) (some : 0 < width) (short : (k : ℕ) (w : List ℕ) → length (line_text (line k w)) ≤ line_bytes) where
  pub record_lines-le : (k n : ℕ) (w : List ℕ) (m : ℕ) → length w ≤ width * m → length (lines_text (record_lines width line k n w)) ≤ line_bytes * m
  unfolding record_lines
  record_lines-le k zero w m h = none-le m
  record_lines-le k (suc n) w m h = go (ltb (length w) width) refl (record_lines-le (k + 1) n (drop width w)) m h where
    go : (t : Bool) → ltb (length w) width ≡ t →
        ((m : ℕ) → length (drop width w) ≤ width * m → length (lines_text (record_lines width line (k + 1) n (drop width w))) ≤ line_bytes * m) →
        (m : ℕ) → length w ≤ width * m →
        length (lines_text (cond t [] (line k w ∷ record_lines width line (k + 1) n (drop width w)))) ≤ line_bytes * m
    go true e ih m h = none-le m
    go false e ih zero h = absurd (let f : ⊥ = omega (arith, ltb-false (length w) width e, mul-zero width) in f)
    go false e ih (suc m) h =
        let i : length (drop width w) ≤ width * m = rw (length-drop width w) (omega (arith, mul-suc width m)) in
        more-le (line k w) (record_lines width line (k + 1) n (drop width w)) m (short k w) (ih m i)

pub note_lines-le : (k n : ℕ) (os : List Note) → length (lines_text (note_lines k n os)) ≤ line_bytes * length os
unfolding note_lines
note_lines-le k zero os = none-le (length os)
note_lines-le k (suc n) [] = none-le 0
note_lines-le k (suc n) (o ∷ os) = more-le (note_line k o) (note_lines (k + 1) n os) (length os) (note_line-le k o) (note_lines-le (k + 1) n os)

-- ---- the whole

-- seven lines, and a line for each place
pub listing_text-le :
    (cap : ℕ) (n : Numbers) (ns ats : List ℕ) (os : List Note) (a b : ℕ) → length ns ≤ node_width * a → length ats ≤ attribute_width * b →
    length (listing_text cap n ns ats os) ≤ head_bytes + line_bytes * (a + b + length os)
listing_text-le cap n ns ats os a b h i =
    rw (← listing_text-parts cap n ns ats os, length-append, length-append, length-append)
    (omega (
      arith,
      head_lines-le cap n,
      record_lines-le node_width node_line (omega arith) node_line-le 0 n.nodes ns a h,
      record_lines-le attribute_width attribute_line (omega arith) attribute_line-le 0 n.attributes ats b i,
      note_lines-le 0 n.notes os,
    ))

-- the buffer of the listing program takes every listing of its tables
pub listing_text-fits :
    (cap : ℕ) (n : Numbers) (ns ats : List ℕ) (os : List Note) → length ns ≤ node_width * listed_nodes → length ats ≤ attribute_width * listed_attributes →
    length os ≤ listed_notes → length (listing_text cap n ns ats os) ≤ listed_bytes
listing_text-fits cap n ns ats os h i j = omega (arith, listing_text-le cap n ns ats os listed_nodes listed_attributes h i)
