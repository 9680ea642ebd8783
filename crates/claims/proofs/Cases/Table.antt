-- File S and its relatives (docs/FORMAT.md, L4 and L5), computed: one table, one theorem.
--
--   file_s, start_s, end_s   the sample, its start chunk and its end chunk; start_l, end_l the same of other lines;
--                         head_r, head_c its head with a damaged name
--   Case                  a file and its whole reading: the answer, every word of the two tables, every note
--   cases                 the marked ones, with places for 3 nodes, 3 attributes and 4 notes, cap 8, no system names
--   cases-right           each file's reading is that of the table
use Rattle.std.specs.Prelude.{Result, Ok, Err}
use Prim.Native.Nat.{ℕ, ◌*◌}
use mathlib.Core.Path.{◌≡◌, refl}
use mathlib.Core.List.{List, [], ◌∷◌, ◌++◌}
use lib.ListN.{take, drop, replicate}
use Rattle.anomaly.specs.declared.Note.{Note}
use Rattle.errors.specs.declared.Refusal.TheVariants.{TooSmallError, StringPoolHeader}
use Rattle.system_types.specs.Names.{lends}
use Rattle.records.specs.Words.{node_width, node_words, no_parent, attribute_width, attribute_words, merged}
use Rattle.walk.specs.Settle.{Room}
use Rattle.walk.specs.Reading.{Reading, reading, zero_note}
use Rattle.claims.proofs.Cases.Computing.{computing}
use Rattle.errors.specs.declared.ReadCounts.{ReadCounts}
use Rattle.errors.specs.declared.Refusal.{Refusal}

-- ---- the files

unfoldable pub start_s : List ℕ
start_s =
    0x02 ∷ 0x01 ∷ 0x10 ∷ 0x00 ∷ 0x24 ∷ 0x00 ∷ 0x00 ∷ 0x00 ∷ 0x01 ∷ 0x00 ∷ 0x00 ∷ 0x00 ∷ 0xff ∷ 0xff ∷ 0xff ∷ 0xff ∷ 0xff ∷ 0xff ∷ 0xff ∷ 0xff ∷
    0x00 ∷ 0x00 ∷ 0x00 ∷ 0x00 ∷ 0x14 ∷ 0x00 ∷ 0x14 ∷ 0x00 ∷ 0x00 ∷ 0x00 ∷ 0x00 ∷ 0x00 ∷ 0x00 ∷ 0x00 ∷ 0x00 ∷ 0x00 ∷ []

unfoldable pub end_s : List ℕ
end_s =
    0x03 ∷ 0x01 ∷ 0x10 ∷ 0x00 ∷ 0x18 ∷ 0x00 ∷ 0x00 ∷ 0x00 ∷ 0x01 ∷ 0x00 ∷ 0x00 ∷ 0x00 ∷ 0xff ∷ 0xff ∷ 0xff ∷ 0xff ∷ 0xff ∷ 0xff ∷ 0xff ∷ 0xff ∷
    0x00 ∷ 0x00 ∷ 0x00 ∷ 0x00 ∷ []

-- header, pool with the one string `a`, empty map
unfoldable pub head_s : List ℕ
head_s =
    0x03 ∷ 0x00 ∷ 0x08 ∷ 0x00 ∷ 0x70 ∷ 0x00 ∷ 0x00 ∷ 0x00 ∷
    0x01 ∷ 0x00 ∷ 0x1c ∷ 0x00 ∷ 0x24 ∷ 0x00 ∷ 0x00 ∷ 0x00 ∷ 0x01 ∷ 0x00 ∷ 0x00 ∷ 0x00 ∷ 0x00 ∷ 0x00 ∷ 0x00 ∷ 0x00 ∷ 0x00 ∷ 0x01 ∷ 0x00 ∷ 0x00 ∷
    0x20 ∷ 0x00 ∷ 0x00 ∷ 0x00 ∷ 0x00 ∷ 0x00 ∷ 0x00 ∷ 0x00 ∷ 0x00 ∷ 0x00 ∷ 0x00 ∷ 0x00 ∷ 0x01 ∷ 0x01 ∷ 0x61 ∷ 0x00 ∷
    0x80 ∷ 0x01 ∷ 0x08 ∷ 0x00 ∷ 0x08 ∷ 0x00 ∷ 0x00 ∷ 0x00 ∷ []

unfoldable pub file_s : List ℕ
unfolding head_s start_s end_s
file_s = head_s ++ (start_s ++ end_s)

-- type 0x105, sizes 8 and 8
abbrev pub foreign_chunk : List ℕ
foreign_chunk = 0x05 ∷ 0x01 ∷ 0x08 ∷ 0x00 ∷ 0x08 ∷ 0x00 ∷ 0x00 ∷ 0x00 ∷ []

-- its start with the line 4294967295 and the comment 5, and an end with the line 7
unfoldable pub start_l : List ℕ
unfolding start_s
start_l = take 8 start_s ++ (0xff ∷ 0xff ∷ 0xff ∷ 0xff ∷ 0x05 ∷ 0x00 ∷ 0x00 ∷ 0x00 ∷ drop 16 start_s)

unfoldable pub end_l : List ℕ
unfolding end_s
end_l = take 8 end_s ++ (0x07 ∷ drop 9 end_s)

-- its head with the byte ff for the name, whose text is then U+FFFD, and with 3 for the name's length, so that the string is cut
unfoldable pub head_r : List ℕ
unfolding head_s
head_r = take 42 head_s ++ (0xff ∷ drop 43 head_s)

unfoldable pub head_c : List ℕ
unfolding head_s
head_c = take 41 head_s ++ (0x03 ∷ drop 42 head_s)

-- ---- the readings

abbrev pub room : Room
room = record { nodes = 3 * node_width; attributes = 3 * attribute_width; notes = 4; cap = 8; mode = merged }

-- n records of zeros
abbrev pub no_nodes : ℕ → List ℕ
no_nodes n = replicate (n * node_width) 0

abbrev pub no_attributes : ℕ → List ℕ
no_attributes n = replicate (n * attribute_width) 0

abbrev pub none : List Note
none = zero_note ∷ zero_note ∷ zero_note ∷ zero_note ∷ []

abbrev pub note : ℕ → ℕ → Note
note k a = record { kind = k; a = a; b = 0 }

abbrev pub refusal : Result ReadCounts Refusal → Reading
refusal a = record { answer = a; nodes = no_nodes 3; attributes = no_attributes 3; notes = none }

-- the first node has the leading attribute alone, and the line of its start
abbrev pub first_at : ℕ → List ℕ
first_at line = node_words 0 0 no_parent 0 1 line

-- of the line of S, which is 1
abbrev pub first_node : List ℕ
first_node = first_at 1

abbrev pub lead : List ℕ
lead = attribute_words 0 2 0 3 0 0

-- one node of this line, with so many starts, and these notes of which the first n count
abbrev pub one_at : ℕ → ℕ → ℕ → List Note → Reading
one_at line starts n os = record {
  answer = Ok (record { starts = starts; nodes = 1; attributes = 1; notes = n });
  nodes = first_at line ++ no_nodes 2;
  attributes = lead ++ no_attributes 2;
  notes = os;
}

abbrev pub one_node : ℕ → ℕ → List Note → Reading
one_node starts n os = one_at 1 starts n os

pub record Case : Type 0 where
  pub file : List ℕ
  pub result : Reading

abbrev pub row : List ℕ → Reading → Case
row f r = record { file = f; result = r }

-- ---- the table

unfoldable pub cases : List Case
unfolding file_s start_l end_l head_r head_c
cases =
    row file_s (one_node 1 0 none) ∷
    row (take 7 file_s) (refusal (Err (TooSmallError 7))) ∷
    row (take 8 file_s) (refusal (Err (StringPoolHeader 8))) ∷
    row (take 35 file_s) (refusal (Err (StringPoolHeader 16))) ∷
    row (take 88 file_s) (one_node 1 1 (note 12 1 ∷ zero_note ∷ zero_note ∷ zero_note ∷ [])) ∷
    row (take 95 file_s) (one_node 1 1 (note 12 1 ∷ zero_note ∷ zero_note ∷ zero_note ∷ [])) ∷
    row (take 103 file_s) (one_node 1 2 (note 11 0 ∷ note 12 1 ∷ zero_note ∷ zero_note ∷ [])) ∷
    row (take 104 file_s) (one_node 1 0 none) ∷
    row (file_s ++ end_s) (one_node 1 0 none) ∷
    row (file_s ++ start_s) (one_node 2 1 (note 12 1 ∷ zero_note ∷ zero_note ∷ zero_note ∷ [])) ∷
    row (take 88 file_s ++ start_s) (one_node 2 1 (note 12 2 ∷ zero_note ∷ zero_note ∷ zero_note ∷ [])) ∷
    row (file_s ++ (start_s ++ end_s)) (record {
      answer = Ok (record { starts = 2; nodes = 2; attributes = 1; notes = 0 });
      nodes = first_node ++ (node_words 0 0 0 1 0 1 ++ no_nodes 1);
      attributes = lead ++ no_attributes 2;
      notes = none;
    }) ∷
    row (take 88 file_s ++ (foreign_chunk ++ end_s)) (one_node 1 1 (note 3 261 ∷ zero_note ∷ zero_note ∷ zero_note ∷ [])) ∷
    row (head_s ++ (start_l ++ end_l)) (one_at 4294967295 1 0 none) ∷
    row (head_r ++ (start_s ++ end_s)) (one_node 1 1 (record { kind = 32; a = 0; b = 1 } ∷ zero_note ∷ zero_note ∷ zero_note ∷ [])) ∷
    row (head_c ++ (start_s ++ end_s)) (record {
      answer = Ok (record { starts = 1; nodes = 1; attributes = 1; notes = 2 });
      nodes = node_words 0 1 no_parent 0 1 1 ++ no_nodes 2;
      attributes = lead ++ no_attributes 2;
      notes = record { kind = 32; a = 0; b = 3 } ∷ record { kind = 9; a = 0; b = 1 } ∷ zero_note ∷ zero_note ∷ [];
    }) ∷ []

abbrev pub readings : List Case → List Reading
readings [] = []
readings (c ∷ cs) = reading room c.file (lends [] []) ∷ readings cs

abbrev pub results : List Case → List Reading
results [] = []
results (c ∷ cs) = c.result ∷ results cs

pub cases-right : readings cases ≡ results cases
unfolding cases computing
cases-right = refl
