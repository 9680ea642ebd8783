-- File S and the file without its end, as the witnesses of proofs/Broken/Readers.antt.
--
--   read-S, read-88            the readings of S and of its first 88 bytes, from the table
--   ends-S                     head and start of S end with its first start
--   read-with-end, read-without   the two files that go on differently behind it
--   call-S ..                  the calls with tables of zeros, with the room of the cases: all bytes and words
use Prim.Native.Nat.{ℕ}
use native.Mathlib.Omega.{arith}
use mathlib.Core.Path.{◌≡◌, refl, sym, ◌∙◌, ap}
use mathlib.Core.List.{List, [], ◌∷◌, ◌++◌}
use lib.ListN.{take, get_or}
use Rattle.system_types.specs.Names.{lends}
use Rattle.records.specs.Words.{merged}
use Rattle.xml_elements.specs.Chunk.{start_of}
use Rattle.walk.specs.Reading.{Reading, reading, zero_note}
use Rattle.claims.specs.Readers.{Bytes, Call, FirstStart, events_of}
use Rattle.claims.specs.Counts.{opens_in}
use Rattle.claims.proofs.Cases.Table.{file_s, head_s, start_s, end_s, room, no_nodes, no_attributes, none, note, one_node, cases, cases-right}
use Rattle.claims.proofs.Cases.Computing.{computing}

pub read-S : reading room file_s (lends [] []) ≡ one_node 1 0 none
unfolding cases
read-S = ap (λ (l : List Reading). get_or l 0 (one_node 1 0 none)) cases-right

pub read-88 : reading room (take 88 file_s) (lends [] []) ≡ one_node 1 1 (note 12 1 ∷ zero_note ∷ zero_note ∷ zero_note ∷ [])
unfolding cases
read-88 = ap (λ (l : List Reading). get_or l 4 (one_node 1 0 none)) cases-right

no_start : ◌≡◌ {A = ℕ} (opens_in (events_of merged head_s (lends [] []))) 0
unfolding file_s computing
no_start = refl

one-start : ◌≡◌ {A = ℕ} (opens_in (events_of merged (head_s ++ start_s) (lends [] []))) 1
unfolding file_s computing
one-start = refl

pub ends-S : FirstStart (lends [] []) (head_s ++ start_s)
unfolding file_s computing
ends-S = record { before = head_s; chunk = start_s; start = start_of start_s; split = refl; none = no_start; one = one-start; reads = refl; long = refl }

with-end : file_s ≡ (head_s ++ start_s) ++ end_s
unfolding file_s
with-end = refl

without : take 88 file_s ≡ (head_s ++ start_s) ++ []
unfolding file_s
without = refl

pub read-with-end : reading room ((head_s ++ start_s) ++ end_s) (lends [] []) ≡ one_node 1 0 none
read-with-end = ap (λ (f : List ℕ). reading room f (lends [] [])) (sym with-end) ∙ read-S

pub read-without : reading room ((head_s ++ start_s) ++ []) (lends [] []) ≡ one_node 1 1 (note 12 1 ∷ zero_note ∷ zero_note ∷ zero_note ∷ [])
read-without = ap (λ (f : List ℕ). reading room f (lends [] [])) (sym without) ∙ read-88

-- ---- calls

-- tables of zeros, with the room of the cases
call : (f : List ℕ) → Bytes f → Call f (lends [] []) (no_nodes 3) (no_attributes 3) none 8 merged
call f b = record {
  file = b;
  name_words = record { below = refl; short = omega arith };
  area_bytes = record { below = refl; short = omega arith };
  node_words = record { below = refl; short = omega arith };
  attribute_words = record { below = refl; short = omega arith };
  kinds = record { below = refl; short = omega arith };
  firsts = record { below = refl; short = omega arith };
  seconds = record { below = refl; short = omega arith };
  cap_word = omega arith;
  mode_word = omega arith;
}

pub call-S : Call file_s (lends [] []) (no_nodes 3) (no_attributes 3) none 8 merged
unfolding file_s
call-S = call file_s (record { below = refl; short = omega arith })

pub call-88 : Call (take 88 file_s) (lends [] []) (no_nodes 3) (no_attributes 3) none 8 merged
unfolding file_s
call-88 = call (take 88 file_s) (record { below = refl; short = omega arith })

pub call-with-end : Call ((head_s ++ start_s) ++ end_s) (lends [] []) (no_nodes 3) (no_attributes 3) none 8 merged
unfolding file_s
call-with-end = call ((head_s ++ start_s) ++ end_s) (record { below = refl; short = omega arith })

pub call-without : Call ((head_s ++ start_s) ++ []) (lends [] []) (no_nodes 3) (no_attributes 3) none 8 merged
unfolding file_s
call-without = call ((head_s ++ start_s) ++ []) (record { below = refl; short = omega arith })
