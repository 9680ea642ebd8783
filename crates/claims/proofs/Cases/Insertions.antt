-- The theorems of insertion and of room at file S (docs/FORMAT.md, L4), beside what the promise computes. No contract cites this file.
--
--   s-by-theorem    the reading of S with seven foreign chunks (proofs/Cases/InsertionParts.antt), at a cap of 2, by the theorem
--   s-by-computing  the same by the promise
--   s-asked         what the three questions answer of S with these chunks: its string `a`, and the value of its one attribute
--   s-full          with a word less than a node has S is refused with 8, which room that suffices excludes
--   swallowed       why there is no place behind a chunk that is cut: a foreign chunk there makes no note
use Rattle.std.specs.Prelude.{Ok, Err}
use Prim.Native.Nat.{◌-◌, ◌*◌, ◌≤◌}
use native.Mathlib.Omega.{arith}
use mathlib.Core.Path.{◌≡◌, refl, ◌∙◌, ap}
use mathlib.Core.List.{[], ◌∷◌, ◌++◌}
use mathlib.Core.Bool.{false}
use lib.ListN.{length, take}
use Rattle.anomaly.specs.Note.{note_of}
use Rattle.errors.specs.declared.Refusal.TheVariants.{NodesFull}
use Rattle.errors.specs.declared.TextState.TheVariants.{Whole}
use Rattle.errors.specs.declared.ReadCounts.{ReadCounts}
use Rattle.records.specs.Limits.{file_limit}
use Rattle.system_types.specs.Names.{lends}
use Rattle.head.specs.Ask.{text_answer, text_buffer, content_answer}
use Rattle.first_value.specs.Question.{android_name, first_answer}
use Rattle.records.specs.Words.{node_width, attribute_width, merged}
use Rattle.walk.specs.Settle.{Room}
use Rattle.walk.specs.Reading.{Reading, reading}
use Rattle.claims.specs.Insertion.{places_in, inserted_file}
use Rattle.claims.proofs.Cases.Table.{file_s, note, none, one_node, first_node, lead}
use Rattle.claims.proofs.Cases.InsertionParts.{f105, f102, some, s-places, s-limit, s-kept}
use Rattle.claims.proofs.Insertion.Theorem.{insertion, insertion-room}
use Rattle.claims.proofs.Cases.Computing.{computing}

-- ---- the theorem, and the promise

abbrev room : Room
room = record { nodes = 3 * node_width; attributes = 3 * attribute_width; notes = 4; cap = 2; mode = merged }

abbrev counts : ReadCounts
counts = record { starts = 1; nodes = 1; attributes = 1; notes = 0 }

-- five stretches; of the three that are not XML the cap keeps two
abbrev expected : Reading
expected = one_node 1 4 (note 3 261 ∷ note 4 8 ∷ note 3 261 ∷ note 4 8 ∷ [])

s_reads : reading room file_s (lends [] []) ≡ one_node 1 0 none
unfolding file_s computing
s_reads = refl

pub s-by-theorem : reading room (inserted_file some file_s) (lends [] []) ≡ expected
unfolding note_of
s-by-theorem =
    let done : (reading room file_s (lends [] [])).answer ≡ Ok counts = ap (λ (x : Reading). x.answer) s_reads in
    let few : length some ≤ places_in file_s = rw s-places.0 (omega arith) in
    let limit : length (inserted_file some file_s) ≤ file_limit = rw s-limit (omega arith) in
    insertion room file_s (lends [] []) counts done refl some few limit room (omega arith) refl
    (insertion-room room file_s (lends [] []) counts done refl some few limit room (omega arith) refl (omega arith) (omega arith) (rw s-kept (omega arith)))
    ∙ rw (s_reads, s-kept)

pub s-by-computing : reading room (inserted_file some file_s) (lends [] []) ≡ expected
unfolding file_s f105 f102 computing
s-by-computing = refl

-- the questions of the longer file: the text and the content of index 0, and the first value of `android` on `a`
pub s-asked : (text_answer (inserted_file some file_s) (lends [] []) 2 0 ≡ Ok (record { length = 1; state = Whole })) × (text_buffer (inserted_file some file_s) (lends [] []) 2 0 ≡ 0x61 ∷ 0 ∷ [])
    × (content_answer (inserted_file some file_s) (lends [] []) 0 ≡ 0x61 ∷ [])
    × (first_answer (inserted_file some file_s) (lends [] []) first_node lead (0x61 ∷ []) android_name 1 1 ≡ Ok (record { kind = 3; «data» = 0; reference = false }))
unfolding file_s f105 f102 computing
s-asked = (refl, refl, refl, refl)

-- ---- room

pub s-full : (reading (record { nodes = node_width - 1; attributes = attribute_width; notes = 4; cap = 2; mode = merged }) file_s (lends [] [])).answer ≡ Err (NodesFull 0)
unfolding file_s computing
s-full = refl

-- ---- behind a chunk that is cut

-- twelve foreign bytes: five are taken for the end's, seven are left
pub swallowed : reading room (take 107 file_s ++ (0x05 ∷ 0x01 ∷ 0x08 ∷ 0x00 ∷ 0x0c ∷ 0x00 ∷ 0x00 ∷ 0x00 ∷ 1 ∷ 2 ∷ 3 ∷ 4 ∷ [])) (lends [] []) ≡ one_node 1 0 none
unfolding file_s computing
swallowed = refl
