-- The definitions of the insertion computed at file S (docs/FORMAT.md, L4). No contract cites this file.
--
--   f105, f102   two complete foreign chunks, one of each sort
--   some         seven of them: two before the start, four before the end, one at the end
--   s-places     S has a place before its start, before its end, and at the end; not at the end where its end is cut or bytes follow it
--   s-longer     S with these seven, byte for byte
--   s-notes      five stretches, so five notes; s-kept what a cap of 2 keeps of them
use Prim.Native.Nat.{ℕ}
use native.Mathlib.Omega.{arith}
use mathlib.Core.Path.{◌≡◌, refl}
use mathlib.Core.List.{List, [], ◌∷◌, ◌++◌}
use lib.ListN.{length, take}
use Rattle.anomaly.specs.declared.ResAnomaly.TheVariants.{NonXmlChunk, XmlNodeHeaderSize}
use Rattle.anomaly.specs.Kept.{kept_notes}
use Rattle.chunk.specs.Sort.{is_xml, chunk_sort}
use Rattle.xml_elements.specs.Chunk.{foreign_number}
use Rattle.claims.specs.Insertion.{ForeignChunk, places_in, inserted_file, place_notes}
use Rattle.claims.proofs.Cases.Table.{file_s, head_s, start_s, end_s, foreign_chunk}
use Rattle.claims.proofs.Cases.Computing.{computing}

-- ---- seven foreign chunks

-- type 0x105, header size 8, size 8: not XML
unfoldable pub f105 : ForeignChunk
unfolding computing
f105 = record {
  bytes = foreign_chunk;
  header = record { kind = 0x105; header_size = 8; size = 8 };
  reads = refl;
  foreign = λ z. (let y : ◌≡◌ {A = ℕ} 0 2 = z in omega arith);
  complete = omega arith;
}

-- type 0x102, header size 8, size 9: XML with a wrong header size
unfoldable pub f102 : ForeignChunk
unfolding computing
f102 = record {
  bytes = 0x02 ∷ 0x01 ∷ 0x08 ∷ 0x00 ∷ 0x09 ∷ 0x00 ∷ 0x00 ∷ 0x00 ∷ 0x4d ∷ [];
  header = record { kind = 0x102; header_size = 8; size = 9 };
  reads = refl;
  foreign = λ z. (let y : ◌≡◌ {A = ℕ} 1 2 = z in omega arith);
  complete = omega arith;
}

abbrev pub some : List (List ForeignChunk)
some = (f105 ∷ f105 ∷ []) ∷ (f102 ∷ f105 ∷ f105 ∷ f102 ∷ []) ∷ (f105 ∷ []) ∷ []

-- ---- places

-- the end of S is cut where its last 5 bytes are gone
pub s-places : (places_in file_s ≡ 3) × (places_in (take 107 file_s) ≡ 2) × (places_in (file_s ++ (0 ∷ [])) ≡ 2)
unfolding file_s computing
s-places = (refl, refl, refl)

pub s-longer : inserted_file some file_s
    ≡ head_s ++ (foreign_chunk ++ foreign_chunk ++ start_s ++ f102.bytes ++ foreign_chunk ++ foreign_chunk ++ f102.bytes ++ end_s ++ foreign_chunk)
unfolding file_s f105 f102 computing
s-longer = refl

pub s-limit : length (inserted_file some file_s) ≡ 170
unfolding file_s f105 f102 computing
s-limit = refl

-- ---- notes

pub s-notes : place_notes some ≡ NonXmlChunk 261 ∷ XmlNodeHeaderSize 8 ∷ NonXmlChunk 261 ∷ XmlNodeHeaderSize 8 ∷ NonXmlChunk 261 ∷ []
unfolding f105 f102 foreign_number chunk_sort is_xml
s-notes = refl

pub s-kept : kept_notes 2 (place_notes some) ≡ NonXmlChunk 261 ∷ XmlNodeHeaderSize 8 ∷ NonXmlChunk 261 ∷ XmlNodeHeaderSize 8 ∷ []
unfolding f105 f102 computing
s-kept = refl
