-- What a whole XML chunk within the front c of a list makes does not depend on what follows c: `chunk_yield-append`. Its turn does not either
-- (proofs/Local.antt of xml_elements). No contract cites this file.
use Prim.Native.Nat.{ℕ, zero, suc, ◌*◌, ◌≤◌}
use native.Mathlib.Omega.{arith}
use mathlib.Core.Path.{◌≡◌, refl, sym, ◌∙◌}
use mathlib.Core.List.{List, ◌++◌}
use lib.ListN.{length, drop, length-drop}
use lib.Seq.{drop-append-le}
use Rattle.xml_elements.specs.declared.XmlStartElement.{XmlStartElement}
use Rattle.xml_elements.specs.declared.Chunk.{Chunk}
use Rattle.xml_elements.specs.declared.Chunk.TheVariants.{Start, End, Other, Last}
use Rattle.xml_elements.specs.Chunk.{stride_of, attributes_at, start_len, len_of}
use Rattle.xml_elements.proofs.Local.{attribute_at-append}
use Rattle.events.specs.Events.{Names, attribute_event, attributes_of}
use Rattle.events.specs.Events.{WalkState, start_events, chunk_yield}
use Rattle.events.specs.Inner.Starts.{from_lead, from_open, from_named, from_name, from_trailing, from_size, from_gap}

module _ (N : Names) where
  attribute_event-append : (c m : List ℕ) → 20 ≤ length c → attribute_event N (c ++ m) ≡ attribute_event N c
  unfolding attribute_event
  attribute_event-append c m h = rw (attribute_at-append c m h)

  pub attributes_of-append : (n stride : ℕ) (c m : List ℕ) → 20 ≤ stride → n * stride ≤ length c
      → attributes_of N n stride (c ++ m) ≡ attributes_of N n stride c
  unfolding attributes_of
  attributes_of-append zero stride c m k h = refl
  attributes_of-append (suc n) stride c m k h =
      let f : stride ≤ length c = omega arith in
      let g : n * stride ≤ length (drop stride c) = rw length-drop (omega arith) in
      rw (attribute_event-append c m (omega arith), drop-append-le stride c m f, attributes_of-append n stride (drop stride c) m k g)

  from_lead-append : (s : XmlStartElement) (k : ℕ) (c m : List ℕ) → start_len s ≤ length c → from_lead N s k (c ++ m) ≡ from_lead N s k c
  unfolding from_lead
  from_lead-append s k c m h =
      let f : attributes_at s ≤ length c = omega arith in
      let g : s.attribute_count * stride_of s ≤ length (drop (attributes_at s) c) = rw length-drop (omega arith) in
      rw (drop-append-le (attributes_at s) c m f, attributes_of-append s.attribute_count (stride_of s) (drop (attributes_at s) c) m (omega arith) g)

  pub from_gap-append : (s : XmlStartElement) (reach k : ℕ) (c m : List ℕ) → start_len s ≤ length c
      → from_gap N s reach k (c ++ m) ≡ from_gap N s reach k c
  unfolding from_gap from_size from_trailing from_name from_named from_open
  from_gap-append s reach k c m h = rw (from_lead-append s k c m h)

  -- THE LAW: a whole XML chunk within c makes the same whatever follows c
  pub chunk_yield-append : (c m m' : List ℕ) (p : WalkState) (x : Chunk) → len_of x ≤ length c → chunk_yield N (c ++ m') p x ≡ chunk_yield N (c ++ m) p x
  unfolding start_events from_gap from_size from_trailing from_name from_named from_open from_lead
  chunk_yield-append c m m' p (Start s) h = from_gap-append s 3 p.starts c m' h ∙ sym (from_gap-append s 3 p.starts c m h)
  chunk_yield-append c m m' p End h = refl
  chunk_yield-append c m m' p (Other n) h = refl
  chunk_yield-append c m m' p Last h = refl
