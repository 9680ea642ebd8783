-- The events of a file in the first mode are those in the second, with prefix 1 for 3: docs/FORMAT.md, W22, B16. No contract cites this file.
--
--   merge_event, merge_all   an event, and a list of them, as the first mode makes it
--   merged-events          so it is with the events of a file
use Prim.Native.Nat.{ℕ, zero, suc}
use mathlib.Core.Path.{◌≡◌, refl, ◌∙◌, ap}
use mathlib.Core.List.{List, [], ◌∷◌, ◌++◌}
use mathlib.Core.Bool.{Bool, true, false, cond, not}
use lib.ListN.{drop}
use lib.Dec.{eqb}
use Rattle.anomaly.specs.declared.ResAnomaly.TheVariants.{UnclosedElements}
use Rattle.records.specs.Words.{merged, apart}
use Rattle.system_types.specs.Names.{Lent}
use Rattle.text.specs.Content.{Content, content_of, has_text, is_android, state_in}
use Rattle.text.specs.declared.Head.{Head}
use Rattle.text.specs.declared.NameState.{NameState}
use Rattle.text.specs.declared.NameState.TheVariants.{NoText, Invalid, Valid}
use Rattle.head.specs.declared.Opened.{Opened}
use Rattle.errors.specs.declared.Refusal.TheVariants.{MissingRoot}
use Rattle.xml_elements.specs.declared.XmlStartElement.{XmlStartElement}
use Rattle.xml_elements.specs.declared.XmlAttributeElement.{XmlAttributeElement}
use Rattle.xml_elements.specs.declared.Chunk.{Chunk}
use Rattle.xml_elements.specs.declared.Chunk.TheVariants.{Start, End, Other, Last}
use Rattle.xml_elements.specs.declared.CutChunk.{CutChunk}
use Rattle.xml_elements.specs.declared.CutChunk.TheVariants.{CutLine, CutHead, CutGap, CutAttributes, CutTrailing, CutEnd, CutOther}
use Rattle.xml_elements.specs.declared.Turn.{Turn}
use Rattle.xml_elements.specs.declared.Turn.TheVariants.{Stop, Foreign, Met, Cut}
use Rattle.xml_elements.specs.Chunk.{stride_of, attributes_at, attribute_at, turn_of}
use Rattle.events.specs.declared.Event.{Event}
use Rattle.events.specs.declared.Event.TheVariants.{Nothing, Open, Attribute, LeftOut, Close, Note, Refuse, Finish}
use Rattle.events.specs.Events.{Names, prefix_in, names_in, event_if, fixed_of, leading, attribute_by, attribute_event, attributes_of}
use Rattle.events.specs.Events.{WalkState, chunk_yield, cut_yield, yield_of, foreign_note}
use Rattle.events.specs.Events.{last_of, from_root, out, body_events, file_events}
use Rattle.events.specs.Inner.Starts.{from_lead, from_open, from_name}
use Rattle.claims.specs.Modes.{merged_prefix}
use Rattle.claims.proofs.Events.EventCases.{StartNote, start_note, start-whole, cut-gap, cut-attributes, cut-trailing, body-by, head_note}
use Rattle.claims.proofs.Events.EventCases.{file-by, name_note, name_by}

-- ---- one event

abbrev pub merge_event : Event → Event
merge_event (Attribute p a) = Attribute (merged_prefix p) a
merge_event Nothing = Nothing
merge_event (Open n x l) = Open n x l
merge_event (LeftOut n) = LeftOut n
merge_event Close = Close
merge_event (Note x) = Note x
merge_event (Refuse x) = Refuse x
merge_event Finish = Finish

abbrev pub merge_all : List Event → List Event
merge_all [] = []
merge_all (e ∷ es) = merge_event e ∷ merge_all es

merge-append : (a b : List Event) → merge_all (a ++ b) ≡ merge_all a ++ merge_all b
merge-append [] b = refl
merge-append (e ∷ a) b = ap (λ (l : List Event). merge_event e ∷ l) (merge-append a b)

merge-when : (b : Bool) (e : Event) → merge_all (event_if b e) ≡ event_if b (merge_event e)
merge-when true e = refl
merge-when false e = refl

-- a list of which both parts are known
merge-parts : (a b : List Event) {a' b' : List Event} → merge_all a ≡ a' → merge_all b ≡ b' → merge_all (a ++ b) ≡ a' ++ b'
merge-parts a b {a'} p q = merge-append a b ∙ ap (λ (l : List Event). l ++ merge_all b) p ∙ ap (λ (l : List Event). a' ++ l) q

-- behind an event that stays
behind-when : (b : Bool) (e : Event) (ds es : List Event) → merge_event e ≡ e → merge_all ds ≡ es → merge_all (event_if b e ++ ds) ≡ event_if b e ++ es
behind-when true e ds es p q = ap (λ (x : Event). x ∷ merge_all ds) p ∙ ap (λ (m : List Event). e ∷ m) q
behind-when false e ds es p q = q

-- ---- the names of the two modes

-- a text gives 1 in the first mode, whatever the second gives it
prefix-merged : (c : Content) → merged_prefix (prefix_in apart c) ≡ prefix_in merged c
prefix-merged c = go (has_text c) (is_android c)
  where
    go : (b a : Bool) → merged_prefix (cond b (cond (eqb apart apart) (cond a 1 3) 1) 0) ≡ cond b (cond (eqb merged apart) (cond a 1 3) 1) 0
    go true true = refl
    go true false = refl
    go false true = refl
    go false false = refl

module _ (h : Head) (t : List ℕ) (lent : Lent) where
  abbrev N₁ : Names
  N₁ = names_in merged h t lent

  abbrev N₂ : Names
  N₂ = names_in apart h t lent

  by_map : (a : XmlAttributeElement) (s : NameState) → merge_event (attribute_by N₂ a s) ≡ attribute_by N₁ a s
  by_map a NoText = refl
  by_map a Invalid = refl
  by_map a Valid = ap (λ (p : ℕ). Attribute p a) (prefix-merged (content_of h t lent a.namespace_uri.0))

  attributes-map : (n stride : ℕ) (l : List ℕ) → merge_all (attributes_of N₂ n stride l) ≡ attributes_of N₁ n stride l
  unfolding attributes_of attribute_event
  attributes-map zero stride l = refl
  attributes-map (suc n) stride l =
      let e = by_map (attribute_at l) (state_in (content_of h t lent (attribute_at l).name.0)) in
      ap (λ (x : Event). x ∷ merge_all (attributes_of N₂ n stride (drop stride l))) e
      ∙ ap (λ (m : List Event). attribute_event N₁ l ∷ m) (attributes-map n stride (drop stride l))

  module _ (s : XmlStartElement) (k : ℕ) (l : List ℕ) where
    open-map : merge_all (from_open N₂ s k l) ≡ from_open N₁ s k l
    unfolding from_open from_lead
    open-map =
        ap (λ (m : List Event). Open s.name (fixed_of (N₂.state s.name.0)) s.line ∷ m)
        (behind-when (eqb k 0) leading _ _ refl (attributes-map s.attribute_count (stride_of s) (drop (attributes_at s) l)))

    name-map : merge_all (from_name N₂ s k l) ≡ from_name N₁ s k l
    name-map = name_by N₂ N₁ s k l (λ ds es. merge_all ds ≡ es) (λ b n ds es h. behind-when b (Note (name_note N₂ s n)) ds es refl h) refl refl open-map

  abbrev Merges : List Event → List Event → Type 0
  Merges ds es = merge_all ds ≡ es

  behind : (s : XmlStartElement) (whole b : Bool) (n : StartNote) (ds es : List Event) → Merges ds es
      → Merges (event_if b (Note (start_note s n)) ++ ds) (event_if b (Note (start_note s n)) ++ es)
  behind s whole b n ds es h = behind-when b (Note (start_note s n)) ds es refl h

  -- ---- a turn

  module _ (l : List ℕ) (p : WalkState) where
    chunk-map : (c : Chunk) → merge_all (chunk_yield N₂ l p c) ≡ chunk_yield N₁ l p c
    chunk-map (Start s) = start-whole N₂ N₁ s p.starts l (λ w. Merges) (behind s) (name-map s p.starts l)
    chunk-map End = refl
    chunk-map (Other n) = refl
    chunk-map Last = refl

    cut-map : (c : CutChunk) → merge_all (cut_yield N₂ l p c) ≡ cut_yield N₁ l p c
    cut-map CutLine = refl
    cut-map CutHead = refl
    cut-map (CutGap s) = cut-gap N₂ N₁ s p.starts l (λ w. Merges) (behind s) refl
    cut-map (CutAttributes s) = cut-attributes N₂ N₁ s p.starts l (λ w. Merges) (behind s) refl
    cut-map (CutTrailing s) = cut-trailing N₂ N₁ s p.starts l (λ w. Merges) (behind s) refl
    cut-map CutEnd = refl
    cut-map CutOther = refl

    turn-map : (x : Turn) → merge_all (yield_of N₂ l p x) ≡ yield_of N₁ l p x
    turn-map Stop = refl
    turn-map (Foreign k a n) = merge-when (not (eqb k p.run)) (Note (foreign_note k a))
    turn-map (Met c) = chunk-map c
    turn-map (Cut c) = cut-map c

  last-map : (p : WalkState) → merge_all (last_of p) ≡ last_of p
  last-map p =
      behind-when (not (eqb p.depth 0)) (Note (UnclosedElements p.depth)) (from_root p) (from_root p) refl (merge-when (eqb p.starts 0) (Refuse MissingRoot))

  body_map : (b : List ℕ) → merge_all (body_events N₂ b) ≡ body_events N₁ b
  unfolding body_events
  body_map b =
      body-by N₂ N₁ (λ l p. Merges) (λ l p e. last-map p) (λ l p m e h ds es r. merge-parts (out N₂ l p) ds (turn-map l p (turn_of l)) r) b
      (record { run = 2; depth = 0; starts = 0 })

  -- ---- the file

  pub merged-events : (o : Opened) (b : List ℕ) → merge_all (file_events N₂ o t b) ≡ file_events N₁ o t b
  merged-events o b =
      file-by N₂ N₁ o t b Merges (λ c n ds es h. behind-when c (Note (head_note o t n)) ds es refl h) (λ e q. refl) (λ q. body_map b)
