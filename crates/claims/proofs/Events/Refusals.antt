-- Which refusals a file can make: docs/FORMAT.md, B3. No contract cites this file.
--
--   AllRefuse      every refusal among some events is one of Q; refuse-append, refuse-right of lists that are joined
--   refuse-others, others-refuse   notes play no part
--   body-refuses   the body's only refusal is that there is no start; file-refuses with the head's own
use Prim.Native.Nat.{ℕ, zero, suc}
use mathlib.Core.Path.{◌≡◌, refl}
use mathlib.Core.List.{List, [], ◌∷◌, ◌++◌}
use mathlib.Core.Bool.{Bool, true, false, not}
use lib.ListN.{drop}
use lib.Dec.{eqb}
use Rattle.anomaly.specs.declared.ResAnomaly.{ResAnomaly}
use Rattle.anomaly.specs.declared.ResAnomaly.TheVariants.{UnclosedElements}
use Rattle.errors.specs.declared.Refusal.{Refusal}
use Rattle.errors.specs.declared.Refusal.TheVariants.{MissingRoot}
use Rattle.text.specs.declared.NameState.{NameState}
use Rattle.text.specs.declared.NameState.TheVariants.{NoText, Invalid, Valid}
use Rattle.head.specs.declared.HeadEnd.{HeadEnd}
use Rattle.head.specs.declared.Opened.{Opened}
use Rattle.head.specs.Head.{refusal_of}
use Rattle.xml_elements.specs.declared.XmlStartElement.{XmlStartElement}
use Rattle.xml_elements.specs.declared.XmlAttributeElement.{XmlAttributeElement}
use Rattle.xml_elements.specs.declared.Chunk.{Chunk}
use Rattle.xml_elements.specs.declared.Chunk.TheVariants.{Start, End, Other, Last}
use Rattle.xml_elements.specs.declared.CutChunk.{CutChunk}
use Rattle.xml_elements.specs.declared.CutChunk.TheVariants.{CutLine, CutHead, CutGap, CutAttributes, CutTrailing, CutEnd, CutOther}
use Rattle.xml_elements.specs.declared.Turn.{Turn}
use Rattle.xml_elements.specs.declared.Turn.TheVariants.{Stop, Foreign, Met, Cut}
use Rattle.xml_elements.specs.Chunk.{turn_of, stride_of, attributes_at, attribute_at}
use Rattle.events.specs.declared.Event.{Event}
use Rattle.events.specs.declared.Event.TheVariants.{Nothing, Open, Attribute, LeftOut, Close, Note, Refuse, Finish}
use Rattle.events.specs.Events.{Names, WalkState, event_if, leading, attribute_by, attribute_event, attributes_of}
use Rattle.events.specs.Events.{foreign_note, chunk_yield, cut_yield, yield_of, from_root, last_of, out, body_events, file_events}
use Rattle.events.specs.Inner.Starts.{from_lead, from_open, from_name}
use Rattle.claims.proofs.Events.NotesAndOthers.{others_in}
use Rattle.claims.proofs.Events.EventCases.{start_note, start-whole, cut-gap, cut-attributes, cut-trailing, body-by, head_note, file-by}
use Rattle.claims.proofs.Events.EventCases.{name_note, name_by}

module _ (Q : Refusal → Type 0) where
  abbrev pub RefuseOf : Event → Type 0
  RefuseOf (Refuse x) = Q x
  RefuseOf Nothing = Unit {0}
  RefuseOf (Open n x l) = Unit {0}
  RefuseOf (Attribute p a) = Unit {0}
  RefuseOf (LeftOut n) = Unit {0}
  RefuseOf Close = Unit {0}
  RefuseOf (Note x) = Unit {0}
  RefuseOf Finish = Unit {0}

  abbrev pub AllRefuse : List Event → Type 0
  AllRefuse [] = Unit {0}
  AllRefuse (e ∷ es) = RefuseOf e × AllRefuse es

  -- ---- lists that are joined

  pub refuse-append : (a b : List Event) → AllRefuse a → AllRefuse b → AllRefuse (a ++ b)
  refuse-append [] b p q = q
  refuse-append (e ∷ a) b p q = (p.0, refuse-append a b p.1 q)

  pub refuse-right : (a b : List Event) → AllRefuse (a ++ b) → AllRefuse b
  refuse-right [] b h = h
  refuse-right (e ∷ a) b h = refuse-right a b h.1

  behind-note : (b : Bool) (x : ResAnomaly) (es : List Event) → AllRefuse es → AllRefuse (event_if b (Note x) ++ es)
  behind-note true x es h = (tt, h)
  behind-note false x es h = h

  -- ---- notes play no part

  pub refuse-others : (es : List Event) → AllRefuse es → AllRefuse (others_in es)
  refuse-others [] h = tt
  refuse-others (Nothing ∷ es) h = (tt, refuse-others es h.1)
  refuse-others (Open n x l ∷ es) h = (tt, refuse-others es h.1)
  refuse-others (Attribute p a ∷ es) h = (tt, refuse-others es h.1)
  refuse-others (LeftOut n ∷ es) h = (tt, refuse-others es h.1)
  refuse-others (Close ∷ es) h = (tt, refuse-others es h.1)
  refuse-others (Note x ∷ es) h = refuse-others es h.1
  refuse-others (Refuse x ∷ es) h = (h.0, refuse-others es h.1)
  refuse-others (Finish ∷ es) h = (tt, refuse-others es h.1)

  pub others-refuse : (es : List Event) → AllRefuse (others_in es) → AllRefuse es
  others-refuse [] h = tt
  others-refuse (Nothing ∷ es) h = (tt, others-refuse es h.1)
  others-refuse (Open n x l ∷ es) h = (tt, others-refuse es h.1)
  others-refuse (Attribute p a ∷ es) h = (tt, others-refuse es h.1)
  others-refuse (LeftOut n ∷ es) h = (tt, others-refuse es h.1)
  others-refuse (Close ∷ es) h = (tt, others-refuse es h.1)
  others-refuse (Note x ∷ es) h = (tt, others-refuse es h)
  others-refuse (Refuse x ∷ es) h = (h.0, others-refuse es h.1)
  others-refuse (Finish ∷ es) h = (tt, others-refuse es h.1)

  module _ (N : Names) where
    -- ---- a start

    attribute-by : (a : XmlAttributeElement) (s : NameState) → RefuseOf (attribute_by N a s)
    attribute-by a NoText = tt
    attribute-by a Invalid = tt
    attribute-by a Valid = tt

    attributes-refuse : (n stride : ℕ) (l : List ℕ) → AllRefuse (attributes_of N n stride l)
    unfolding attributes_of attribute_event
    attributes-refuse zero stride l = tt
    attributes-refuse (suc n) stride l =
        (attribute-by (attribute_at l) (N.state (attribute_at l).name.0), attributes-refuse n stride (drop stride l))

    behind-lead : (b : Bool) (es : List Event) → AllRefuse es → AllRefuse (event_if b leading ++ es)
    behind-lead true es h = (tt, h)
    behind-lead false es h = h

    module _ (s : XmlStartElement) (k : ℕ) (l : List ℕ) where
      open-refuse : AllRefuse (from_open N s k l)
      unfolding from_open from_lead
      open-refuse = (tt, behind-lead (eqb k 0) _ (attributes-refuse s.attribute_count (stride_of s) (drop (attributes_at s) l)))

      name-refuse : AllRefuse (from_name N s k l)
      name-refuse = name_by N N s k l (λ ds es. AllRefuse ds) (λ b n ds es h. behind-note b (name_note N s n) ds h) refl refl open-refuse

    -- ---- a turn

    module _ (l : List ℕ) (p : WalkState) where
      chunk-refuse : (c : Chunk) → AllRefuse (chunk_yield N l p c)
      chunk-refuse (Start s) =
          start-whole N N s p.starts l (λ w ds es. AllRefuse ds) (λ w b n ds es h. behind-note b (start_note s n) ds h) (name-refuse s p.starts l)
      chunk-refuse End = (tt, tt)
      chunk-refuse (Other n) = tt
      chunk-refuse Last = (tt, tt)

      cut-refuse : (c : CutChunk) → AllRefuse (cut_yield N l p c)
      cut-refuse CutLine = (tt, tt)
      cut-refuse CutHead = (tt, tt)
      cut-refuse (CutGap s) = cut-gap N N s p.starts l (λ w ds es. AllRefuse ds) (λ w b n ds es h. behind-note b (start_note s n) ds h) (tt, tt)
      cut-refuse (CutAttributes s) = cut-attributes N N s p.starts l (λ w ds es. AllRefuse ds) (λ w b n ds es h. behind-note b (start_note s n) ds h) (tt, tt)
      cut-refuse (CutTrailing s) = cut-trailing N N s p.starts l (λ w ds es. AllRefuse ds) (λ w b n ds es h. behind-note b (start_note s n) ds h) (tt, tt)
      cut-refuse CutEnd = (tt, tt)
      cut-refuse CutOther = tt

      turn-refuse : (T : Turn) → AllRefuse (yield_of N l p T)
      turn-refuse Stop = tt
      turn-refuse (Foreign k a n) = go (not (eqb k p.run))
        where
          go : (b : Bool) → AllRefuse (event_if b (Note (foreign_note k a)))
          go true = (tt, tt)
          go false = tt
      turn-refuse (Met c) = chunk-refuse c
      turn-refuse (Cut c) = cut-refuse c

    -- ---- a body

    module _ (root : Q MissingRoot) where
      last-refuse : (p : WalkState) → AllRefuse (last_of p)
      last-refuse p = behind-note (not (eqb p.depth 0)) (UnclosedElements p.depth) (from_root p) (go (eqb p.starts 0))
        where
          go : (b : Bool) → AllRefuse (event_if b (Refuse MissingRoot))
          go true = (root, tt)
          go false = tt

      pub body-refuses : (b : List ℕ) → AllRefuse (body_events N b)
      unfolding body_events
      body-refuses b =
          body-by N N (λ l p ds es. AllRefuse ds) (λ l p e. last-refuse p)
          (λ l p m e h ds es r. refuse-append (out N l p) ds (turn-refuse l p (turn_of l)) r) b (record { run = 2; depth = 0; starts = 0 })

      -- ---- a file

      pub file-refuses : (o : Opened) (t b : List ℕ) → ((e : HeadEnd) → o.end ≡ e → Q (refusal_of e)) → AllRefuse (file_events N o t b)
      file-refuses o t b head =
          file-by N N o t b (λ ds es. AllRefuse ds) (λ c n ds es h. behind-note c (head_note o t n) ds h) (λ e q. (head e q, tt)) (λ q. body-refuses b)
