-- What an event asks and does, by its case: which ask for texts, and that their names are valid (`asks-for`), which are not the end, and what
-- `place` does with an event whose case is known (`place-as`). No contract cites this file.
use Rattle.std.specs.Prelude.{Result, Ok, Err, Option, Some, None}
use Prim.Native.Nat.{ℕ}
use mathlib.Core.Path.{◌≡◌, refl, sym, ◌∙◌, ap, subst}
use mathlib.Core.List.{List}
use mathlib.Core.Bool.{Bool, true, false, not, cond, ◌&&◌}
use lib.ListN.{length, drop}
use lib.Dec.{eqb, ltb}
use Rattle.anomaly.specs.declared.ResAnomaly.{ResAnomaly}
use Rattle.anomaly.specs.declared.ResAnomaly.TheVariants.{DamagedElementName}
use Rattle.common.specs.declared.StringIndex.{StringIndex}
use Rattle.errors.specs.declared.Refusal.{Refusal}
use Rattle.text.specs.declared.NameState.{NameState}
use Rattle.text.specs.declared.NameState.TheVariants.{NoText, Invalid, Valid}
use Rattle.xml.specs.NCName.{valid_name}
use Rattle.text.specs.Content.{Content, none, cut, some, content_of, is_name, valid_by, state_in}
use Rattle.text.specs.Inner.Found.{Asks}
use Rattle.res_string_pool.specs.declared.Garbage.{Garbage}
use Rattle.head.specs.declared.Opened.{Opened}
use Rattle.head.specs.Head.{PoolThere, outside_in}
use Rattle.xml_elements.specs.declared.XmlAttributeElement.{XmlAttributeElement}
use Rattle.xml_elements.specs.declared.Chunk.{Chunk}
use Rattle.xml_elements.specs.declared.Chunk.TheVariants.{Start, End, Other as OtherChunk, Last}
use Rattle.xml_elements.specs.declared.CutChunk.{CutChunk}
use Rattle.xml_elements.specs.declared.CutChunk.TheVariants.{CutLine, CutHead, CutGap, CutAttributes, CutTrailing, CutEnd, CutOther}
use Rattle.xml_elements.specs.declared.Turn.{Turn}
use Rattle.xml_elements.specs.declared.Turn.TheVariants.{Stop as NoTurn, Foreign, Met, Cut}
use Rattle.xml_elements.specs.Chunk.{trailing_of, attribute_at, turn_of}
use Rattle.records.specs.Repeats.{Rule}
use Rattle.system_types.specs.Names.{Lent}
use Rattle.events.specs.declared.Cursor.{Cursor}
use Rattle.events.specs.declared.Step.{Step}
use Rattle.events.specs.declared.Phase.{Phase}
use Rattle.events.specs.declared.Phase.TheVariants.{AtGarbage, AtCount, AtOffsets, AtRefuse, AtChunk, AtGap, AtSize, AtTrailing}
use Rattle.events.specs.declared.Phase.TheVariants.{AtShort, AtName, AtNamed, AtOpen, AtLead, AtAttribute, AtLast, AtRoot, Over}
use Rattle.events.specs.declared.Event.{Event}
use Rattle.events.specs.declared.Event.TheVariants.{Nothing, Open, Attribute, LeftOut, Close, Note, Refuse, Finish}
use Rattle.events.specs.Events.{Names, names_in, leading, foreign_note, attribute_by, attribute_event}
use Rattle.events.specs.Inner.Steps.{note_if, garbage_event, to_step, named_step, name_step, chunk_step, cut_step, turn_step, step_by, step_of}
use Rattle.events.specs.Inner.Pending.{Held, Ready, Within}
use Rattle.tables.specs.Inner.Keys.{Key}
use Rattle.walk.specs.declared.tree.Tree.{Tree}
use Rattle.walk.specs.declared.placing.Stop.{Stop}
use Rattle.walk.specs.declared.placing.Stop.TheVariants.{Full, Due, Finished}
use Rattle.walk.specs.Inner.Tree.{PlacesBy, NotEnd, AsksFor}

-- ---- which events ask for texts

nothing-not : (p : ℕ) (a : XmlAttributeElement) → Nothing ≡ Attribute p a → ⊥
nothing-not p a e = cc

note-not : (x : ResAnomaly) (p : ℕ) (a : XmlAttributeElement) → Note x ≡ Attribute p a → ⊥
note-not x p a e = cc

refuse-not : (x : Refusal) (p : ℕ) (a : XmlAttributeElement) → Refuse x ≡ Attribute p a → ⊥
refuse-not x p a e = cc

finish-not : (p : ℕ) (a : XmlAttributeElement) → Finish ≡ Attribute p a → ⊥
finish-not p a e = cc

note_if-not : (q : Bool) (x : ResAnomaly) (p : ℕ) (a : XmlAttributeElement) → note_if q (Note x) ≡ Attribute p a → ⊥
note_if-not true x p a e = note-not x p a e
note_if-not false x p a e = nothing-not p a e

refuse_if-not : (q : Bool) (x : Refusal) (p : ℕ) (a : XmlAttributeElement) → note_if q (Refuse x) ≡ Attribute p a → ⊥
refuse_if-not true x p a e = refuse-not x p a e
refuse_if-not false x p a e = nothing-not p a e

garbage-not : (g : Option Garbage) (p : ℕ) (a : XmlAttributeElement) → garbage_event g ≡ Attribute p a → ⊥
garbage-not (Some g) p a e = note-not _ p a e
garbage-not None p a e = nothing-not p a e

-- no attribute comes of a head whose pool is short
attribute-pool : (N : Names) (o : Opened) (t b : List ℕ) (c : Cursor) (p : ℕ) (a : XmlAttributeElement) (ph : Phase) → Held o.end (length b) c ph
    → (step_by N o t b c ph).event ≡ Attribute p a → PoolThere o.end
attribute-pool N o t b c p a AtGarbage h e = absurd (garbage-not o.garbage p a e)
attribute-pool N o t b c p a AtCount h e = absurd (note_if-not (not (eqb o.declared o.head.count)) _ p a e)
attribute-pool N o t b c p a AtOffsets h e = h.1
attribute-pool N o t b c p a AtRefuse h e = absurd (refuse-not _ p a e)
attribute-pool N o t b c p a AtChunk h e = h
attribute-pool N o t b c p a AtGap h e = h.0
attribute-pool N o t b c p a AtSize h e = h.0
attribute-pool N o t b c p a AtTrailing h e = h.0
attribute-pool N o t b c p a AtShort h e = absurd (note-not _ p a e)
attribute-pool N o t b c p a AtName h e = h.0
attribute-pool N o t b c p a AtNamed h e = h.0
attribute-pool N o t b c p a AtOpen h e = h.0
attribute-pool N o t b c p a AtLead h e = h.0
attribute-pool N o t b c p a AtAttribute h e = h.0
attribute-pool N o t b c p a AtLast h e = absurd (note_if-not (not (eqb c.depth 0)) _ p a e)
attribute-pool N o t b c p a AtRoot h e = absurd (refuse_if-not (eqb c.starts 0) _ p a e)
attribute-pool N o t b c p a Over h e = absurd (finish-not p a e)

-- ---- whose names are valid

open-not : (n : StringIndex) (x l p : ℕ) (a : XmlAttributeElement) → Open n x l ≡ Attribute p a → ⊥
open-not n x l p a e = cc

close-not : (p : ℕ) (a : XmlAttributeElement) → Close ≡ Attribute p a → ⊥
close-not p a e = cc

left_not : (n : StringIndex) (p : ℕ) (a : XmlAttributeElement) → LeftOut n ≡ Attribute p a → ⊥
left_not n p a e = cc

named-not : (c : Cursor) (s : NameState) (p : ℕ) (a : XmlAttributeElement) → (named_step c s).event ≡ Attribute p a → ⊥
named-not c NoText p a e = note-not _ p a e
named-not c Invalid p a e = note-not _ p a e
named-not c Valid p a e = open-not _ 0 _ p a e

name-not : (c : Cursor) (d : ℕ) (s : NameState) (p : ℕ) (a : XmlAttributeElement) → (name_step c d s).event ≡ Attribute p a → ⊥
name-not c d s p a e = go (eqb d 0) e
  where
    go : (q : Bool) → (cond q (named_step c s) (to_step c (Note (DamagedElementName c.start.name d)) AtNamed)).event ≡ Attribute p a → ⊥
    go true e = named-not c s p a e
    go false e = note-not _ p a e

foreign-not : (q : Bool) (x : ResAnomaly) (p : ℕ) (a : XmlAttributeElement) → cond q Nothing (Note x) ≡ Attribute p a → ⊥
foreign-not true x p a e = nothing-not p a e
foreign-not false x p a e = note-not x p a e

chunk-not : (c : Cursor) (x : Chunk) (p : ℕ) (a : XmlAttributeElement) → (chunk_step c x).event ≡ Attribute p a → ⊥
chunk-not c (Start s) p a e = nothing-not p a e
chunk-not c End p a e = close-not p a e
chunk-not c (OtherChunk n) p a e = nothing-not p a e
chunk-not c Last p a e = note-not _ p a e

cut-not : (n : ℕ) (c : Cursor) (x : CutChunk) (p : ℕ) (a : XmlAttributeElement) → (cut_step n c x).event ≡ Attribute p a → ⊥
cut-not n c CutLine p a e = nothing-not p a e
cut-not n c CutHead p a e = nothing-not p a e
cut-not n c (CutGap s) p a e = nothing-not p a e
cut-not n c (CutAttributes s) p a e = nothing-not p a e
cut-not n c (CutTrailing s) p a e = nothing-not p a e
cut-not n c CutEnd p a e = close-not p a e
cut-not n c CutOther p a e = nothing-not p a e

turn-not : (b : List ℕ) (c : Cursor) (u : Turn) (p : ℕ) (a : XmlAttributeElement) → (turn_step b c u).event ≡ Attribute p a → ⊥
turn-not b c NoTurn p a e = nothing-not p a e
turn-not b c (Foreign k n m) p a e = foreign-not (eqb k c.run) (foreign_note k n) p a e
turn-not b c (Met x) p a e = chunk-not c x p a e
turn-not b c (Cut x) p a e = cut-not (length b) c x p a e

-- an attribute of the file has the name that was asked, and it is valid
attribute-by : (N : Names) (x : XmlAttributeElement) (s : NameState) (p : ℕ) (a : XmlAttributeElement) → attribute_by N x s ≡ Attribute p a
    → (s ≡ Valid) × (x.name.0 ≡ a.name.0)
attribute-by N x NoText p a e = absurd (left_not _ p a e)
attribute-by N x Invalid p a e = absurd (note-not _ p a e)
attribute-by N x Valid p a e = (refl, cc)

attribute-of : (N : Names) (l : List ℕ) (p : ℕ) (a : XmlAttributeElement) → attribute_event N l ≡ Attribute p a → N.state a.name.0 ≡ Valid
unfolding attribute_event
attribute-of N l p a e =
    let w = attribute-by N (attribute_at l) (N.state (attribute_at l).name.0) p a e in
    ap N.state (sym w.1) ∙ w.0

lead_is : (p : ℕ) (a : XmlAttributeElement) → leading ≡ Attribute p a → p ≡ 2
lead_is p a e = cc

attribute-valid : (N : Names) (o : Opened) (t b : List ℕ) (c : Cursor) (p : ℕ) (a : XmlAttributeElement) (ph : Phase)
    → (step_by N o t b c ph).event ≡ Attribute p a → (p ≡ 2 → ⊥) → N.state a.name.0 ≡ Valid
attribute-valid N o t b c p a AtGarbage e n = absurd (garbage-not o.garbage p a e)
attribute-valid N o t b c p a AtCount e n = absurd (note_if-not (not (eqb o.declared o.head.count)) _ p a e)
attribute-valid N o t b c p a AtOffsets e n = absurd (note_if-not (not (eqb (outside_in t o.head) 0)) _ p a e)
attribute-valid N o t b c p a AtRefuse e n = absurd (refuse-not _ p a e)
attribute-valid N o t b c p a AtChunk e n = absurd (turn-not b c (turn_of (drop c.at b)) p a e)
attribute-valid N o t b c p a AtGap e n = absurd (note_if-not (ltb 20 c.start.attribute_start) _ p a e)
attribute-valid N o t b c p a AtSize e n =
    absurd (note_if-not (not (eqb c.start.attribute_count 0) && ltb 20 c.start.attribute_size) _ p a e)
attribute-valid N o t b c p a AtTrailing e n = absurd (note_if-not (not (eqb (trailing_of c.start) 0)) _ p a e)
attribute-valid N o t b c p a AtShort e n = absurd (note-not _ p a e)
attribute-valid N o t b c p a AtName e n = absurd (name-not c (N.damage c.start.name.0) (N.state c.start.name.0) p a e)
attribute-valid N o t b c p a AtNamed e n = absurd (named-not c (N.state c.start.name.0) p a e)
attribute-valid N o t b c p a AtOpen e n = absurd (open-not _ 1 _ p a e)
attribute-valid N o t b c p a AtLead e n = absurd (n (lead_is p a e))
attribute-valid N o t b c p a AtAttribute e n = attribute-of N (drop c.at b) p a e
attribute-valid N o t b c p a AtLast e n = absurd (note_if-not (not (eqb c.depth 0)) _ p a e)
attribute-valid N o t b c p a AtRoot e n = absurd (refuse_if-not (eqb c.starts 0) _ p a e)
attribute-valid N o t b c p a Over e n = absurd (finish-not p a e)

-- a valid name, by its text
valid-by : (b : Bool) → valid_by b ≡ Valid → b ≡ true
valid-by true e = refl
valid-by false e = cc

valid-is : (x : Content) → state_in x ≡ Valid → is_name x ≡ true
valid-is none e = cc
valid-is cut e = cc
valid-is (some w s) e = valid-by (valid_name w s) e

-- what `place` asks of the event of a step
pub asks-for : (mode : ℕ) (t : List ℕ) (lent : Lent) (b : List ℕ) (o : Opened) (c : Cursor) (s : Step) → Ready t lent o → Within o b c
    → s ≡ step_of (names_in mode o.head t lent) o t b c → AsksFor s.event t lent o.head
unfolding step_of
asks-for mode t lent b o c s ready w q = go s.event refl
  where
    asked : (p : ℕ) (a : XmlAttributeElement) → s.event ≡ Attribute p a
        → Asks t lent o.head × ((p ≡ 2 → ⊥) → is_name (content_of o.head t lent a.name.0) ≡ true)
    asked p a e =
        let N = names_in mode o.head t lent in
        let made = sym (ap (λ (x : Step). x.event) q) ∙ e in
        let there = attribute-pool N o t b c p a c.phase w.held made in (
          record { fits = ready.fits there; good = ready.good },
          λ n. valid-is (content_of o.head t lent a.name.0) (attribute-valid N o t b c p a c.phase made n),
        )

    go : (e : Event) → s.event ≡ e → AsksFor e t lent o.head
    go Nothing e = tt
    go (Open n x l) e = tt
    go (Attribute p a) e = asked p a e
    go (LeftOut n) e = tt
    go Close e = tt
    go (Note x) e = tt
    go (Refuse x) e = tt
    go Finish e = tt

-- ---- which events are not the end

pub not_end : (p : Result Tree Stop) (e : Event) → (e ≡ Finish → ⊥) → NotEnd p e
not_end (Ok u) e h = h
not_end (Err (Full x)) e h = tt
not_end (Err (Due x)) e h = tt
not_end (Err Finished) e h = tt

-- nor is an event that is said to be another
abbrev pub Other : Event → Type 0
Other Finish = ⊥
Other Nothing = Unit {0}
Other (Open n x l) = Unit {0}
Other (Attribute p a) = Unit {0}
Other (LeftOut n) = Unit {0}
Other Close = Unit {0}
Other (Note x) = Unit {0}
Other (Refuse x) = Unit {0}

pub not-other : (e e' : Event) → e ≡ e' → Other e' → e ≡ Finish → ⊥
not-other e e' p h q = subst (λ (x : Event). Other x) (sym p ∙ q) h

-- ---- an event whose case is known

module _ (rule : Rule) (key : Key) (ns ats : List ℕ) (t : Tree) (o : List ℕ) (e : Event) where
  pub place-as : (p : Result Tree Stop) (ns' ats' : List ℕ) (e' : Event) → e ≡ e' → PlacesBy rule key p ns ats t o e' ns' ats'
      → PlacesBy rule key p ns ats t o e ns' ats'
  place-as p ns' ats' e' q h = rw q h
