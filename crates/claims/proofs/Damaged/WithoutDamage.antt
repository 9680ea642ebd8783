-- What a file makes, beside what it would make if no text were damaged: the same but for its notes 32, and these are told by the elements that open.
-- docs/FORMAT.md, W18, B13. For proofs/Damaged/Theorem.antt. No contract cites this file.
--
--   besides-append, count_of_kind-append   lists of anomalies by kind
--   without_damage   the names of a file, none of them damaged
--   damages_of       the notes 32 of the elements that open among some events; damages-others: notes play no part
--   Undamaged       events without a note 32 and without an element
--   DamageApart     what is said of both lists; file-apart: so it is with the events of a file
use Rattle.std.specs.Prelude.{Option, Some, None}
use Prim.Native.Nat.{ℕ, zero, suc}
use mathlib.Core.Path.{◌≡◌, refl, sym, ◌∙◌, ap}
use mathlib.Core.List.{List, [], ◌∷◌, ◌++◌, append_assoc}
use mathlib.Core.Bool.{Bool, true, false, cond, not}
use lib.ListN.{drop}
use lib.Dec.{eqb}
use Rattle.common.specs.declared.StringIndex.{StringIndex}
use Rattle.anomaly.specs.Note.{kind_index}
use Rattle.anomaly.specs.Kept.{of_kind}
use Rattle.anomaly.specs.declared.ResAnomaly.{ResAnomaly}
use Rattle.anomaly.specs.declared.ResAnomaly.TheVariants.{NonXmlChunk, XmlNodeHeaderSize}
use Rattle.anomaly.specs.declared.ResAnomaly.TheVariants.{InvalidElementName}
use Rattle.anomaly.specs.declared.ResAnomaly.TheVariants.{DamagedElementName, TruncatedXml, UnclosedElements, UnknownChunk}
use Rattle.errors.specs.declared.Refusal.TheVariants.{MissingRoot}
use Rattle.text.specs.declared.NameState.{NameState}
use Rattle.text.specs.declared.NameState.TheVariants.{NoText, Invalid, Valid}
use Rattle.res_string_pool.specs.declared.Garbage.{Garbage}
use Rattle.head.specs.declared.Opened.{Opened}
use Rattle.head.specs.Head.{refusal_of}
use Rattle.xml_elements.specs.declared.XmlStartElement.{XmlStartElement}
use Rattle.xml_elements.specs.declared.XmlAttributeElement.{XmlAttributeElement}
use Rattle.xml_elements.specs.declared.Chunk.{Chunk}
use Rattle.xml_elements.specs.declared.Chunk.TheVariants.{Start, End, Other, Last}
use Rattle.xml_elements.specs.declared.CutChunk.{CutChunk}
use Rattle.xml_elements.specs.declared.CutChunk.TheVariants.{CutLine, CutHead, CutGap, CutAttributes, CutTrailing, CutEnd, CutOther}
use Rattle.xml_elements.specs.declared.Turn.{Turn}
use Rattle.xml_elements.specs.declared.Turn.TheVariants.{Stop, Foreign, Met, Cut}
use Rattle.xml_elements.specs.Chunk.{stride_of, attributes_at, attribute_at, turn_of}
use Rattle.events.specs.declared.Event.{Event}
use Rattle.events.specs.declared.Event.TheVariants.{Nothing, Open, Attribute, LeftOut, Close, Note, Refuse, Finish}
use Rattle.events.specs.Events.{Names, event_if, is_valid, has_one, fixed_of, leading, attribute_by, attribute_event, attributes_of, cut_short}
use Rattle.events.specs.Events.{WalkState, chunk_yield, cut_yield, yield_of, foreign_note}
use Rattle.events.specs.Events.{last_of, from_root, out, body_events, file_events}
use Rattle.events.specs.Inner.Starts.{from_lead, from_open, from_named, from_name}
use Rattle.events.specs.Inner.Starts.{from_lead, from_open, from_named, from_name}
use Rattle.claims.specs.Counts.{event_note, event_notes}
use Rattle.claims.specs.Damaged.{damage_place, besides}
use Rattle.claims.proofs.Events.NotesAndOthers.{others_in, others_in-append, event_notes-append}
use Rattle.claims.proofs.Events.EventCases.{StartNote, shifted, sized, trailing, start_note, start-whole, cut-gap, cut-attributes, cut-trailing}
use Rattle.claims.proofs.Events.EventCases.{body-by, HeadNote, garbage_told, garbage, count, offsets, head_note, file-by}

-- ---- lists by kind

pub besides-append : (k : ℕ) (a b : List ResAnomaly) → besides k (a ++ b) ≡ besides k a ++ besides k b
besides-append k [] b = refl
besides-append k (x ∷ a) b =
    let here = cond (eqb (kind_index x) k) [] (x ∷ []) in
    ap (λ (l : List ResAnomaly). here ++ l) (besides-append k a b) ∙ sym (append_assoc here (besides k a) (besides k b))

pub count_of_kind-append : (k : ℕ) (a b : List ResAnomaly) → of_kind k (a ++ b) ≡ of_kind k a ++ of_kind k b
unfolding of_kind
count_of_kind-append k [] b = refl
count_of_kind-append k (x ∷ a) b =
    let here = cond (eqb (kind_index x) k) (x ∷ []) [] in
    ap (λ (l : List ResAnomaly). here ++ l) (count_of_kind-append k a b) ∙ sym (append_assoc here (of_kind k a) (of_kind k b))

-- ---- names

abbrev pub without_damage : Names → Names
without_damage N = record { state = N.state; damage = λ i. 0; prefix_of = N.prefix_of; repeats = N.repeats }

-- the note 32 of a name
abbrev damage_of : Names → StringIndex → List ResAnomaly
damage_of N n = cond (eqb (N.damage n.0) 0) [] (DamagedElementName n (N.damage n.0) ∷ [])

abbrev opened : Names → Event → List ResAnomaly
opened N (Open n x l) = damage_of N n
opened N Nothing = []
opened N (Attribute p a) = []
opened N (LeftOut n) = []
opened N Close = []
opened N (Note x) = []
opened N (Refuse x) = []
opened N Finish = []

-- of all the elements that open
abbrev pub damages_of : Names → List Event → List ResAnomaly
damages_of N [] = []
damages_of N (e ∷ es) = opened N e ++ damages_of N es

module _ (N : Names) where
  damages-append : (a b : List Event) → damages_of N (a ++ b) ≡ damages_of N a ++ damages_of N b
  damages-append [] b = refl
  damages-append (e ∷ a) b =
      ap (λ (l : List ResAnomaly). opened N e ++ l) (damages-append a b) ∙ sym (append_assoc (opened N e) (damages_of N a) (damages_of N b))

  -- notes play no part
  pub damages-others : (es : List Event) → damages_of N es ≡ damages_of N (others_in es)
  damages-others [] = refl
  damages-others (Nothing ∷ es) = damages-others es
  damages-others (Open n x l ∷ es) = ap (λ (m : List ResAnomaly). damage_of N n ++ m) (damages-others es)
  damages-others (Attribute p a ∷ es) = damages-others es
  damages-others (LeftOut n ∷ es) = damages-others es
  damages-others (Close ∷ es) = damages-others es
  damages-others (Note x ∷ es) = damages-others es
  damages-others (Refuse x ∷ es) = damages-others es
  damages-others (Finish ∷ es) = damages-others es

  -- ---- events without a note 32 and without an element

  record Undamaged (es : List Event) : Type 0 where
    kept : besides damage_place (event_notes es) ≡ event_notes es
    none : of_kind damage_place (event_notes es) ≡ []
    shut : damages_of N es ≡ []

  undamaged-none : Undamaged []
  unfolding of_kind
  undamaged-none = record { kept = refl; none = refl; shut = refl }

  kept_append : (a b : List Event) → besides damage_place (event_notes a) ≡ event_notes a → besides damage_place (event_notes b) ≡ event_notes b
      → besides damage_place (event_notes (a ++ b)) ≡ event_notes (a ++ b)
  kept_append a b p q =
      ap (besides damage_place) (event_notes-append a b) ∙ besides-append damage_place (event_notes a) (event_notes b)
      ∙ ap (λ (l : List ResAnomaly). l ++ besides damage_place (event_notes b)) p ∙ ap (λ (l : List ResAnomaly). event_notes a ++ l) q ∙ sym (event_notes-append a b)

  none-append : (a b : List Event) → of_kind damage_place (event_notes a) ≡ [] → of_kind damage_place (event_notes b) ≡ [] → of_kind damage_place (event_notes (a ++ b)) ≡ []
  none-append a b p q =
      ap (of_kind damage_place) (event_notes-append a b) ∙ count_of_kind-append damage_place (event_notes a) (event_notes b)
      ∙ ap (λ (l : List ResAnomaly). l ++ of_kind damage_place (event_notes b)) p ∙ q

  undamaged-append : (a b : List Event) → Undamaged a → Undamaged b → Undamaged (a ++ b)
  undamaged-append a b p q = record {
    kept = kept_append a b p.kept q.kept;
    none = none-append a b p.none q.none;
    shut = damages-append a b ∙ ap (λ (l : List ResAnomaly). l ++ damages_of N b) p.shut ∙ q.shut;
  }

  -- a note of another kind
  undamaged-note : (x : ResAnomaly) → eqb (kind_index x) damage_place ≡ false → Undamaged (Note x ∷ [])
  unfolding of_kind
  undamaged-note x e = record { kept = rw e; none = rw e; shut = refl }

  undamaged-when : (b : Bool) (x : ResAnomaly) → eqb (kind_index x) damage_place ≡ false → Undamaged (event_if b (Note x))
  undamaged-when true x e = undamaged-note x e
  undamaged-when false x e = undamaged-none

  undamaged-one : (e : Event) → event_note e ≡ [] → opened N e ≡ [] → Undamaged (e ∷ [])
  unfolding of_kind
  undamaged-one e n o = record { kept = rw n; none = rw n; shut = rw o }

  undamaged-if : (b : Bool) (e : Event) → event_note e ≡ [] → opened N e ≡ [] → Undamaged (event_if b e)
  undamaged-if true e n o = undamaged-one e n o
  undamaged-if false e n o = undamaged-none

  -- ---- what is said of both lists

  pub record DamageApart (es without : List Event) : Type 0 where
    pub others : others_in es ≡ others_in without
    pub notes : besides damage_place (event_notes es) ≡ event_notes without
    pub damages : of_kind damage_place (event_notes es) ≡ damages_of N es

  undamaged-apart : (es : List Event) → Undamaged es → DamageApart es es
  undamaged-apart es s = record { others = refl; notes = s.kept; damages = s.none ∙ sym s.shut }

  apart-append : (a a' b b' : List Event) → DamageApart a a' → DamageApart b b' → DamageApart (a ++ b) (a' ++ b')
  apart-append a a' b b' p q = record {
    others =
        others_in-append a b ∙ ap (λ (l : List Event). l ++ others_in b) p.others ∙ ap (λ (l : List Event). others_in a' ++ l) q.others
        ∙ sym (others_in-append a' b');
    notes =
        ap (besides damage_place) (event_notes-append a b) ∙ besides-append damage_place (event_notes a) (event_notes b)
        ∙ ap (λ (l : List ResAnomaly). l ++ besides damage_place (event_notes b)) p.notes ∙ ap (λ (l : List ResAnomaly). event_notes a' ++ l) q.notes
        ∙ sym (event_notes-append a' b');
    damages =
        ap (of_kind damage_place) (event_notes-append a b) ∙ count_of_kind-append damage_place (event_notes a) (event_notes b)
        ∙ ap (λ (l : List ResAnomaly). l ++ of_kind damage_place (event_notes b)) p.damages
        ∙ ap (λ (l : List ResAnomaly). damages_of N a ++ l) q.damages ∙ sym (damages-append a b);
  }

  -- a note of another kind before both
  behind-note : (b : Bool) (x : ResAnomaly) (es es' : List Event) → eqb (kind_index x) damage_place ≡ false → DamageApart es es'
      → DamageApart (event_if b (Note x) ++ es) (event_if b (Note x) ++ es')
  behind-note b x es es' e q = apart-append _ _ es es' (undamaged-apart _ (undamaged-when b x e)) q

  -- ---- a start

  attribute-undamaged : (a : XmlAttributeElement) (s : NameState) → Undamaged (attribute_by N a s ∷ [])
  unfolding kind_index
  attribute-undamaged a NoText = undamaged-one _ refl refl
  attribute-undamaged a Invalid = undamaged-note _ refl
  attribute-undamaged a Valid = undamaged-one _ refl refl

  attributes-undamaged : (n stride : ℕ) (l : List ℕ) → Undamaged (attributes_of N n stride l)
  unfolding attributes_of attribute_event
  attributes-undamaged zero stride l = undamaged-none
  attributes-undamaged (suc n) stride l =
      undamaged-append (attribute_event N l ∷ []) _ (attribute-undamaged (attribute_at l) (N.state (attribute_at l).name.0)) (attributes-undamaged n stride (drop stride l))

  attribute-same : (a : XmlAttributeElement) (s : NameState) → attribute_by N a s ≡ attribute_by (without_damage N) a s
  attribute-same a NoText = refl
  attribute-same a Invalid = refl
  attribute-same a Valid = refl

  attributes-same : (n stride : ℕ) (l : List ℕ) → attributes_of N n stride l ≡ attributes_of (without_damage N) n stride l
  unfolding attributes_of attribute_event
  attributes-same zero stride l = refl
  attributes-same (suc n) stride l =
      ap (λ (e : Event). e ∷ attributes_of N n stride (drop stride l)) (attribute-same (attribute_at l) (N.state (attribute_at l).name.0))
      ∙ ap (λ (es : List Event). attribute_by (without_damage N) (attribute_at l) (N.state (attribute_at l).name.0) ∷ es) (attributes-same n stride (drop stride l))

  module _ (s : XmlStartElement) (k : ℕ) (l : List ℕ) where
    lead-undamaged : Undamaged (from_lead N s k l)
    unfolding from_lead
    lead-undamaged =
        undamaged-append (event_if (eqb k 0) leading) _ (undamaged-if (eqb k 0) leading refl refl)
        (attributes-undamaged s.attribute_count (stride_of s) (drop (attributes_at s) l))

    named-same : from_named N s k l ≡ from_named (without_damage N) s k l
    unfolding from_named from_open from_lead
    named-same =
        ap (λ (es : List Event). event_if (not (is_valid (N.state s.name.0))) (Note (InvalidElementName s.name (has_one (N.state s.name.0)))) ++
        (Open s.name (fixed_of (N.state s.name.0)) s.line ∷ (event_if (eqb k 0) leading ++ es)))
        (attributes-same s.attribute_count (stride_of s) (drop (attributes_at s) l))

    -- the element has no note 32 of its own behind its name
    open_kept : besides damage_place (event_notes (from_open N s k l)) ≡ event_notes (from_open N s k l)
    unfolding from_open
    open_kept = lead-undamaged.kept

    open_none : of_kind damage_place (event_notes (from_open N s k l)) ≡ []
    unfolding from_open
    open_none = lead-undamaged.none

    open-damages : damages_of N (from_open N s k l) ≡ damage_of N s.name ++ []
    unfolding from_open
    open-damages = ap (λ (m : List ResAnomaly). damage_of N s.name ++ m) lead-undamaged.shut

    abbrev nine : ResAnomaly
    nine = InvalidElementName s.name (has_one (N.state s.name.0))

    nine-undamaged : Undamaged (event_if (not (is_valid (N.state s.name.0))) (Note nine))
    unfolding kind_index
    nine-undamaged = undamaged-when (not (is_valid (N.state s.name.0))) nine refl

    named-kept : besides damage_place (event_notes (from_named N s k l)) ≡ event_notes (from_named N s k l)
    unfolding from_named
    named-kept = kept_append (event_if (not (is_valid (N.state s.name.0))) (Note nine)) (from_open N s k l) nine-undamaged.kept open_kept

    named_none : of_kind damage_place (event_notes (from_named N s k l)) ≡ []
    unfolding from_named
    named_none = none-append (event_if (not (is_valid (N.state s.name.0))) (Note nine)) (from_open N s k l) nine-undamaged.none open_none

    named-damages : damages_of N (from_named N s k l) ≡ damage_of N s.name ++ []
    unfolding from_named
    named-damages =
        damages-append (event_if (not (is_valid (N.state s.name.0))) (Note nine)) (from_open N s k l)
        ∙ ap (λ (m : List ResAnomaly). m ++ damages_of N (from_open N s k l)) nine-undamaged.shut ∙ open-damages

    abbrev damage : ResAnomaly
    damage = DamagedElementName s.name (N.damage s.name.0)

    abbrev maybe : Bool → List Event
    maybe whole = event_if (not whole) (Note damage)

    damage-others : (whole : Bool) (es : List Event) → others_in (maybe whole ++ es) ≡ others_in es
    damage-others true es = refl
    damage-others false es = refl

    damage-kept : (whole : Bool) (es : List Event) → besides damage_place (event_notes (maybe whole ++ es)) ≡ besides damage_place (event_notes es)
    unfolding kind_index
    damage-kept true es = refl
    damage-kept false es = refl

    damage-told : (whole : Bool) → eqb (N.damage s.name.0) 0 ≡ whole
        → of_kind damage_place (event_notes (maybe whole ++ from_named N s k l)) ≡ damages_of N (maybe whole ++ from_named N s k l)
    unfolding of_kind kind_index
    damage-told true e =
        let none : damage_of N s.name ++ [] ≡ [] = rw e in
        named_none ∙ sym (named-damages ∙ none)
    damage-told false e =
        let one : damage_of N s.name ++ [] ≡ damage ∷ [] = rw e in
        ap (λ (m : List ResAnomaly). damage ∷ m) named_none ∙ sym (named-damages ∙ one)

    name-apart : DamageApart (from_name N s k l) (from_name (without_damage N) s k l)
    unfolding from_name
    name-apart = record {
      others = damage-others (eqb (N.damage s.name.0) 0) (from_named N s k l) ∙ ap others_in named-same;
      notes = damage-kept (eqb (N.damage s.name.0) 0) (from_named N s k l) ∙ named-kept ∙ ap event_notes named-same;
      damages = damage-told (eqb (N.damage s.name.0) 0) refl;
    }

    start-other : (n : StartNote) → eqb (kind_index (start_note s n)) damage_place ≡ false
    unfolding kind_index
    start-other shifted = refl
    start-other sized = refl
    start-other trailing = refl

    behind : (whole b : Bool) (n : StartNote) (ds es : List Event) → DamageApart ds es
        → DamageApart (event_if b (Note (start_note s n)) ++ ds) (event_if b (Note (start_note s n)) ++ es)
    behind whole b n ds es h = behind-note b (start_note s n) ds es (start-other n) h

  -- ---- a turn

  short-apart : DamageApart cut_short cut_short
  unfolding kind_index
  short-apart = undamaged-apart cut_short (undamaged-note TruncatedXml refl)

  nothing-apart : DamageApart [] []
  nothing-apart = undamaged-apart [] undamaged-none

  close-apart : DamageApart (Close ∷ []) (Close ∷ [])
  close-apart = undamaged-apart (Close ∷ []) (undamaged-one Close refl refl)

  module _ (l : List ℕ) (p : WalkState) where
    chunk-apart : (c : Chunk) → DamageApart (chunk_yield N l p c) (chunk_yield (without_damage N) l p c)
    unfolding kind_index
    chunk-apart (Start s) = start-whole N (without_damage N) s p.starts l (λ w. DamageApart) (behind s p.starts l) (name-apart s p.starts l)
    chunk-apart End = close-apart
    chunk-apart (Other n) = nothing-apart
    chunk-apart Last = undamaged-apart _ (undamaged-note (UnknownChunk 0x17f) refl)

    cut_apart : (c : CutChunk) → DamageApart (cut_yield N l p c) (cut_yield (without_damage N) l p c)
    cut_apart CutLine = short-apart
    cut_apart CutHead = short-apart
    cut_apart (CutGap s) = cut-gap N (without_damage N) s p.starts l (λ w. DamageApart) (behind s p.starts l) short-apart
    cut_apart (CutAttributes s) = cut-attributes N (without_damage N) s p.starts l (λ w. DamageApart) (behind s p.starts l) short-apart
    cut_apart (CutTrailing s) = cut-trailing N (without_damage N) s p.starts l (λ w. DamageApart) (behind s p.starts l) short-apart
    cut_apart CutEnd = close-apart
    cut_apart CutOther = nothing-apart

    foreign-other : (k a : ℕ) (b : Bool) → eqb (kind_index (cond b (NonXmlChunk a) (XmlNodeHeaderSize a))) damage_place ≡ false
    unfolding kind_index
    foreign-other k a true = refl
    foreign-other k a false = refl

    turn-apart : (x : Turn) → DamageApart (yield_of N l p x) (yield_of (without_damage N) l p x)
    turn-apart Stop = nothing-apart
    turn-apart (Foreign k a n) = undamaged-apart _ (undamaged-when (not (eqb k p.run)) (foreign_note k a) (foreign-other k a (eqb k 0)))
    turn-apart (Met c) = chunk-apart c
    turn-apart (Cut c) = cut_apart c

  last_apart : (p : WalkState) → DamageApart (last_of p) (last_of p)
  unfolding kind_index
  last_apart p =
      behind-note (not (eqb p.depth 0)) (UnclosedElements p.depth) (from_root p) (from_root p) refl
      (undamaged-apart (from_root p) (undamaged-if (eqb p.starts 0) (Refuse MissingRoot) refl refl))

  -- ---- a body

  body-apart : (b : List ℕ) → DamageApart (body_events N b) (body_events (without_damage N) b)
  unfolding body_events
  body-apart b =
      body-by N (without_damage N) (λ l p. DamageApart) (λ l p e. last_apart p)
      (λ l p m e h ds es r. apart-append (out N l p) (out (without_damage N) l p) ds es (turn-apart l p (turn_of l)) r) b (record { run = 2; depth = 0; starts = 0 })

  -- ---- the file

  garbage-other : (g : Option Garbage) → eqb (kind_index (garbage_told g)) damage_place ≡ false
  unfolding kind_index
  garbage-other None = refl
  garbage-other (Some g) = refl

  head-other : (o : Opened) (t : List ℕ) (n : HeadNote) → eqb (kind_index (head_note o t n)) damage_place ≡ false
  unfolding kind_index
  head-other o t garbage = garbage-other o.garbage
  head-other o t count = refl
  head-other o t offsets = refl

  pub file-apart : (o : Opened) (t b : List ℕ) → DamageApart (file_events N o t b) (file_events (without_damage N) o t b)
  file-apart o t b =
      file-by N (without_damage N) o t b DamageApart (λ c n ds es h. behind-note c (head_note o t n) ds es (head-other o t n) h)
      (λ e q. undamaged-apart _ (undamaged-one (Refuse (refusal_of e)) refl refl)) (λ q. body-apart b)
