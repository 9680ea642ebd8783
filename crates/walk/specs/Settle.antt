-- What comes back of events: put away one by one into tables of given room; the first that has no place refuses.
-- docs/FORMAT.md, W23 to W26, B3 to B6, B9 to B14.
--
--   push      one event; settle all of them
--   opened    an element opens: its node, and it is the innermost open one
--   closed    the innermost closes and becomes a child of the one below; the first stays open for ever
--   kept      an attribute of the last node, which counts it
--   noted     a note, counted by its kind
--
-- An attribute that repeats one of its element, by the rule that is given, is passed over, and has no place due; a note past its cap too.
use Rattle.std.specs.Prelude.{ℕ, ◌+◌, ◌-◌, ◌*◌, ◌/◌, List, [], ◌∷◌, ◌++◌, Bool, cond, length, drop, set, ltb, leb, eqb}
use Rattle.anomaly.specs.Note.{kind_index, note_of}
use Rattle.anomaly.specs.Kept.{is_due, counted, none}
use Rattle.anomaly.specs.declared.Note.{Note as NoteOf}
use Rattle.anomaly.specs.declared.ResAnomaly.{ResAnomaly}
use Rattle.errors.specs.declared.Refusal.{Refusal}
use Rattle.errors.specs.declared.Refusal.TheVariants.{NodesFull, AttributesFull, NotesFull}
use Rattle.xml_elements.specs.declared.XmlAttributeElement.{XmlAttributeElement}
use Rattle.records.specs.Words.{node_width, node_count, no_parent, node_words, attribute_width, attribute_words}
use Rattle.records.specs.Repeats.{Rule, is_repeat}
use Rattle.events.specs.declared.Event.{Event}
use Rattle.events.specs.declared.Event.TheVariants.{Nothing, Open, Attribute, LeftOut, Close, Note, Refuse, Finish}

-- words for nodes, words for attributes, places for notes, how many notes of a kind are kept, and the mode of the reading
pub record Room : Type 0 where
  pub nodes : ℕ
  pub attributes : ℕ
  pub notes : ℕ
  pub cap : ℕ
  pub mode : ℕ

-- The words of nodes and attributes so far, how many words of attributes stood there before those of the last node, the numbers of
-- the open elements, the innermost first, the notes, and how many there are of each kind.
pub record Tables : Type 0 where
  pub nodes : List ℕ
  pub attributes : List ℕ
  pub first : ℕ
  pub stack : List ℕ
  pub notes : List NoteOf
  pub counts : List ℕ

pub data Out : Type 0 where
  going : Tables → Out
  refused : Refusal → Out

-- ---- the stack of open elements

-- the number of the innermost
abbrev pub parent_in : List ℕ → ℕ
parent_in [] = no_parent
parent_in (k ∷ r) = k

abbrev pub closed_in : List ℕ → List ℕ
closed_in [] = []
closed_in (k ∷ []) = k ∷ []
closed_in (k ∷ j ∷ r) = j ∷ r

-- ---- one event

-- its node has no attributes yet
abbrev pub opened : Tables → ℕ → ℕ → ℕ → Tables
opened t name fixed line = record {
  nodes = t.nodes ++ node_words name fixed (parent_in t.stack) (length t.attributes / attribute_width) 0 line;
  attributes = t.attributes;
  first = length t.attributes;
  stack = length t.nodes / node_width ∷ t.stack;
  notes = t.notes;
  counts = t.counts;
}

abbrev pub closed : Tables → Tables
closed t = record { nodes = t.nodes; attributes = t.attributes; first = t.first; stack = closed_in t.stack; notes = t.notes; counts = t.counts }

-- the number of the last node
abbrev pub last_node : Tables → ℕ
last_node t = length t.nodes / node_width - 1

-- the words of an attribute of that node
abbrev pub record_of : Tables → ℕ → XmlAttributeElement → List ℕ
record_of t p a = attribute_words (last_node t) p a.name.0 a.data_type a.«data» a.namespace_uri.0

-- whether it repeats one of that node's
abbrev pub repeated : Rule → Tables → ℕ → XmlAttributeElement → Bool
repeated rule t p a = is_repeat rule (record_of t p a) (drop t.first t.attributes)

abbrev pub kept : Tables → ℕ → XmlAttributeElement → Tables
kept t p a = record {
  nodes = set t.nodes (node_width * last_node t + node_count) ((length t.attributes + attribute_width - t.first) / attribute_width);
  attributes = t.attributes ++ record_of t p a;
  first = t.first;
  stack = t.stack;
  notes = t.notes;
  counts = t.counts;
}

abbrev pub noted : Tables → ResAnomaly → Tables
noted t x = record {
  nodes = t.nodes;
  attributes = t.attributes;
  first = t.first;
  stack = t.stack;
  notes = t.notes ++ (note_of x ∷ []);
  counts = counted t.counts (kind_index x);
}

abbrev pub push : Rule → Room → Out → Event → Out
push rule r (refused x) e = refused x
push rule r (going t) Nothing = going t
push rule r (going t) Finish = going t
push rule r (going t) (LeftOut n) = going t
push rule r (going t) (Refuse x) = refused x
push rule r (going t) (Open name fixed line) =
    cond (leb (length t.nodes + node_width) r.nodes) (going (opened t name.0 fixed line)) (refused (NodesFull (r.nodes / node_width)))
push rule r (going t) Close = going (closed t)
push rule r (going t) (Attribute p a) =
    cond (eqb (length t.nodes) 0) (going t)
    (cond (repeated rule t p a) (going t)
    (cond (leb (length t.attributes + attribute_width) r.attributes) (going (kept t p a)) (refused (AttributesFull (r.attributes / attribute_width)))))
push rule r (going t) (Note x) =
    cond (is_due r.cap t.counts (kind_index x))
    (cond (ltb (length t.notes) r.notes) (going (noted t x)) (refused (NotesFull r.notes)))
    (going t)

-- ---- all of them

unfoldable pub settle : Rule → Room → Out → List Event → Out
settle rule r o [] = o
settle rule r o (e ∷ es) = settle rule r (push rule r o e) es

abbrev pub nothing_yet : Out
nothing_yet = going (record { nodes = []; attributes = []; first = 0; stack = []; notes = []; counts = none })
