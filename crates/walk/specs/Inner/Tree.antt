-- What the functions on the tree do to the words. Not part of what a reader must believe.
--
--   opened_tree, closed_tree, kept_tree   the numbers of a tree behind a start, an end, a kept attribute
--   Sized, Fit   the numbers fit the tables, and more fit a u32
--   Tied         the numbers tell the tables: the open elements are the list o, linked by the parent words
--   Chained      the last node's attributes behind the first 32 are linked, in the words behind the nodes; Far where the next one is to be linked
--   Keeps        what `keep` does with an attribute: it Repeats one (None), `keep` Stores it, or it Lacks a place (refused); KeepsIn where those
--               before it are Chained
--   Places       what `place` does with an event: it is PutAway (Ok), one push of specs/Settle.antt; or it is refused, or Passes to the caller
--   AsksFor      an attribute asks for texts, and its name is valid but for the leading one's; no other event asks
use Rattle.std.specs.Prelude.{ℕ, ◌+◌, ◌-◌, ◌*◌, ◌≤◌, ◌<◌, ◌≡◌, List, [], ◌∷◌, ◌++◌, true, false, cond}
use Rattle.std.specs.Prelude.{length, take, drop, set, get_or, eqb, ◌/◌, Option, Some, None, Result, Ok, Err}
use Rattle.anomaly.specs.declared.Note.{Note as NoteOf}
use Rattle.errors.specs.declared.Refusal.{Refusal}
use Rattle.errors.specs.declared.Refusal.TheVariants.{AttributesFull}
use Rattle.text.specs.Content.{content_of, is_name}
use Rattle.text.specs.Inner.Found.{Asks}
use Rattle.text.specs.declared.Head.{Head}
use Rattle.xml_elements.specs.declared.XmlAttributeElement.{XmlAttributeElement}
use Rattle.records.specs.Words.{node_width, node_parent, node_first, node_count, no_parent, node_words, attribute_width, attribute_words}
use Rattle.records.specs.Repeats.{Rule, is_repeat}
use Rattle.system_types.specs.Names.{Lent}
use Rattle.events.specs.declared.Event.{Event}
use Rattle.events.specs.declared.Event.TheVariants.{Nothing, Open, Attribute, LeftOut, Close, Note, Refuse, Finish}
use Rattle.tables.specs.Inner.Keys.{Key, keys_of}
use Rattle.tables.specs.Inner.Ways.{link_width, front_words, Hung}
use Rattle.walk.specs.declared.tree.Tree.{Tree}
use Rattle.walk.specs.declared.placing.Stop.{Stop}
use Rattle.walk.specs.declared.placing.Stop.TheVariants.{Full, Due, Finished}
use Rattle.walk.specs.Settle.{Room, Tables, going, refused, push}
use Rattle.walk.specs.Reading.{Dropped, none_dropped, dropped_from, dropped_in}

-- ---- the numbers of a tree

abbrev pub parent_of : Tree → ℕ
parent_of t = cond (eqb t.nodes 0) no_parent t.inner

abbrev pub opened_tree : Tree → Tree
opened_tree t =
    cond (eqb t.nodes 0) (record t { nodes = 1; first = t.attributes; inner = 0; above_root = 0; attributes_before_it = 0 })
    (cond (eqb t.inner 0)
    (record t { nodes = t.nodes + 1; first = t.attributes; inner = t.nodes; above_root = t.nodes; attributes_before_it = t.attributes })
    (record t { nodes = t.nodes + 1; first = t.attributes; inner = t.nodes }))

abbrev pub closed_tree : Tree → ℕ → Tree
closed_tree t p =
    cond (eqb p 0) (record t { inner = 0; above_root = 0; attributes_before_it = 0 })
    (record t { inner = p })

abbrev pub kept_tree : Tree → Tree
kept_tree t = record t { attributes = t.attributes + 1 }

-- the words of the node that opens
abbrev pub opened_words : Tree → ℕ → ℕ → ℕ → List ℕ
opened_words t name fixed line = node_words name fixed (parent_of t) t.attributes 0 line

abbrev pub kept_nodes : Tree → ℕ
kept_nodes t = cond (eqb t.above_root 0) t.nodes t.above_root

abbrev pub kept_attributes : Tree → ℕ
kept_attributes t = cond (eqb t.above_root 0) t.attributes t.attributes_before_it

-- ---- the numbers and the tables

pub record Sized (ns ats : List ℕ) (t : Tree) : Type 0 where
  pub nodes : node_width * t.nodes ≤ length ns
  pub attributes : attribute_width * t.attributes ≤ length ats
  pub first : t.first ≤ t.attributes
  pub inside : (t.inner ≡ 0 → ⊥) → t.inner < t.nodes

pub record Fit (ns ats : List ℕ) (t : Tree) : Type 0 where
  pub sized : Sized ns ats t
  pub many : t.nodes + t.attributes < 4294967295

-- the numbers of the open elements, the innermost first, as the parent words w link them
abbrev pub Linked : List ℕ → List ℕ → Type 0
Linked w [] = length w ≡ 0
Linked w (k ∷ []) = (k ≡ 0) × (node_width ≤ length w)
Linked w (k ∷ j ∷ r) = (0 < k) × (node_width * k + node_width ≤ length w) × (get_or w (node_width * k + node_parent) 0 ≡ j) × Linked w (j ∷ r)

abbrev pub top_of : List ℕ → ℕ
top_of [] = 0
top_of (k ∷ r) = k

-- a tree's number for what is dropped: 0 where nothing is, for the first node, whose number it is, never is
abbrev pub above_root_of : Dropped → ℕ
above_root_of none_dropped = 0
above_root_of (dropped_from k) = k

pub record Tied (ns ats : List ℕ) (t : Tree) (o : List ℕ) : Type 0 where
  pub sized : Sized ns ats t
  pub linked : Linked (take (node_width * t.nodes) ns) o
  pub top : top_of o ≡ t.inner
  pub above_root : above_root_of (dropped_in o) ≡ t.above_root
  pub attributes_before_it : (t.above_root ≡ 0 → ⊥)
      → get_or (take (node_width * t.nodes) ns) (node_width * t.above_root + node_first) 0 ≡ t.attributes_before_it
  pub below : t.attributes_before_it ≤ t.attributes

-- with the notes os and the counts cs
abbrev pub tables_of : List ℕ → List ℕ → Tree → List ℕ → List NoteOf → List ℕ → Tables
tables_of ns ats t o os cs = record {
  nodes = take (node_width * t.nodes) ns;
  attributes = take (attribute_width * t.attributes) ats;
  first = attribute_width * t.first;
  stack = o;
  notes = os;
  counts = cs;
}

-- ---- an attribute

-- the words of the last node's attributes
abbrev pub own_words : Tree → List ℕ → List ℕ
own_words t ats = take (attribute_width * t.attributes - attribute_width * t.first) (drop (attribute_width * t.first) ats)

abbrev pub new_words : Tree → ℕ → XmlAttributeElement → List ℕ
new_words t p a = attribute_words (t.nodes - 1) p a.name.0 a.data_type a.«data» a.namespace_uri.0

-- those of the first 32
abbrev pub front_of : Tree → List ℕ → List ℕ
front_of t ats = take front_words (drop (attribute_width * t.first) ats)

-- how many there are behind them, where they begin, and the words for their links
abbrev pub behind_of : Tree → ℕ
behind_of t = t.attributes - t.first - 32

-- they are linked, where there is room for one link more
abbrev pub Chained : Key → List ℕ → List ℕ → Tree → Type 0
Chained key ns ats t =
    link_width * behind_of t + link_width ≤ length ns - node_width * t.nodes
    → Hung (keys_of key (drop (attribute_width * t.first + front_words) ats)) (drop (node_width * t.nodes) ns) (behind_of t)

pub record Far (ns : List ℕ) (t : Tree) : Type 0 where
  pub some : 0 < t.nodes
  pub many : t.first + 32 ≤ t.attributes
  pub room : link_width * behind_of t + link_width ≤ length ns - node_width * t.nodes

-- a new one is put behind them
pub record Puts (u t : Tree) (p : ℕ) (a : XmlAttributeElement) (ns ats ns' ats' : List ℕ) : Type 0 where
  pub tree : u ≡ kept_tree t
  pub attributes : ats' ≡ take (attribute_width * t.attributes) ats ++ new_words t p a ++ drop (attribute_width * t.attributes + attribute_width) ats
  pub nodes : ns' ≡ set ns (node_width * (t.nodes - 1) + node_count) (t.attributes + 1 - t.first)

-- it repeats one of its element, or there is no element
pub record Repeats (rule : Rule) (t : Tree) (p : ℕ) (a : XmlAttributeElement) (ns ats ns' ats' : List ℕ) : Type 0 where
  pub there : (t.nodes ≡ 0 → ⊥) → is_repeat rule (new_words t p a) (own_words t ats) ≡ true
  pub nodes : ns' ≡ ns
  pub attributes : ats' ≡ ats

-- it has no place
pub record Lacks (rule : Rule) (t : Tree) (p : ℕ) (a : XmlAttributeElement) (ats : List ℕ) : Type 0 where
  pub some : t.nodes ≡ 0 → ⊥
  pub new : is_repeat rule (new_words t p a) (own_words t ats) ≡ false
  pub full : length ats < attribute_width * t.attributes + attribute_width

-- it is stored, and its element counts it; what stands behind the nodes may change
pub record Stores (rule : Rule) (key : Key) (u t : Tree) (p : ℕ) (a : XmlAttributeElement) (ns ats ns' ats' : List ℕ) : Type 0 where
  pub some : t.nodes ≡ 0 → ⊥
  pub new : is_repeat rule (new_words t p a) (own_words t ats) ≡ false
  pub room : attribute_width * t.attributes + attribute_width ≤ length ats
  pub tree : u ≡ kept_tree t
  pub attributes : ats' ≡ take (attribute_width * t.attributes) ats ++ new_words t p a ++ drop (attribute_width * t.attributes + attribute_width) ats
  pub nodes : take (node_width * t.nodes) ns' ≡ set (take (node_width * t.nodes) ns) (node_width * (t.nodes - 1) + node_count) (t.attributes + 1 - t.first)
  pub chained : Chained key ns' ats' u

abbrev pub Keeps : Rule → Key → Result (Option Tree) Refusal → Tree → ℕ → XmlAttributeElement → List ℕ → List ℕ → List ℕ → List ℕ → Type 0
Keeps rule key (Ok None) t p a ns ats ns' ats' = Repeats rule t p a ns ats ns' ats'
Keeps rule key (Ok (Some u)) t p a ns ats ns' ats' = Stores rule key u t p a ns ats ns' ats'
Keeps rule key (Err x) t p a ns ats ns' ats' = (x ≡ AttributesFull (length ats / attribute_width)) × Lacks rule t p a ats

abbrev pub KeepsIn : Rule → Key → Result (Option Tree) Refusal → Tree → ℕ → XmlAttributeElement → List ℕ → List ℕ → List ℕ → List ℕ → Type 0
KeepsIn rule key r t p a ns ats ns' ats' = Chained key ns ats t → Keeps rule key r t p a ns ats ns' ats'

-- ---- an event

-- it is put away, and the tree is u: one push
pub record PutAway (rule : Rule) (key : Key) (u : Tree) (ns ats : List ℕ) (t : Tree) (o : List ℕ) (e : Event) (ns' ats' : List ℕ) : Type 0 where
  pub stack : List ℕ
  pub tied : Tied ns' ats' u stack
  pub few : u.nodes + u.attributes ≤ t.nodes + t.attributes + 1
  pub chained : Chained key ns' ats' u
  pub pushed : (r : Room) (os : List NoteOf) (cs : List ℕ) → r.nodes ≡ length ns → r.attributes ≡ length ats
      → push rule r (going (tables_of ns ats t o os cs)) e ≡ going (tables_of ns' ats' u stack os cs)

-- the event e is the e' that is named (a note, a refusal, the end): it is handled elsewhere, and both tables stay as they are
pub record Passes (e e' : Event) (ns ats ns' ats' : List ℕ) : Type 0 where
  pub event : e ≡ e'
  pub nodes : ns' ≡ ns
  pub attributes : ats' ≡ ats

abbrev pub PlacesBy : Rule → Key → Result Tree Stop → List ℕ → List ℕ → Tree → List ℕ → Event → List ℕ → List ℕ → Type 0
PlacesBy rule key (Ok u) ns ats t o e ns' ats' = PutAway rule key u ns ats t o e ns' ats'
PlacesBy rule key (Err (Full x)) ns ats t o e ns' ats' =
    (r : Room) (os : List NoteOf) (cs : List ℕ) → r.nodes ≡ length ns → r.attributes ≡ length ats
    → push rule r (going (tables_of ns ats t o os cs)) e ≡ refused x
PlacesBy rule key (Err (Due x)) ns ats t o e ns' ats' = Passes e (Note x) ns ats ns' ats'
PlacesBy rule key (Err Finished) ns ats t o e ns' ats' = Passes e Finish ns ats ns' ats'

abbrev pub Places : Rule → Key → Result Tree Stop → List ℕ → List ℕ → Tree → Event → List ℕ → List ℕ → Type 0
Places rule key p ns ats t e ns' ats' = (o : List ℕ) → Tied ns ats t o → Chained key ns ats t → PlacesBy rule key p ns ats t o e ns' ats'

-- what is put away is not the end
abbrev pub NotEnd : Result Tree Stop → Event → Type 0
NotEnd (Ok u) e = e ≡ Finish → ⊥
NotEnd (Err (Full x)) e = Unit {0}
NotEnd (Err (Due x)) e = Unit {0}
NotEnd (Err Finished) e = Unit {0}

abbrev pub AsksFor : Event → List ℕ → Lent → Head → Type 0
AsksFor (Attribute p a) t lent h = Asks t lent h × ((p ≡ 2 → ⊥) → is_name (content_of h t lent a.name.0) ≡ true)
AsksFor Nothing t lent h = Unit {0}
AsksFor (Open n x l) t lent h = Unit {0}
AsksFor (LeftOut n) t lent h = Unit {0}
AsksFor Close t lent h = Unit {0}
AsksFor (Note x) t lent h = Unit {0}
AsksFor (Refuse x) t lent h = Unit {0}
AsksFor Finish t lent h = Unit {0}
