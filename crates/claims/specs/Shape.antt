-- The shape of what a reading leaves: docs/FORMAT.md, W25 to W29, B9 to B15.
--
--   word         the word k of the record i of a table whose records have so many words; node_word of a node, attribute_word of an attribute
--   Descends     of n nodes, the first has no parent, and each other an earlier node
--   begin, end   a node's run: its first attribute, and where the next run begins
--   Runs         the runs of n nodes cover m attributes in turn: the first begins at 0, each next where the one before ends, and the last ends at m
--   Owns         an attribute within a node's run has that node for its owner
--   count_of_kind  how many notes of a list are of the kind k
--   DepthSaid    a note 12 of a list says the depth
--   Structured   what holds of every successful reading: its nodes are the first of the elements, in order; parents, runs and owners; its notes are
--                exactly the anomalies that the cap keeps, so no kind has more than the cap; note 12 says the depth, and is there exactly where that is not 0; with depth 0 no element is dropped, from
--                depth 2 on some are
use Rattle.std.specs.Prelude.{ℕ, ◌+◌, ◌*◌, ◌≤◌, ◌<◌, ◌≡◌, List, [], ◌∷◌, map, cond, length, get_or, take, eqb}
use Rattle.anomaly.specs.Note.{note_of}
use Rattle.anomaly.specs.Kept.{kept_notes}
use Rattle.anomaly.specs.declared.Note.{Note}
use Rattle.errors.specs.declared.ReadCounts.{ReadCounts}
use Rattle.records.specs.Words.{node_width, node_name, node_fixed, node_parent, node_first, node_count, node_line, no_parent, attribute_width, attribute_owner}
use Rattle.events.specs.declared.Event.{Event}
use Rattle.claims.specs.Counts.{opens_in, event_notes, open_names, open_fixed, open_lines, depth_from}

abbrev pub word : ℕ → List ℕ → ℕ → ℕ → ℕ
word width w i k = get_or w (width * i + k) 0

abbrev pub node_word : List ℕ → ℕ → ℕ → ℕ
node_word w i k = word node_width w i k

abbrev pub attribute_word : List ℕ → ℕ → ℕ → ℕ
attribute_word w i k = word attribute_width w i k

pub record Parent (w : List ℕ) (i : ℕ) : Type 0 where
  pub first : i ≡ 0 → node_word w i node_parent ≡ no_parent
  pub later : 0 < i → node_word w i node_parent < i

abbrev pub Descends : List ℕ → ℕ → Type 0
Descends w n = (i : ℕ) → i < n → Parent w i

abbrev pub begin : List ℕ → ℕ → ℕ
begin w i = node_word w i node_first

abbrev pub end : List ℕ → ℕ → ℕ
end w i = begin w i + node_word w i node_count

pub record Runs (w : List ℕ) (n m : ℕ) : Type 0 where
  pub none : n ≡ 0 → m ≡ 0
  pub begins : 0 < n → ◌≡◌ {A = ℕ} (begin w 0) 0
  pub follows : (i : ℕ) → i + 1 < n → begin w (i + 1) ≡ end w i
  pub ends : (i : ℕ) → i + 1 ≡ n → end w i ≡ m

abbrev pub Owns : List ℕ → List ℕ → ℕ → Type 0
Owns w v n = (i j : ℕ) → i < n → begin w i ≤ j → j < end w i → attribute_word v j attribute_owner ≡ i

abbrev pub count_of_kind : ℕ → List Note → ℕ
count_of_kind k [] = 0
count_of_kind k (x ∷ xs) = cond (eqb x.kind k) 1 0 + count_of_kind k xs

-- a note 12 says the depth d
abbrev pub DepthSaid : ℕ → List Note → Type 0
DepthSaid d [] = Unit {0}
DepthSaid d (x ∷ xs) = (x.kind ≡ 12 → x.a ≡ d) × DepthSaid d xs

-- of a file that makes the events es
pub record Structured (es : List Event) (cap : ℕ) (c : ReadCounts) (ns ats : List ℕ) (os : List Note) : Type 0 where
  pub starts : c.starts ≡ opens_in es
  pub some : 0 < c.nodes
  pub within : c.nodes ≤ c.starts
  pub names : (i : ℕ) → i < c.nodes → node_word ns i node_name ≡ get_or (open_names es) i 0
  pub fixed : (i : ℕ) → i < c.nodes → node_word ns i node_fixed ≡ get_or (open_fixed es) i 0
  pub lines : (i : ℕ) → i < c.nodes → node_word ns i node_line ≡ get_or (open_lines es) i 0
  pub parents : Descends ns c.nodes
  pub runs : Runs ns c.nodes c.attributes
  pub owns : Owns ns ats c.nodes
  pub owners : (j : ℕ) → j < c.attributes → attribute_word ats j attribute_owner < c.nodes
  pub many : c.notes ≡ length (kept_notes cap (event_notes es))
  pub notes : take c.notes os ≡ map note_of (kept_notes cap (event_notes es))
  pub kinds : (k : ℕ) → count_of_kind k (take c.notes os) ≤ cap
  pub depth : DepthSaid (depth_from 0 es) (take c.notes os)
  pub twelve : 0 < cap → (depth_from 0 es ≡ 0 → ⊥) → count_of_kind 12 (take c.notes os) ≡ 1
  pub untold : depth_from 0 es ≡ 0 → ◌≡◌ {A = ℕ} (count_of_kind 12 (take c.notes os)) 0
  pub closed : depth_from 0 es ≡ 0 → c.nodes ≡ c.starts
  pub dropped : 2 ≤ depth_from 0 es → c.nodes < c.starts
