-- The nodes in the order of their starts: docs/FORMAT.md, W19, B9. For proofs/Structure/Theorem.antt.
--
--   settled-column   a word that a node is put down with and that nothing changes later is, of all nodes in order, that of the elements in order
--   settled-names, settled-fixed, settled_lines   so it is with the name index, the fixed word and the line
use Prim.Native.Nat.{ℕ, ◌+◌, ◌*◌, ◌/◌, ◌<◌}
use native.Mathlib.Omega.{arith}
use mathlib.Core.Path.{◌≡◌, refl, sym, ◌∙◌, ap}
use mathlib.Core.List.{List, ◌∷◌, ◌++◌}
use lib.ListN.{length, drop, get_or, length-append, length-set}
use lib.Seq.{get_or-drop, drop-drop}
use Rattle.common.specs.declared.StringIndex.{StringIndex}
use Rattle.events.specs.declared.Event.{Event}
use Rattle.events.specs.declared.Event.TheVariants.{Open}
use Rattle.records.specs.Words.{node_width, node_name, node_fixed, node_count, node_line, node_words, attribute_width}
use Rattle.records.specs.Repeats.{Rule}
use Rattle.walk.specs.Settle.{Room, Tables, going, settle, nothing_yet, parent_in, opened, last_node}
use Rattle.claims.specs.Counts.{opens_as, open_names, open_fixed, open_lines}
use Rattle.claims.specs.Shape.{node_word}
use Rattle.claims.proofs.Settle.StoreAll.{empty}
use Rattle.claims.proofs.Settle.ByEvent.{idle-still, Goes, settle-in}
use Rattle.claims.proofs.Structure.Words.{word-old, word-new, word-other}
use Rattle.claims.proofs.Structure.Shape.{split-lt}

-- the nodes so far have the first of the words, and the events to come the others
record Ordered (k : ℕ) (pick : ℕ → ℕ → ℕ → ℕ) (all : List ℕ) (es : List Event) (t : Tables) : Type 0 where
  n : ℕ
  nodes : length t.nodes ≡ node_width * n
  before : (i : ℕ) → i < n → node_word t.nodes i k ≡ get_or all i 0
  behind : drop n all ≡ opens_as pick es

module _ (r : Room) (k : ℕ) (pick : ℕ → ℕ → ℕ → ℕ) (all : List ℕ) (low : k < node_width) (kept : k ≡ node_count → ⊥)
    (puts : (name fixed parent first line : ℕ) → get_or (node_words name fixed parent first 0 line) k 0 ≡ pick name fixed line) where
  goes : Goes r (Ordered k pick all)
  goes = record {
    idles = λ t e es i h. record { n = h.n; nodes = h.nodes; before = h.before; behind = h.behind ∙ (idle-still e i).order pick es };
    closes = λ t es h. record { n = h.n; nodes = h.nodes; before = h.before; behind = h.behind };
    opens = λ t es name fixed line g h. opens t es name fixed line h;
    keeps = λ t es p a some g h. record {
      n = h.n;
      nodes = rw length-set h.nodes;
      before = λ i l. word-other t.nodes (last_node t) i k _ (λ a b. kept b) low ∙ h.before i l;
      behind = h.behind;
    };
    notes = λ t es x d g h. record { n = h.n; nodes = h.nodes; before = h.before; behind = h.behind };
    past = λ t es x d h. record { n = h.n; nodes = h.nodes; before = h.before; behind = h.behind };
  }
    where
      opens : (t : Tables) (es : List Event) (name : StringIndex) (fixed line : ℕ) → Ordered k pick all (Open name fixed line ∷ es) t
          → Ordered k pick all es (opened t name.0 fixed line)
      opens t es name fixed line h =
          let node = node_words name.0 fixed (parent_in t.stack) (length t.attributes / attribute_width) 0 line in
          let here : get_or all h.n 0 ≡ pick name.0 fixed line =
          ap (λ (i : ℕ). get_or all i 0) (let z : h.n ≡ h.n + 0 = omega arith in z) ∙ sym (get_or-drop h.n all 0 0)
          ∙ ap (λ (l : List ℕ). get_or l 0 0) h.behind in
          record {
            n = h.n + 1;
            nodes = rw length-append (omega (arith, h.nodes));
            before = λ i l. split-lt (λ i. node_word (t.nodes ++ node) i k ≡ get_or all i 0) h.n i l
                (λ g. word-old node_width t.nodes node h.n h.nodes i k g low ∙ h.before i g)
                (word-new node_width t.nodes node h.n h.nodes k ∙ puts name.0 fixed _ _ line ∙ sym here);
            behind = sym (drop-drop 1 h.n all) ∙ ap (λ (l : List ℕ). drop 1 l) h.behind;
          }

module _ (rule : Rule) (r : Room) (es : List Event) (t : Tables) (e : settle rule r nothing_yet es ≡ going t) where
  settled-column : (k : ℕ) (pick : ℕ → ℕ → ℕ → ℕ) → k < node_width → (k ≡ node_count → ⊥)
      → ((name fixed parent first line : ℕ) → get_or (node_words name fixed parent first 0 line) k 0 ≡ pick name fixed line)
      → (n i : ℕ) → length t.nodes ≡ node_width * n → i < n → node_word t.nodes i k ≡ get_or (opens_as pick es) i 0
  settled-column k pick low kept puts n i l g =
      let start : Ordered k pick (opens_as pick es) es empty =
      record { n = 0; nodes = refl; before = λ i l. absurd (let y : ⊥ = omega arith in y); behind = refl } in
      let h = rw e at (settle-in rule r (Ordered k pick (opens_as pick es)) (goes r k pick (opens_as pick es) low kept puts) nothing_yet es start) in
      h.before i (omega (arith, h.nodes))

  pub settled-names : (n i : ℕ) → length t.nodes ≡ node_width * n → i < n → node_word t.nodes i node_name ≡ get_or (open_names es) i 0
  settled-names = settled-column node_name (λ name fixed line. name) (omega arith) (λ e. omega arith) (λ name fixed parent first line. refl)

  pub settled-fixed : (n i : ℕ) → length t.nodes ≡ node_width * n → i < n → node_word t.nodes i node_fixed ≡ get_or (open_fixed es) i 0
  settled-fixed = settled-column node_fixed (λ name fixed line. fixed) (omega arith) (λ e. omega arith) (λ name fixed parent first line. refl)

  pub settled_lines : (n i : ℕ) → length t.nodes ≡ node_width * n → i < n → node_word t.nodes i node_line ≡ get_or (open_lines es) i 0
  settled_lines = settled-column node_line (λ name fixed line. line) (omega arith) (λ e. omega arith) (λ name fixed parent first line. refl)
