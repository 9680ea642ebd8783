-- The shape of all tables that events leave: docs/FORMAT.md, W26, W29, B9 to B11. For proofs/Structure/Theorem.antt and proofs/Calls/Zeros.antt.
--
--   Shaped           n nodes and m attributes, within the room; the open elements fall, parents are earlier, runs cover, attributes have owners
--   settled-shaped   of all events, whatever the room
--   kept_in          the kept nodes are some of the nodes, and their runs cover the kept attributes
use Prim.Native.Nat.{ℕ, zero, suc, ◌+◌, ◌-◌, ◌*◌, ◌/◌, ◌≤◌, ◌<◌}
use native.Mathlib.Omega.{arith}
use mathlib.Core.Path.{◌≡◌, refl, sym, ◌∙◌, ap}
use mathlib.Core.List.{List, [], ◌∷◌}
use lib.ListN.{length, length-append, length-set}
use Rattle.anomaly.specs.Note.{note_of}
use Rattle.anomaly.specs.declared.ResAnomaly.{ResAnomaly}
use Rattle.xml_elements.specs.declared.XmlAttributeElement.{XmlAttributeElement}
use Rattle.events.specs.declared.Event.{Event}
use Rattle.records.specs.Words.{node_width, node_first, node_words, attribute_width}
use Rattle.records.specs.Repeats.{Rule}
use Rattle.walk.specs.Settle.{Room, Tables, settle, nothing_yet, opened, closed, kept, noted, parent_in}
use Rattle.walk.specs.Reading.{Dropped, none_dropped, dropped_from, dropped_in, nodes_kept_by, attributes_kept_by, nodes_kept, attributes_kept}
use Rattle.claims.specs.Shape.{Descends, begin, end, Runs, Owns}
use Rattle.claims.proofs.Settle.ByEvent.{InTables, settle-keeps}
use Rattle.claims.proofs.Structure.Words.{word-new}
use Rattle.claims.proofs.Structure.Shape.{Falls, DroppedBelow, dropped-below, falls-opened, falls-closed, run-le, runs-cut}
use Rattle.claims.proofs.Structure.Shape.{opens-parents, opens-runs, opens-owns, kept-parents, kept-begin, kept-runs, kept-owns}

pub record Shaped (r : Room) (t : Tables) : Type 0 where
  pub n : ℕ
  pub m : ℕ
  pub nodes : length t.nodes ≡ node_width * n
  pub attributes : length t.attributes ≡ attribute_width * m
  pub nodes_fit : node_width * n ≤ r.nodes
  pub attributes_fit : attribute_width * m ≤ r.attributes
  pub notes_fit : length t.notes ≤ r.notes
  pub stack : Falls n t.stack
  pub parents : Descends t.nodes n
  pub runs : Runs t.nodes n m
  pub owns : Owns t.nodes t.attributes n
  pub first : (i : ℕ) → i + 1 ≡ n → t.first ≡ attribute_width * begin t.nodes i

module _ (r : Room) where
  shaped-none : InTables (Shaped r) nothing_yet
  shaped-none = record {
    n = 0;
    m = 0;
    nodes = refl;
    attributes = refl;
    nodes_fit = omega arith;
    attributes_fit = omega arith;
    notes_fit = omega arith;
    stack = refl;
    parents = λ i l. absurd (let y : ⊥ = omega arith in y);
    runs = record {
      none = λ z. refl;
      begins = λ z. absurd (let y : ⊥ = omega arith in y);
      follows = λ i l. absurd (let y : ⊥ = omega arith in y);
      ends = λ i e. absurd (let y : ⊥ = omega arith in y);
    };
    owns = λ i j l. absurd (let y : ⊥ = omega arith in y);
    first = λ i e. absurd (let y : ⊥ = omega arith in y);
  }

  shaped-opened : (t : Tables) (name fixed line : ℕ) → length t.nodes + node_width ≤ r.nodes → Shaped r t → Shaped r (opened t name fixed line)
  shaped-opened t name fixed line room h =
      let da : length t.attributes / attribute_width ≡ h.m = omega (arith, h.attributes) in
      let dn : length t.nodes / node_width ≡ h.n = omega (arith, h.nodes) in
      rw (da, dn) (record {
        n = h.n + 1;
        m = h.m;
        nodes = rw length-append (omega (arith, h.nodes));
        attributes = h.attributes;
        nodes_fit = omega (arith, h.nodes);
        attributes_fit = h.attributes_fit;
        notes_fit = h.notes_fit;
        stack = falls-opened h.n t.stack h.stack;
        parents = opens-parents t.nodes t.attributes h.n h.m name fixed _ line h.nodes t.stack refl h.stack h.parents;
        runs = opens-runs t.nodes t.attributes h.n h.m name fixed _ line h.nodes h.runs;
        owns = opens-owns t.nodes t.attributes h.n h.m name fixed _ line h.nodes h.owns;
        first = λ i e.
            let q : i ≡ h.n = omega arith in
            rw q (omega (arith, word-new node_width t.nodes (node_words name fixed (parent_in t.stack) h.m 0 line) h.n h.nodes node_first, h.attributes));
      })

  shaped-kept : (t : Tables) (p : ℕ) (a : XmlAttributeElement) → (length t.nodes ≡ 0 → ⊥) → length t.attributes + attribute_width ≤ r.attributes → Shaped r t
      → Shaped r (kept t p a)
  shaped-kept t p a some room h =
      let k = h.n - 1 in
      let e : h.n ≡ k + 1 = omega (arith, h.nodes) in
      let lw : length t.nodes ≡ node_width * (k + 1) = omega (arith, h.nodes) in
      let f : t.first ≡ attribute_width * begin t.nodes k = h.first k (sym e) in
      let last : end t.nodes k ≡ h.m = h.runs.ends k (sym e) in
      let runs : Runs t.nodes (k + 1) h.m = rw (← e) h.runs in
      let parents : Descends t.nodes (k + 1) = rw (← e) h.parents in
      let owns : Owns t.nodes t.attributes (k + 1) = rw (← e) h.owns in
      let da : (length t.attributes + attribute_width - t.first) / attribute_width ≡ h.m + 1 - begin t.nodes k = omega (arith, h.attributes) in
      let dn : length t.nodes / node_width - 1 ≡ k = omega (arith, h.nodes) in
      rw (da, dn) (record {
        n = k + 1;
        m = h.m + 1;
        nodes = rw length-set lw;
        attributes = rw length-append (omega (arith, h.attributes));
        nodes_fit = omega (arith, h.nodes_fit);
        attributes_fit = omega (arith, h.attributes);
        notes_fit = h.notes_fit;
        stack = rw (← e) h.stack;
        parents = kept-parents t.nodes t.attributes k h.m p a.name.0 a.data_type a.«data» a.namespace_uri.0 lw h.attributes runs parents;
        runs = kept-runs t.nodes t.attributes k h.m p a.name.0 a.data_type a.«data» a.namespace_uri.0 lw h.attributes runs;
        owns = kept-owns t.nodes t.attributes k h.m p a.name.0 a.data_type a.«data» a.namespace_uri.0 lw h.attributes runs owns;
        first = λ i q.
            let z : i ≡ k = omega arith in
            rw z (f ∙ ap (λ (x : ℕ). attribute_width * x) (sym (kept-begin t.nodes t.attributes k h.m p a.name.0 a.data_type a.«data» a.namespace_uri.0 lw
            h.attributes runs k (omega arith))));
      })

  shaped-closed : (t : Tables) → Shaped r t → Shaped r (closed t)
  shaped-closed t h = record {
    n = h.n;
    m = h.m;
    nodes = h.nodes;
    attributes = h.attributes;
    nodes_fit = h.nodes_fit;
    attributes_fit = h.attributes_fit;
    notes_fit = h.notes_fit;
    stack = falls-closed h.n t.stack h.stack;
    parents = h.parents;
    runs = h.runs;
    owns = h.owns;
    first = h.first;
  }

  shaped-noted : (t : Tables) (x : ResAnomaly) → length t.notes < r.notes → Shaped r t → Shaped r (noted t x)
  shaped-noted t x room h = record {
    n = h.n;
    m = h.m;
    nodes = h.nodes;
    attributes = h.attributes;
    nodes_fit = h.nodes_fit;
    attributes_fit = h.attributes_fit;
    notes_fit = omega (arith, length-append t.notes (note_of x ∷ []));
    stack = h.stack;
    parents = h.parents;
    runs = h.runs;
    owns = h.owns;
    first = h.first;
  }

  pub settled-shaped : (rule : Rule) (es : List Event) → InTables (Shaped r) (settle rule r nothing_yet es)
  settled-shaped rule es =
      settle-keeps rule r (Shaped r) shaped-opened shaped-closed shaped-kept shaped-noted nothing_yet es shaped-none

-- ---- what is kept

pub pos : (n : ℕ) → (n ≡ 0 → ⊥) → 0 < n
pos zero h = absurd (h refl)
pos (suc n) h = omega arith

-- the kept nodes are some of the nodes, and their runs cover the kept attributes
pub record KeptIn (w : List ℕ) (n m k a : ℕ) : Type 0 where
  pub nodes : k ≤ n
  pub attributes : a ≤ m
  pub runs : Runs w k a

pub kept_in : (r : Room) (t : Tables) (h : Shaped r t) → KeptIn t.nodes h.n h.m (nodes_kept t) (attributes_kept t)
kept_in r t h = go (dropped_in t.stack) (dropped-below h.n t.stack h.stack)
  where
    go : (d : Dropped) → DroppedBelow h.n d
        → KeptIn t.nodes h.n h.m (nodes_kept_by (length t.nodes / node_width) d) (attributes_kept_by t.nodes (length t.attributes / attribute_width) d)
    go none_dropped b =
        let da : length t.attributes / attribute_width ≡ h.m = omega (arith, h.attributes) in
        let dn : length t.nodes / node_width ≡ h.n = omega (arith, h.nodes) in
        rw (da, dn) (record { nodes = omega arith; attributes = omega arith; runs = h.runs })
    go (dropped_from s) b = record {
      nodes = omega (arith, b.1);
      attributes = omega (arith, run-le t.nodes h.n h.m (h.n - s - 1) s h.runs (omega (arith, b.1)));
      runs = runs-cut t.nodes h.n h.m s h.runs b.1;
    }
