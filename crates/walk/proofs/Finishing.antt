-- The end of the loop of `read_on`: what is kept stays, zeros come behind it, and this is what the promise says. No contract cites this file.
-- In order: what is kept is there (`kept-nodes-le`, `kept-attributes-le`), what `finish` asks (`read-keepable`), `read_done`.
use Rattle.std.specs.Prelude.{Ok}
use Prim.Native.Nat.{ℕ, ◌-◌, ◌*◌, ◌/◌, ◌≤◌}
use native.Mathlib.Omega.{arith}
use mathlib.Core.Path.{◌≡◌, refl, sym, ◌∙◌, ap}
use mathlib.Core.List.{List, ◌++◌}
use mathlib.Core.Bool.{Bool, true, false, cond}
use borrow.Author.Tests.{ne_eqb, eqb-false}
use lib.ListN.{length, take, replicate}
use lib.Seq.{take-take, length-take-le}
use lib.Dec.{eqb}
use Rattle.anomaly.specs.declared.Note.{Note as NoteOf}
use Rattle.records.specs.Words.{node_width, attribute_width}
use Rattle.system_types.specs.Names.{Lent}
use Rattle.events.specs.declared.Cursor.{Cursor}
use Rattle.walk.specs.declared.tree.Tree.{Tree}
use Rattle.walk.specs.declared.State.{State}
use Rattle.walk.specs.declared.placing.Halt.{Halt}
use Rattle.walk.specs.declared.placing.Stop.TheVariants.{Finished}
use Rattle.walk.specs.Settle.{Room, Tables, going}
use Rattle.walk.specs.Reading.{Reading, zero_note, final_of, Dropped, none_dropped, dropped_from}
use Rattle.walk.specs.Reading.{dropped_in, nodes_kept_by, attributes_kept_by, nodes_kept, attributes_kept}
use Rattle.walk.specs.Inner.Tree.{above_root_of, Tied, tables_of, kept_nodes, kept_attributes}
use Rattle.walk.specs.Inner.Run.{RanBy, RanIn}
use Rattle.walk.specs.Inner.Outcome.{done_answer, Keepable, Finishes, room_of, cleared, outcome, StateOk, Advanced}
use Rattle.walk.proofs.Trees.{DroppedStored, dropped-stored, above_in}
use Rattle.walk.proofs.Clearing.{clears}
use Rattle.walk.proofs.Advancing.{tables, body, ReadHead}

-- ---- what is kept is there

pub kept-nodes-le : (ns ats : List ℕ) (t : Tree) (o : List ℕ) → Tied ns ats t o → kept_nodes t ≤ t.nodes
kept-nodes-le ns ats t o h = go (eqb t.above_root 0) refl
  where
    lw : length (take (node_width * t.nodes) ns) ≡ node_width * t.nodes
    lw = length-take-le (node_width * t.nodes) ns h.sized.nodes

    go : (b : Bool) → eqb t.above_root 0 ≡ b → cond b t.nodes t.above_root ≤ t.nodes
    go true e = omega arith
    go false e =
        let w = take (node_width * t.nodes) ns in
        omega (arith, above_in w (dropped_in o) t.above_root (dropped-stored w o h.linked) h.above_root (eqb-false _ _ e), lw)

pub kept-attributes-le : (ns ats : List ℕ) (t : Tree) (o : List ℕ) → Tied ns ats t o → kept_attributes t ≤ t.attributes
kept-attributes-le ns ats t o h = go (eqb t.above_root 0)
  where
    go : (b : Bool) → cond b t.attributes t.attributes_before_it ≤ t.attributes
    go true = omega arith
    go false = h.below

module _ (f : List ℕ) (lent : Lent) (ns₀ ats₀ : List ℕ) (st : State) (g : StateOk f lent ns₀ ats₀ st) (ns ats : List ℕ) (c : Cursor) (tree : Tree)
    (hd : ReadHead f lent ns₀ ats₀ st g ns ats c tree) (h : Halt) (ns' ats' : List ℕ) (ln : length ns' ≡ length ns) (la : length ats' ≡ length ats)
    (ran : RanIn st.mode f lent st.opened ns ats c tree h ns' ats') (e : h.stop ≡ Finished) where
  abbrev R : Room
  R = room_of ns₀ ats₀ st

  abbrev os-of : List NoteOf → List NoteOf
  os-of os = take st.notes.used os

  stored-len : (os : List NoteOf) → length os ≡ st.room → length (os-of os) ≡ st.notes.used
  stored-len os l = length-take-le st.notes.used os (omega (arith, hd.stored))

  fin : RanBy st.mode (tables f lent st) lent (body f lent st) st.opened Finished ns ats c tree hd.now.stack h.cur h.tree ns' ats'
  fin = rw e at (ran hd.now)

  kn : kept_nodes h.tree ≤ h.tree.nodes
  kn = kept-nodes-le ns' ats' h.tree fin.last fin.tied

  ka : kept_attributes h.tree ≤ h.tree.attributes
  ka = kept-attributes-le ns' ats' h.tree fin.last fin.tied

  -- what `finish` asks
  pub read-keepable : Keepable ns' ats' st h.tree
  read-keepable = record {
    nodes = omega (arith, kn, fin.tied.sized.nodes);
    attributes = omega (arith, ka, fin.tied.sized.attributes);
    notes = omega (arith, hd.few);
  }

  abbrev F : List NoteOf → Tables
  F os = tables_of ns' ats' h.tree fin.last (os-of os) st.notes.counts

  ended : (os : List NoteOf) → length os ≡ st.room → outcome f lent ns₀ ats₀ os st g.stack ≡ final_of R (going (F os))
  ended os l = hd.same os l ∙ ap (final_of R) (fin.goes R (os-of os) st.notes.counts (sym hd.ln) (sym hd.la))

  abbrev words : List ℕ
  words = take (node_width * h.tree.nodes) ns'

  lw : length words ≡ node_width * h.tree.nodes
  lw = length-take-le (node_width * h.tree.nodes) ns' fin.tied.sized.nodes

  lv : length (take (attribute_width * h.tree.attributes) ats') ≡ attribute_width * h.tree.attributes
  lv = length-take-le (attribute_width * h.tree.attributes) ats' fin.tied.sized.attributes

  nodes-kept : (os : List NoteOf) → nodes_kept (F os) ≡ kept_nodes h.tree
  nodes-kept os = go (dropped_in fin.last) (dropped-stored words fin.last fin.tied.linked) fin.tied.above_root
    where
      go : (d : Dropped) → DroppedStored words d → above_root_of d ≡ h.tree.above_root → nodes_kept_by (length words / node_width) d ≡ kept_nodes h.tree
      go none_dropped i e = rw (← e, lw) (omega arith)
      go (dropped_from k) i e = rw (← e, ne_eqb k 0 (λ z. omega (arith, i.0)))

  attributes-kept : (os : List NoteOf) → attributes_kept (F os) ≡ kept_attributes h.tree
  attributes-kept os = go (dropped_in fin.last) (dropped-stored words fin.last fin.tied.linked) fin.tied.above_root
    where
      go : (d : Dropped) → DroppedStored words d → above_root_of d ≡ h.tree.above_root
          → attributes_kept_by words (length (F os).attributes / attribute_width) d ≡ kept_attributes h.tree
      go none_dropped i e = rw (← e, lv) (omega arith)
      go (dropped_from k) i e =
          let some : (h.tree.above_root ≡ 0 → ⊥) = λ z. omega (arith, i.0) in
          rw (e, ne_eqb h.tree.above_root 0 some) (fin.tied.attributes_before_it some)

  unfoldable shape : List NoteOf → ℕ → ℕ → ℕ → ℕ → Reading
  shape os n k a m = record {
    answer = Ok (record { starts = n; nodes = k; attributes = a; notes = m });
    nodes = take (node_width * k) (take (node_width * h.tree.nodes) ns') ++ replicate (length ns₀ - node_width * k) 0;
    attributes = take (attribute_width * a) (take (attribute_width * h.tree.attributes) ats') ++ replicate (length ats₀ - attribute_width * a) 0;
    notes = os-of os ++ replicate (st.room - m) zero_note;
  }

  pub read_done : (r : State) (ns'' ats'' : List ℕ) → Finishes ns' ats' st h.tree r ns'' ats'' → Advanced f lent ns₀ ats₀ st g r ns'' ats''
  unfolding shape
  read_done r ns'' ats'' w =
      rw w.state
      (clears f lent ns₀ ats₀ st g ns'' ats'' st.notes.used (done_answer h.tree st.notes.used) (λ lt. omega (arith, hd.much)) out)
    where
      out : (os : List NoteOf) → length os ≡ st.room → outcome f lent ns₀ ats₀ os st g.stack ≡ record {
        answer = done_answer h.tree st.notes.used;
        nodes = ns'';
        attributes = ats'';
        notes = cleared os st.notes.used st.room;
      }
      out os l =
          let d : length words / node_width ≡ h.tree.nodes = omega (arith, lw) in
          let m : length (os-of os) ≡ st.notes.used = stored-len os l in
          let nk = nodes-kept os in
          let ak = attributes-kept os in
          ended os l
          ∙ ((λ i. shape os (d i) (nk i) (ak i) (m i))
          ∙ rw (
            w.nodes,
            w.attributes,
            take-take (node_width * kept_nodes h.tree) (node_width * h.tree.nodes) ns' (omega (arith, kn)),
            take-take (attribute_width * kept_attributes h.tree) (attribute_width * h.tree.attributes) ats' (omega (arith, ka)),
            ln,
            la,
            hd.ln,
            hd.la,
          ))
