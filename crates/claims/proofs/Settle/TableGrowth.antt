-- What events make of tables, whatever room there is, and without notes: docs/FORMAT.md, W19 to W26. No contract cites this file.
--
--   bare            tables without their notes
--   grow, grown     one event, and all of them
--   grown-others    notes play no part
--   grow-more, grown-more   tables only grow
use Prim.Native.Nat.{◌≤◌}
use native.Mathlib.Omega.{arith}
use native.Mathlib.Nat.{le_trans, le_refl}
use mathlib.Core.Path.{◌≡◌, refl}
use mathlib.Core.List.{List, [], ◌∷◌}
use mathlib.Core.Bool.{cond}
use lib.ListN.{length, length-append, length-set}
use lib.Dec.{eqb}
use Rattle.xml_elements.proofs.Laws.{cond-by}
use Rattle.records.specs.Repeats.{Rule}
use Rattle.events.specs.declared.Event.{Event}
use Rattle.events.specs.declared.Event.TheVariants.{Nothing, Open, Attribute, LeftOut, Close, Note, Refuse, Finish}
use Rattle.walk.specs.Settle.{Tables, opened, closed, kept, repeated}
use Rattle.claims.proofs.Events.NotesAndOthers.{others_in}

-- the tables without their notes
abbrev pub bare : Tables → Tables
bare t = record { nodes = t.nodes; attributes = t.attributes; first = t.first; stack = t.stack; notes = []; counts = [] }

-- ---- events

module _ (rule : Rule) where
  abbrev pub grow : Tables → Event → Tables
  grow t Nothing = t
  grow t Finish = t
  grow t (LeftOut n) = t
  grow t (Refuse x) = t
  grow t (Note x) = t
  grow t Close = closed t
  grow t (Open name fixed line) = opened t name.0 fixed line
  grow t (Attribute p a) =
      cond (eqb (length t.nodes) 0) t (cond (repeated rule t p a) t (kept t p a))

  abbrev pub grown : Tables → List Event → Tables
  grown t [] = t
  grown t (e ∷ es) = grown (grow t e) es

  pub grown-others : (t : Tables) (es : List Event) → grown t es ≡ grown t (others_in es)
  grown-others t [] = refl
  grown-others t (Nothing ∷ es) = grown-others t es
  grown-others t (Finish ∷ es) = grown-others t es
  grown-others t (LeftOut n ∷ es) = grown-others t es
  grown-others t (Refuse x ∷ es) = grown-others t es
  grown-others t (Note x ∷ es) = grown-others t es
  grown-others t (Close ∷ es) = grown-others (closed t) es
  grown-others t (Open name fixed line ∷ es) = grown-others (opened t name.0 fixed line) es
  grown-others t (Attribute p a ∷ es) = grown-others (grow t (Attribute p a)) es

  -- what a table has after an event it keeps: nodes, attributes
  pub record More (t u : Tables) : Type 0 where
    pub nodes : length t.nodes ≤ length u.nodes
    pub attributes : length t.attributes ≤ length u.attributes

  stays : (t : Tables) → More t t
  stays t = record { nodes = le_refl _; attributes = le_refl _ }

  pub grow-more : (t : Tables) (e : Event) → More t (grow t e)
  grow-more t Nothing = stays t
  grow-more t Finish = stays t
  grow-more t (LeftOut n) = stays t
  grow-more t (Refuse x) = stays t
  grow-more t (Note x) = stays t
  grow-more t Close = record { nodes = le_refl _; attributes = le_refl _ }
  grow-more t (Open name fixed line) =
      record { nodes = rw length-append (omega arith); attributes = le_refl _ }
  grow-more t (Attribute p a) =
      cond-by (More t) (eqb (length t.nodes) 0) (λ _. stays t)
      (λ _. cond-by (More t) (repeated rule t p a) (λ _. stays t)
      (λ _. record { nodes = rw length-set (omega arith); attributes = rw length-append (omega arith) }))

  pub grown-more : (es : List Event) (t : Tables) → More t (grown t es)
  grown-more [] t = stays t
  grown-more (e ∷ es) t =
      let here = grow-more t e in
      let rest = grown-more es (grow t e) in
      record {
        nodes = le_trans here.nodes rest.nodes;
        attributes = le_trans here.attributes rest.attributes;
      }
