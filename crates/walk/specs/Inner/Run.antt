-- What `run` does: it goes on with the reading, whatever the notes so far. Not part of what a reader must believe.
--
--   Running    a place of the reading: t the bytes that texts are read from, b the body, o the head
--   on_from     how the reading goes on from a cursor and a tree, with the notes os and the counts cs
--   Ran        where `run` stopped, and that the reading goes on from there, in the mode that is given; RanOn the same of every such place
--   RunningIn, RanIn   the same over a whole file, which is split behind the head
use Rattle.std.specs.Prelude.{ℕ, ◌+◌, ◌≤◌, ◌<◌, ◌≡◌, List, ◌∷◌, length}
use Rattle.anomaly.specs.declared.Note.{Note as NoteOf}
use Rattle.anomaly.specs.declared.ResAnomaly.{ResAnomaly}
use Rattle.system_types.specs.Names.{Lent}
use Rattle.head.specs.declared.Opened.{Opened}
use Rattle.head.specs.Head.{tables_in, body_in}
use Rattle.events.specs.declared.Cursor.{Cursor}
use Rattle.events.specs.declared.Event.TheVariants.{Note}
use Rattle.events.specs.Events.{Names, names_in}
use Rattle.events.specs.Inner.Pending.{Ready, Within, pending, steps}
use Rattle.tables.specs.Inner.Keys.{key_by}
use Rattle.walk.specs.declared.tree.Tree.{Tree}
use Rattle.walk.specs.declared.placing.Halt.{Halt}
use Rattle.walk.specs.declared.placing.Stop.{Stop}
use Rattle.walk.specs.declared.placing.Stop.TheVariants.{Full, Due, Finished}
use Rattle.walk.specs.Settle.{Room, Out, going, refused, settle}
use Rattle.walk.specs.Inner.Tree.{Tied, Chained, tables_of}

-- the list of open elements is the proof's to know
pub record Running (t : List ℕ) (lent : Lent) (b : List ℕ) (o : Opened) (ns ats : List ℕ) (c : Cursor) (tree : Tree) : Type 0 where
  pub stack : List ℕ
  pub ready : Ready t lent o
  pub within : Within o b c
  pub tied : Tied ns ats tree stack
  pub chained : Chained (key_by o.head t lent) ns ats tree
  pub budget : tree.nodes + tree.attributes + steps b c ≤ 400000000

abbrev pub on_from : Room → Names → Opened → List ℕ → List ℕ → List ℕ → List ℕ → Cursor → Tree → List ℕ → List NoteOf → List ℕ → Out
on_from r N o t b ns ats c tree stack os cs = settle N.repeats r (going (tables_of ns ats tree stack os cs)) (pending N o t b c)

module _ (mode : ℕ) (t : List ℕ) (lent : Lent) (b : List ℕ) (o : Opened) where
  abbrev pub N : Names
  N = names_in mode o.head t lent

  -- what the reading comes to from here, in every room of these lengths
  abbrev pub ComesTo : List ℕ → List ℕ → Cursor → Tree → List ℕ → (Room → List NoteOf → List ℕ → Out) → Type 0
  ComesTo ns ats c tree stack out =
      (r : Room) (os : List NoteOf) (cs : List ℕ) → r.nodes ≡ length ns → r.attributes ≡ length ats
      → on_from r N o t b ns ats c tree stack os cs ≡ out r os cs

  -- a note is next
  pub record StopsDue (x : ResAnomaly) (ns ats : List ℕ) (c : Cursor) (tree : Tree) (stack : List ℕ) (c' : Cursor) (tree' : Tree) (ns' ats' : List ℕ)
      : Type 0 where
    pub now : Running t lent b o ns' ats' c' tree'
    pub less : steps b c' < steps b c
    pub goes : ComesTo ns ats c tree stack (λ r os cs.
        settle N.repeats r (going (tables_of ns' ats' tree' now.stack os cs)) (Note x ∷ pending N o t b c'))

  -- nothing is left
  pub record StopsDone (ns ats : List ℕ) (c : Cursor) (tree : Tree) (stack : List ℕ) (tree' : Tree) (ns' ats' : List ℕ) : Type 0 where
    pub last : List ℕ
    pub tied : Tied ns' ats' tree' last
    pub goes : ComesTo ns ats c tree stack (λ r os cs. going (tables_of ns' ats' tree' last os cs))

  abbrev pub RanBy : Stop → List ℕ → List ℕ → Cursor → Tree → List ℕ → Cursor → Tree → List ℕ → List ℕ → Type 0
  RanBy (Due x) ns ats c tree stack c' tree' ns' ats' = StopsDue x ns ats c tree stack c' tree' ns' ats'
  RanBy (Full x) ns ats c tree stack c' tree' ns' ats' = ComesTo ns ats c tree stack (λ r os cs. refused x)
  RanBy Finished ns ats c tree stack c' tree' ns' ats' = StopsDone ns ats c tree stack tree' ns' ats'

  abbrev pub Ran : (ns ats : List ℕ) (c : Cursor) (tree : Tree) → Running t lent b o ns ats c tree → Halt → List ℕ → List ℕ → Type 0
  Ran ns ats c tree g h ns' ats' = RanBy h.stop ns ats c tree g.stack h.cur h.tree ns' ats'

  abbrev pub RanOn : List ℕ → List ℕ → Cursor → Tree → Halt → List ℕ → List ℕ → Type 0
  RanOn ns ats c tree h ns' ats' = (g : Running t lent b o ns ats c tree) → Ran ns ats c tree g h ns' ats'

-- ---- over a whole file

abbrev pub RunningIn : List ℕ → Lent → Opened → List ℕ → List ℕ → Cursor → Tree → Type 0
RunningIn f lent o ns ats c tree = Running (tables_in f o.head) lent (body_in f o.head) o ns ats c tree

abbrev pub RanIn : ℕ → List ℕ → Lent → Opened → List ℕ → List ℕ → Cursor → Tree → Halt → List ℕ → List ℕ → Type 0
RanIn mode f lent o ns ats c tree h ns' ats' = RanOn mode (tables_in f o.head) lent (body_in f o.head) o ns ats c tree h ns' ats'
