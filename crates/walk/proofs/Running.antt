-- The loop of `run`: each turn is one step of the reading. No contract cites this file.
-- In order: the loop's head (`RunHead`), and what each arm leaves (`run-goes`, `run-stops`).
use Rattle.std.specs.Prelude.{Result, Ok, Err}
use Prim.Native.Nat.{ℕ, ◌≤◌, ◌<◌}
use native.Mathlib.Omega.{arith}
use mathlib.Core.Path.{◌≡◌, refl, sym, ◌∙◌, ap}
use mathlib.Core.List.{List, ◌∷◌, ◌++◌}
use lib.ListN.{length}
use Rattle.anomaly.specs.declared.Note.{Note as NoteOf}
use Rattle.anomaly.specs.declared.ResAnomaly.{ResAnomaly}
use Rattle.errors.specs.declared.Refusal.{Refusal}
use Rattle.system_types.specs.Names.{Lent}
use Rattle.head.specs.declared.Opened.{Opened}
use Rattle.events.specs.declared.Cursor.{Cursor}
use Rattle.events.specs.declared.Step.{Step}
use Rattle.events.specs.declared.Event.{Event}
use Rattle.events.specs.declared.Event.TheVariants.{Note}
use Rattle.events.specs.Events.{Names, names_in}
use Rattle.events.specs.Inner.Steps.{step_of}
use Rattle.events.specs.Inner.Pending.{pending, steps, event_list, Stepped}
use Rattle.events.proofs.Steps.{stepped}
use Rattle.tables.specs.Inner.Keys.{key_by}
use Rattle.walk.specs.declared.tree.Tree.{Tree}
use Rattle.walk.specs.declared.placing.Stop.{Stop}
use Rattle.walk.specs.declared.placing.Stop.TheVariants.{Full, Due, Finished}
use Rattle.walk.specs.Settle.{Room, Out, going, push, settle}
use Rattle.walk.specs.Inner.Tree.{Fit, tables_of, PlacesBy, Places, NotEnd}
use Rattle.walk.specs.Inner.Run.{Running, on_from, RanBy}
use Rattle.walk.proofs.Settle.{settle-the, settle-refused, settle-nil}
use Rattle.walk.proofs.EventCases.{not-other}

-- ---- the loop's head

pub record RunHead (mode : ℕ) (t : List ℕ) (lent : Lent) (b : List ℕ) (o : Opened) (ns₀ ats₀ : List ℕ) (c₀ : Cursor) (tree₀ : Tree)
    (g : Running t lent b o ns₀ ats₀ c₀ tree₀) (ns ats : List ℕ) (c : Cursor) (tree : Tree) : Type 0 where
  pub now : Running t lent b o ns ats c tree
  pub ln : length ns ≡ length ns₀
  pub la : length ats ≡ length ats₀
  pub low : steps b c ≤ steps b c₀
  pub same : (r : Room) (os : List NoteOf) (cs : List ℕ) → r.nodes ≡ length ns₀ → r.attributes ≡ length ats₀
      → on_from r (names_in mode o.head t lent) o t b ns₀ ats₀ c₀ tree₀ g.stack os cs
      ≡ on_from r (names_in mode o.head t lent) o t b ns ats c tree now.stack os cs

module _ (mode : ℕ) (t : List ℕ) (lent : Lent) (b : List ℕ) (o : Opened) where
  pub run-first : (ns ats : List ℕ) (c : Cursor) (tree : Tree) (g : Running t lent b o ns ats c tree)
      → RunHead mode t lent b o ns ats c tree g ns ats c tree
  run-first ns ats c tree g = record { now = g; ln = refl; la = refl; low = omega arith; same = λ r os cs rn ra. refl }

  -- what `place` asks of the tables
  pub fit_of : (ns ats : List ℕ) (c : Cursor) (tree : Tree) → Running t lent b o ns ats c tree → Fit ns ats tree
  fit_of ns ats c tree g = record { sized = g.tied.sized; many = omega (arith, g.budget) }

  abbrev N : Names
  N = names_in mode o.head t lent

  -- ---- a turn: the step s, and what became of its event

  module _ (ns₀ ats₀ : List ℕ) (c₀ : Cursor) (tree₀ : Tree) (g : Running t lent b o ns₀ ats₀ c₀ tree₀) (ns ats : List ℕ) (c : Cursor) (tree : Tree)
      (h : RunHead mode t lent b o ns₀ ats₀ c₀ tree₀ g ns ats c tree) (s : Step) (es : s ≡ step_of N o t b c) (ns' ats' : List ℕ)
      (ln : length ns' ≡ length ns) (la : length ats' ≡ length ats) (p : Result Tree Stop)
      (places : Places N.repeats (key_by o.head t lent) p ns ats tree s.event ns' ats')
      (not_end : NotEnd p s.event) where
    st : Stepped N o t b c s
    st = rw es (stepped N o t b c h.now.within)

    put : PlacesBy N.repeats (key_by o.head t lent) p ns ats tree h.now.stack s.event ns' ats'
    put = places h.now.stack h.now.tied h.now.chained

    once : (r : Room) (os : List NoteOf) (cs : List ℕ)
        → on_from r N o t b ns ats c tree h.now.stack os cs
        ≡ settle N.repeats r (push N.repeats r (going (tables_of ns ats tree h.now.stack os cs)) s.event) (pending N o t b s.cur)
    once r os cs = rw st.same (settle-the N.repeats r (tables_of ns ats tree h.now.stack os cs) s.event (pending N o t b s.cur))

    -- what the push gives, pushed on
    pushed : (r : Room) (os : List NoteOf) (cs : List ℕ) (x : Out) → r.nodes ≡ length ns₀ → r.attributes ≡ length ats₀
        → push N.repeats r (going (tables_of ns ats tree h.now.stack os cs)) s.event ≡ x
        → on_from r N o t b ns₀ ats₀ c₀ tree₀ g.stack os cs ≡ settle N.repeats r x (pending N o t b s.cur)
    pushed r os cs x rn ra e = h.same r os cs rn ra ∙ once r os cs ∙ ap (λ (y : Out). settle N.repeats r y (pending N o t b s.cur)) e

    pub run-less : (u : Tree) → p ≡ Ok u → steps b s.cur < steps b c
    run-less u e = st.less (rw e at not_end)

    pub run-goes : (u : Tree) → p ≡ Ok u → RunHead mode t lent b o ns₀ ats₀ c₀ tree₀ g ns' ats' s.cur u
    run-goes u e =
        let q = rw e at put in
        let less : steps b s.cur < steps b c = run-less u e in
        record {
          now =
              record
              { stack = q.stack; ready = h.now.ready; within = st.within; tied = q.tied; chained = q.chained; budget = omega (arith, q.few, h.now.budget) };
          ln = ln ∙ h.ln;
          la = la ∙ h.la;
          low = omega (arith, h.low);
          same = λ r os cs rn ra. pushed r os cs _ rn ra (q.pushed r os cs (rn ∙ sym h.ln) (ra ∙ sym h.la));
        }

    run-full : (x : Refusal) → p ≡ Err (Full x) → RanBy mode t lent b o (Full x) ns₀ ats₀ c₀ tree₀ g.stack s.cur tree ns' ats'
    run-full x e =
        let q = rw e at put in
        λ r os cs rn ra.
        (pushed r os cs _ rn ra (q r os cs (rn ∙ sym h.ln) (ra ∙ sym h.la)) ∙ settle-refused N.repeats r x (pending N o t b s.cur))

    run-due : (x : ResAnomaly) → p ≡ Err (Due x) → RanBy mode t lent b o (Due x) ns₀ ats₀ c₀ tree₀ g.stack s.cur tree ns' ats'
    run-due x e =
        let q = rw e at put in
        let less : steps b s.cur < steps b c = st.less (not-other s.event (Note x) q.event tt) in
        let first-is : pending N o t b c ≡ Note x ∷ pending N o t b s.cur = st.same ∙ ap (λ (y : Event). event_list y ++ pending N o t b s.cur) q.event in
        rw (q.nodes, q.attributes)
        (record {
          now =
              record {
                stack = h.now.stack;
                ready = h.now.ready;
                within = st.within;
                tied = h.now.tied;
                chained = h.now.chained;
                budget = omega
                    (arith, h.now.budget);
              };
          less = omega (arith, h.low);
          goes = λ r os cs rn ra.
              (h.same r os cs rn ra ∙ ap (λ (y : List Event). settle N.repeats r (going (tables_of ns ats tree h.now.stack os cs)) y) first-is);
        })

    run-finished : p ≡ Err Finished → RanBy mode t lent b o Finished ns₀ ats₀ c₀ tree₀ g.stack s.cur tree ns' ats'
    run-finished e =
        let q = rw e at put in
        rw (q.nodes, q.attributes)
        (record {
          last = h.now.stack;
          tied = h.now.tied;
          goes = λ r os cs rn ra.
              (h.same r os cs rn ra
              ∙ ap (λ (y : List Event). settle N.repeats r (going (tables_of ns ats tree h.now.stack os cs)) y) (st.over q.event)
              ∙ settle-nil N.repeats r (going (tables_of ns ats tree h.now.stack os cs)));
        })

    pub run-stops : (x : Stop) → p ≡ Err x → RanBy mode t lent b o x ns₀ ats₀ c₀ tree₀ g.stack s.cur tree ns' ats'
    run-stops (Full x) e = run-full x e
    run-stops (Due x) e = run-due x e
    run-stops Finished e = run-finished e
