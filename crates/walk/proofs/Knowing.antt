-- Laws of specs/Inner/KnownSoFar.antt: nothing is known in zeros, whatever the state (`knows-none`); an answer asks nothing (`knows-refused`, `knows-finished`,
-- `knows-cleared`); a note leaves what is known (`knows-noted`), and the head opened begins with nothing (`knows-started`). No contract cites this file.
use Rattle.std.specs.Prelude.{Result}
use Prim.Native.Nat.{ℕ}
use mathlib.Core.Path.{◌≡◌, refl, sym, ◌∙◌, ap}
use mathlib.Core.List.{List}
use mathlib.Core.Bool.{Bool, true, false}
use borrow.Author.Tests.{ltb-true, ltb-false}
use lib.ListN.{length, replicate}
use lib.Dec.{ltb}
use Rattle.anomaly.specs.declared.ResAnomaly.{ResAnomaly}
use Rattle.errors.specs.declared.Refusal.{Refusal}
use Rattle.system_types.specs.Names.{Lent}
use Rattle.head.specs.declared.Opened.{Opened}
use Rattle.head.specs.Head.{tables_in}
use Rattle.tables.specs.Inner.Numbered.{word_count, Numbered}
use Rattle.tables.proofs.Numbering.{numbered-none}
use Rattle.events.specs.declared.Cursor.{Cursor}
use Rattle.events.specs.Inner.Remembered.{words, Remembers}
use Rattle.events.proofs.Remembering.{remembers-none}
use Rattle.walk.specs.declared.tree.Tree.{Tree}
use Rattle.walk.specs.declared.Stage.TheVariants.{Fresh, Reading as InBody, Clearing}
use Rattle.walk.specs.declared.State.{State}
use Rattle.walk.specs.Inner.KnownSoFar.{KnownSoFar}
use Rattle.walk.specs.Inner.Outcome.{started_by, clear_next, Refuses, Finishes, Noted}
use Rattle.walk.proofs.Clearing.{clearing-not, fresh-not, fresh-clears}
use Rattle.errors.specs.declared.ReadCounts.{ReadCounts}

module _ (f : List ℕ) (lent : Lent) where
  abbrev Looks : State → List ℕ → Type 0
  Looks st m = Remembers st.opened.head (tables_in f st.opened.head) lent m

  abbrev Texts : State → List ℕ → Type 0
  Texts st k = Numbered st.opened.head (tables_in f st.opened.head) lent k

  no-looks-in : (st : State) → Looks st (replicate words 0)
  no-looks-in st = remembers-none st.opened.head (tables_in f st.opened.head) lent words refl refl

  no-texts-in : (st : State) → Texts st (replicate word_count 0)
  no-texts-in st = numbered-none st.opened.head (tables_in f st.opened.head) lent word_count refl refl

  pub knows-none : (st : State) → KnownSoFar f lent st (replicate words 0) (replicate word_count 0)
  knows-none st = record {
    looks-room = refl;
    texts-room = refl;
    no-looks = λ e. refl;
    no-texts = λ e. refl;
    looks = λ e. no-looks-in st;
    texts = λ e. no-texts-in st;
  }

  module _ (m k : List ℕ) (looks : length m ≡ words) (texts : length k ≡ word_count) where
    clearing-knows : (r : State) (a : Result ReadCounts Refusal) → r.stage ≡ Clearing a → KnownSoFar f lent r m k
    clearing-knows r a e = record {
      looks-room = looks;
      texts-room = texts;
      no-looks = λ d. absurd (fresh-clears a (sym d ∙ e));
      no-texts = λ d. absurd (fresh-clears a (sym d ∙ e));
      looks = λ d. absurd (clearing-not a (sym e ∙ d));
      texts = λ d. absurd (clearing-not a (sym e ∙ d));
    }

    pub knows-refused : (ns ats : List ℕ) (st : State) (x : Refusal) (r : State) (ns' ats' : List ℕ) → Refuses ns ats st x r ns' ats' → KnownSoFar f lent r m k
    knows-refused ns ats st x r ns' ats' w = clearing-knows r _ (ap (λ (s : State). s.stage) w.state)

    pub knows-finished : (ns ats : List ℕ) (st : State) (t : Tree) (r : State) (ns' ats' : List ℕ) → Finishes ns ats st t r ns' ats' → KnownSoFar f lent r m k
    knows-finished ns ats st t r ns' ats' w = clearing-knows r _ (ap (λ (s : State). s.stage) w.state)

    pub knows-cleared : (st : State) (a : Result ReadCounts Refusal) (r : State) → r ≡ clear_next st a → KnownSoFar f lent r m k
    knows-cleared st a r e = clearing-knows r _ (ap (λ (s : State). s.stage) e)

    -- the state while the body is read, with what is known of the head o
    reading-knows : (st r : State) → r.stage ≡ InBody → r.opened ≡ st.opened → Looks st m → Texts st k → KnownSoFar f lent r m k
    reading-knows st r e o l t = record {
      looks-room = looks;
      texts-room = texts;
      no-looks = λ d. absurd (fresh-not (sym d ∙ e));
      no-texts = λ d. absurd (fresh-not (sym d ∙ e));
      looks = λ d. rw o l;
      texts = λ d. rw o t;
    }

    pub knows-noted : (ns ats : List ℕ) (st : State) (c : Cursor) (t : Tree) (x : ResAnomaly) (r : State) (ns' ats' : List ℕ)
        → Noted ns ats st c t x r ns' ats' → Looks st m → Texts st k → KnownSoFar f lent r m k
    knows-noted ns ats st c t x r ns' ats' w l u = go (ltb st.notes.used st.room) refl
      where
        go : (z : Bool) → ltb st.notes.used st.room ≡ z → KnownSoFar f lent r m k
        go true z =
            let p = w.place (ltb-true _ _ z) in
            reading-knows st r (ap (λ (s : State). s.stage) p.state) (ap (λ (s : State). s.opened) p.state) l u
        go false z = knows-refused ns ats st _ r ns' ats' (w.none (ltb-false _ _ z))

    pub knows-started : (st : State) → st.stage ≡ Fresh → KnownSoFar f lent st m k → (o : Opened) (r : State) → r ≡ started_by st o → KnownSoFar f lent r m k
    knows-started st fresh g o r e =
        reading-knows r r (ap (λ (s : State). s.stage) e) refl (rw (g.no-looks fresh) (no-looks-in r)) (rw (g.no-texts fresh) (no-texts-in r))
