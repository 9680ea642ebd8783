-- Depth and starts of a file, told by its events: docs/FORMAT.md, W9, W19, W25, W27, W28. For proofs/Structure/Theorem.antt.
--
--   Walked       the events of a walk are those of its turns, and behind them `last_of` of a spot whose starts and depth they tell
--   walked       so it is with every body
--   file-ends    a file's events end with a refusal, or with what the end of the walk makes: note 12 with the depth, where it is not 0
use Rattle.std.specs.Prelude.{Option, Some, None}
use Prim.Native.Nat.{ℕ, ◌+◌, ◌<◌}
use native.Mathlib.Omega.{arith}
use mathlib.Core.Path.{◌≡◌, refl, sym, ◌∙◌, ap}
use mathlib.Core.List.{List, [], ◌∷◌, ◌++◌, append_assoc, append-nil}
use mathlib.Core.Bool.{Bool, true, false, not}
use borrow.Author.Tests.{eqb-false}
use lib.Dec.{eqb}
use Rattle.anomaly.specs.Note.{note_of}
use Rattle.anomaly.specs.declared.ResAnomaly.{ResAnomaly}
use Rattle.anomaly.specs.declared.ResAnomaly.TheVariants.{TruncatedXml, UnknownChunk}
use Rattle.xml_elements.specs.declared.Chunk.{Chunk}
use Rattle.xml_elements.specs.declared.Chunk.TheVariants.{Start, End, Other, Last}
use Rattle.xml_elements.specs.declared.CutChunk.{CutChunk}
use Rattle.xml_elements.specs.declared.CutChunk.TheVariants.{CutLine, CutHead, CutGap, CutAttributes, CutTrailing, CutEnd, CutOther}
use Rattle.xml_elements.specs.declared.Turn.{Turn}
use Rattle.xml_elements.specs.declared.Turn.TheVariants.{Stop, Foreign, Met, Cut}
use Rattle.xml_elements.specs.Chunk.{turn_of}
use Rattle.xml_elements.proofs.Laws.{cond-by}
use Rattle.events.specs.declared.Event.{Event}
use Rattle.events.specs.declared.Event.TheVariants.{Close, Note, Refuse}
use Rattle.events.specs.Events.{Names, WalkState, event_if}
use Rattle.events.specs.Events.{foreign_note, chunk_yield, cut_yield, yield_of, chunk_next, cut_next, next_of, out, next, last_of}
use Rattle.events.specs.Events.{events_on}
use Rattle.claims.specs.Counts.{opens_in, depth_from}
use Rattle.errors.specs.declared.Refusal.{Refusal}
use Rattle.errors.specs.declared.Refusal.TheVariants.{MissingRoot}
use Rattle.res_string_pool.specs.declared.Garbage.{Garbage}
use Rattle.head.specs.declared.Opened.{Opened}
use Rattle.head.specs.Head.{refusal_of}
use Rattle.anomaly.specs.declared.ResAnomaly.TheVariants.{UnclosedElements}
use Rattle.events.specs.Events.{started, ended, body_events, file_events}
use Rattle.claims.proofs.Structure.StartDepth.{NoTwelve, no-twelve-append, opens-append, depth-append, Opening, opening-none, opening-note, NotTwelve}
use Rattle.claims.proofs.Structure.Tables.{pos}
use Rattle.claims.proofs.Structure.StartDepth.{start-opening, gap-cut-opening, attributes-cut-opening, trailing-cut-opening}
use Rattle.claims.proofs.Events.EventCases.{body-by, HeadNote, garbage_told, garbage, count, offsets, head_note, file-by}

-- ---- a turn

-- from the spot p to the spot q
record Turned (es : List Event) (p q : WalkState) : Type 0 where
  starts : q.starts ≡ p.starts + opens_in es
  depth : q.depth ≡ depth_from p.depth es
  plain : NoTwelve es

-- a turn that opens n elements
turned_by : (es : List Event) (n : ℕ) (p q : WalkState) → Opening es n → q.starts ≡ p.starts + n → q.depth ≡ p.depth + n → Turned es p q
turned_by es n p q h s d = record { starts = omega (arith, h.opens); depth = omega (arith, h.depth p.depth); plain = h.plain }

turned-still : (es : List Event) (p : WalkState) (k : ℕ) → Opening es 0 → Turned es p (record { run = k; depth = p.depth; starts = p.starts })
turned-still es p k h = turned_by es 0 p _ h (omega arith) (omega arith)

closed-turned : (p : WalkState) → Turned (Close ∷ []) p (ended p)
closed-turned p = record { starts = omega arith; depth = refl; plain = tt }

when-opening : (b : Bool) (x : ResAnomaly) → NotTwelve x → Opening (event_if b (Note x)) 0
when-opening true x h = opening-note x h
when-opening false x h = opening-none

module _ (N : Names) (l : List ℕ) (p : WalkState) where
  short-opening : Opening (Note TruncatedXml ∷ []) 0
  unfolding note_of
  short-opening = opening-note TruncatedXml (λ e. omega arith)

  chunk-turned : (c : Chunk) → Turned (chunk_yield N l p c) p (chunk_next p c)
  unfolding note_of
  chunk-turned (Start s) = turned_by _ 1 p (started p) (start-opening N s p.starts l) refl refl
  chunk-turned End = closed-turned p
  chunk-turned (Other n) = turned-still [] p 2 opening-none
  chunk-turned Last = turned-still _ p 2 (opening-note (UnknownChunk 0x17f) (λ e. omega arith))

  cut-turned : (c : CutChunk) → Turned (cut_yield N l p c) p (cut_next p c)
  cut-turned CutLine = turned-still _ p 2 short-opening
  cut-turned CutHead = turned-still _ p 2 short-opening
  cut-turned (CutGap s) = turned-still _ p 2 (gap-cut-opening N s p.starts l)
  cut-turned (CutAttributes s) = turned-still _ p 2 (attributes-cut-opening N s p.starts l)
  cut-turned (CutTrailing s) = turned-still _ p 2 (trailing-cut-opening N s p.starts l)
  cut-turned CutEnd = closed-turned p
  cut-turned CutOther = turned-still [] p 2 opening-none

  foreign-plain : (k a : ℕ) → (note_of (foreign_note k a)).kind ≡ 12 → ⊥
  unfolding note_of
  foreign-plain k a = cond-by (λ (x : ResAnomaly). (note_of x).kind ≡ 12 → ⊥) (eqb k 0) (λ b e. omega arith) (λ b e. omega arith)

  turn-turned : (T : Turn) → Turned (yield_of N l p T) p (next_of p T)
  turn-turned Stop = record { starts = omega arith; depth = refl; plain = tt }
  turn-turned (Foreign k a n) = turned-still _ p k (when-opening (not (eqb k p.run)) (foreign_note k a) (foreign-plain k a))
  turn-turned (Met c) = chunk-turned c
  turn-turned (Cut c) = cut-turned c

-- ---- a body

-- these events, from the spot p on
pub record Walked (p : WalkState) (es : List Event) : Type 0 where
  pub body : List Event
  pub last : WalkState
  pub split : es ≡ body ++ last_of last
  pub starts : last.starts ≡ p.starts + opens_in body
  pub depth : last.depth ≡ depth_from p.depth body
  pub plain : NoTwelve body

pub walked : (N : Names) (l : List ℕ) (p : WalkState) → Walked p (events_on N l p)
walked N =
    body-by N N (λ l p ds es. Walked p ds)
    (λ l p e. record { body = []; last = p; split = refl; starts = omega arith; depth = refl; plain = tt }) (λ l p m e h ds es w. more l p ds w)
  where
    more : (l : List ℕ) (p : WalkState) (ds : List Event) → Walked (next l p) ds → Walked p (out N l p ++ ds)
    more l p ds w =
        let t = turn-turned N l p (turn_of l) in
        let a = out N l p in record {
          body = a ++ w.body;
          last = w.last;
          split = ap (λ (x : List Event). a ++ x) w.split ∙ sym (append_assoc a w.body (last_of w.last));
          starts = omega (arith, w.starts, t.starts, opens-append a w.body);
          depth = w.depth ∙ ap (λ (d : ℕ). depth_from d w.body) t.depth ∙ sym (depth-append p.depth a w.body);
          plain = no-twelve-append a w.body t.plain w.plain;
        }

-- ---- a file

-- the events of a file whose walk ends at the depth d: body, and note 12 where d is not 0
pub record WalkedFile (es : List Event) : Type 0 where
  pub body : List Event
  pub depth : ℕ
  pub split : es ≡ body ++ event_if (not (eqb depth 0)) (Note (UnclosedElements depth))
  pub told : depth ≡ depth_from 0 body
  pub some : 0 < opens_in body
  pub plain : NoTwelve body

-- or a refusal at their end
pub data Ending (es : List Event) : Type 0 where
  refused_at : (a : List Event) (x : Refusal) → es ≡ a ++ (Refuse x ∷ []) → Ending es
  walked_to : WalkedFile es → Ending es

pub walked-some : (es : List Event) (w : WalkedFile es) → 0 < opens_in es
walked-some es w =
    rw w.split (omega (arith, opens-append w.body (event_if (not (eqb w.depth 0)) (Note (UnclosedElements w.depth))), w.some))

body-ends : (N : Names) (b : List ℕ) → Ending (body_events N b)
unfolding body_events
body-ends N b = go (eqb w.last.starts 0) refl
  where
    w : Walked (record { run = 2; depth = 0; starts = 0 }) (events_on N b (record { run = 2; depth = 0; starts = 0 }))
    w = walked N b (record { run = 2; depth = 0; starts = 0 })

    noted : List Event
    noted = event_if (not (eqb w.last.depth 0)) (Note (UnclosedElements w.last.depth))

    go : (z : Bool) → eqb w.last.starts 0 ≡ z → Ending (events_on N b (record { run = 2; depth = 0; starts = 0 }))
    go true e = refused_at (w.body ++ noted) MissingRoot
        (w.split ∙ ap (λ (z : Bool). w.body ++ (noted ++ event_if z (Refuse MissingRoot))) e ∙ sym (append_assoc w.body noted (Refuse MissingRoot ∷ [])))
    go false e = walked_to (record {
      body = w.body;
      depth = w.last.depth;
      split = w.split ∙ ap (λ (z : Bool). w.body ++ (noted ++ event_if z (Refuse MissingRoot))) e ∙ ap (λ (x : List Event). w.body ++ x) (append-nil noted);
      told = w.depth;
      some = pos (opens_in w.body) (λ z. eqb-false w.last.starts 0 e (omega (arith, w.starts)));
      plain = w.plain;
    })

-- behind notes of the head
behind-opening : (a es : List Event) → Opening a 0 → Ending es → Ending (a ++ es)
behind-opening a es m (refused_at b x e) = refused_at (a ++ b) x (ap (λ (y : List Event). a ++ y) e ∙ sym (append_assoc a b (Refuse x ∷ [])))
behind-opening a es m (walked_to w) = walked_to (record {
  body = a ++ w.body;
  depth = w.depth;
  split = ap (λ (y : List Event). a ++ y) w.split ∙ sym (append_assoc a w.body (event_if (not (eqb w.depth 0)) (Note (UnclosedElements w.depth))));
  told = w.told ∙ ap (λ (d : ℕ). depth_from d w.body) (sym (m.depth 0)) ∙ sym (depth-append 0 a w.body);
  some = omega (arith, opens-append a w.body, w.some);
  plain = no-twelve-append a w.body m.plain w.plain;
})

garbage_plain : (g : Option Garbage) → NotTwelve (garbage_told g)
unfolding note_of
garbage_plain None = λ e. omega arith
garbage_plain (Some g) = λ e. omega arith

head_plain : (o : Opened) (t : List ℕ) (n : HeadNote) → NotTwelve (head_note o t n)
unfolding note_of
head_plain o t garbage = garbage_plain o.garbage
head_plain o t count = λ e. omega arith
head_plain o t offsets = λ e. omega arith

pub file-ends : (N : Names) (o : Opened) (t b : List ℕ) → Ending (file_events N o t b)
file-ends N o t b =
    file-by N N o t b (λ ds es. Ending ds)
    (λ c n ds es h. behind-opening (event_if c (Note (head_note o t n))) ds (when-opening c (head_note o t n) (head_plain o t n)) h)
    (λ e q. refused_at [] (refusal_of e) refl) (λ q. body-ends N b)
