-- Laws of specs/Events.antt. No contract cites this file.
-- In order: the equations of the walk (`events_on-stop`, `events_on-step`, `events_on-turn`, `events_on-end`), of attributes (`attributes_of-step`), of a start that
-- makes none of the notes 6, 7, 8 (`from_gap-plain`); events as lists (`the-..`) and events that are no end (`Goes`); room for attributes (`fit-..`).
use Prim.Native.Nat.{ℕ, zero, suc, ◌+◌, ◌-◌, ◌*◌, ◌≤◌, ◌<◌}
use native.Mathlib.Omega.{arith}
use mathlib.Core.Path.{◌≡◌, refl, ◌∙◌, ap}
use mathlib.Core.List.{List, [], ◌∷◌, ◌++◌}
use mathlib.Core.Bool.{Bool, true, false, cond, not, ◌&&◌}
use borrow.Author.Tests.{leb-true, le-ltb}
use lib.ListN.{length, take, drop, length-drop}
use lib.Seq.{take_all, drop-drop}
use lib.Dec.{leb, eqb}
use Rattle.common.proofs.Laws.{header_of-short}
use Rattle.chunk.proofs.Walk.{trace-stop, trace-step}
use Rattle.anomaly.specs.declared.ResAnomaly.{ResAnomaly}
use Rattle.text.specs.declared.NameState.{NameState}
use Rattle.text.specs.declared.NameState.TheVariants.{NoText, Invalid, Valid}
use Rattle.xml_elements.specs.declared.XmlStartElement.{XmlStartElement}
use Rattle.xml_elements.specs.declared.XmlAttributeElement.{XmlAttributeElement}
use Rattle.xml_elements.specs.declared.Turn.{Turn}
use Rattle.xml_elements.specs.declared.Turn.TheVariants.{Stop}
use Rattle.xml_elements.specs.Chunk.{trailing_of, attribute_at, turn_of, used_of}
use Rattle.xml_elements.proofs.Laws.{turn_of-stop, told, used_of-le}
use Rattle.events.specs.declared.Event.{Event}
use Rattle.events.specs.declared.Event.TheVariants.{Nothing, Open, Attribute, LeftOut, Close, Note, Refuse, Finish}
use Rattle.events.specs.Events.{Names, event_if, attribute_by, attribute_event, attributes_of, start_events}
use Rattle.events.specs.Events.{WalkState, yield_of, next_of, last_of, used, out, next, events_on}
use Rattle.events.specs.Inner.Starts.{from_lead, from_open, from_named, from_name, from_trailing, from_size, from_gap}
use Rattle.events.specs.Inner.Steps.{is_plain, note_if}
use Rattle.events.specs.Inner.Pending.{event_list}

-- ---- the walk

module _ (N : Names) where
  pub events_on-stop : (l : List ℕ) (p : WalkState) → turn_of l ≡ Stop → events_on N l p ≡ last_of p
  unfolding events_on
  events_on-stop l p e = trace-stop used (out N) next last_of l p (ap (used_of (length l)) e) ∙ rw e

  -- where the turn takes n bytes, the walk goes on behind them
  pub events_on-step : (l : List ℕ) (p : WalkState) (n : ℕ) {T : Turn} → turn_of l ≡ T → used_of (length l) T ≡ n → 0 < n
      → events_on N l p ≡ yield_of N l p T ++ events_on N (drop n l) (next_of p T)
  unfolding events_on
  events_on-step l p zero e q h = absurd (omega arith)
  events_on-step l p (suc m) {T} e q h =
      let u : used l p ≡ suc m = ap (used_of (length l)) e ∙ q in
      let f : suc m ≤ length l = rw (← q) (used_of-le l T (told l e)) in
      trace-step used (out N) next last_of l p m u f ∙ rw e

  -- the same at a place of a body
  pub events_on-turn : (s : List ℕ) (at : ℕ) (p : WalkState) (n : ℕ) {T : Turn} → turn_of (drop at s) ≡ T → used_of (length (drop at s)) T ≡ n → 0 < n
      → events_on N (drop at s) p ≡ yield_of N (drop at s) p T ++ events_on N (drop (at + n) s) (next_of p T)
  events_on-turn s at p n e q h = events_on-step (drop at s) p n e q h ∙ rw drop-drop

  -- behind the last byte
  pub events_on-end : (s : List ℕ) (p : WalkState) → events_on N (drop (length s) s) p ≡ last_of p
  events_on-end s p = events_on-stop (drop (length s) s) p (turn_of-stop _ (header_of-short _ (rw length-drop (omega arith))))

  -- ---- attributes

  pub attributes_of-step : (left stride : ℕ) (l : List ℕ) → 0 < left
      → attributes_of N left stride l ≡ attribute_event N l ∷ attributes_of N (left - 1) stride (drop stride l)
  unfolding attributes_of
  attributes_of-step zero stride l h = absurd (omega arith)
  attributes_of-step (suc m) stride l h = let e : suc m - 1 ≡ m = omega arith in rw e

  -- ---- a start

  -- a whole start makes what the code makes step by step; of one that is cut this is so by `unfolding from_gap from_size from_trailing` alone
  pub start_events-chain : (s : XmlStartElement) (k : ℕ) (l : List ℕ) → start_events N s k l ≡ from_gap N s 3 k l
  unfolding start_events from_gap from_size from_trailing from_name from_named from_open from_lead
  start_events-chain s k l = refl

  pub from_gap-plain : (s : XmlStartElement) (k : ℕ) (l : List ℕ) → is_plain s ≡ true → from_gap N s 3 k l ≡ from_name N s k l
  unfolding from_gap from_size from_trailing
  from_gap-plain s k l = go (leb s.attribute_start 20) refl (leb s.attribute_size 20) refl (eqb (trailing_of s) 0) refl
    where
      and-false : (x : Bool) → x && false ≡ false
      and-false true = refl
      and-false false = refl

      go : (x : Bool) → leb s.attribute_start 20 ≡ x → (y : Bool) → leb s.attribute_size 20 ≡ y → (z : Bool) → eqb (trailing_of s) 0 ≡ z
          → x && (y && z) ≡ true → from_gap N s 3 k l ≡ from_name N s k l
      go true p true q true r e =
          rw (le-ltb 20 s.attribute_start (leb-true _ _ p), le-ltb 20 s.attribute_size (leb-true _ _ q), and-false, r)
      go true p true q false r e = absurd (let z : ◌≡◌ {A = ℕ} 0 1 = cc in omega arith)
      go true p false q z r e = absurd (let z : ◌≡◌ {A = ℕ} 0 1 = cc in omega arith)
      go false p y q z r e = absurd (let z : ◌≡◌ {A = ℕ} 0 1 = cc in omega arith)

-- ---- events as lists

-- an event that a test lets pass
pub event_list-if : (b : Bool) (e : Event) → event_list e ≡ e ∷ [] → event_list (note_if b e) ≡ event_if b e
event_list-if true e h = h
event_list-if false e h = refl

pub event_list-unless : (b : Bool) (a : ResAnomaly) → event_list (cond b Nothing (Note a)) ≡ event_if (not b) (Note a)
event_list-unless true a = refl
event_list-unless false a = refl

pub event_list-attribute_by : (N : Names) (a : XmlAttributeElement) (s : NameState) → event_list (attribute_by N a s) ≡ attribute_by N a s ∷ []
event_list-attribute_by N a NoText = refl
event_list-attribute_by N a Invalid = refl
event_list-attribute_by N a Valid = refl

pub event_list-attribute : (N : Names) (l : List ℕ) → event_list (attribute_event N l) ≡ attribute_event N l ∷ []
unfolding attribute_event
event_list-attribute N l = event_list-attribute_by N (attribute_at l) (N.state (attribute_at l).name.0)

-- ---- events that are no end

abbrev pub Goes : Event → Type 0
Goes e = e ≡ Finish → ⊥

abbrev is_end : Event → ℕ
is_end Nothing = 0
is_end Finish = 1
is_end (Open n x l) = 0
is_end (Attribute p a) = 0
is_end (LeftOut n) = 0
is_end Close = 0
is_end (Note a) = 0
is_end (Refuse r) = 0

pub goes : {e : Event} → is_end e ≡ 0 → Goes e
goes z q = let y = ap is_end q in omega arith

pub goes-if : (b : Bool) (e : Event) → is_end e ≡ 0 → Goes (note_if b e)
goes-if true e z = goes z
goes-if false e z = goes refl

pub goes-unless : (b : Bool) (a : ResAnomaly) → Goes (cond b Nothing (Note a))
goes-unless true a = goes refl
goes-unless false a = goes refl

pub goes-attribute : (N : Names) (l : List ℕ) → Goes (attribute_event N l)
unfolding attribute_event
goes-attribute N l = go (N.state (attribute_at l).name.0)
  where
    go : (s : NameState) → Goes (attribute_by N (attribute_at l) s)
    go NoText = goes refl
    go Invalid = goes refl
    go Valid = goes refl

-- ---- the rest of a list

-- as the code lends it
pub rest : (s : List ℕ) (at : ℕ) → take (length s - at) (drop at s) ≡ drop at s
rest s at = take_all (length s - at) (drop at s) (rw length-drop (omega arith))

-- ---- room for attributes: `left` of them from the place `at` on, and `rest` bytes behind them

pub fit_next : (at left stride rest n : ℕ) → 0 < left → at + left * stride + rest ≤ n → at + stride + (left - 1) * stride + rest ≤ n
fit_next at zero stride rest n h f = absurd (omega arith)
fit_next at (suc m) stride rest n h f = let e : suc m - 1 ≡ m = omega arith in rw e (omega arith)

pub fit_same : (at left stride rest : ℕ) → 0 < left → at + stride + (left - 1) * stride + rest ≡ at + left * stride + rest
fit_same at zero stride rest h = absurd (omega arith)
fit_same at (suc m) stride rest h = let e : suc m - 1 ≡ m = omega arith in rw e (omega arith)

pub fit-here : (at left stride rest n : ℕ) → 0 < left → at + left * stride + rest ≤ n → at + stride ≤ n
fit-here at zero stride rest n h f = absurd (omega arith)
fit-here at (suc m) stride rest n h f = omega arith
