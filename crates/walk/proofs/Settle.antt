-- Laws of `settle`, for the loop of `run` and for what `advance` keeps. No contract cites this file.
-- In order: an event that is none (`settle-the`), a refusal stays (`settle-refused`), the two equations.
use mathlib.Core.Path.{◌≡◌, refl}
use mathlib.Core.List.{List, [], ◌∷◌, ◌++◌}
use Rattle.errors.specs.declared.Refusal.{Refusal}
use Rattle.records.specs.Repeats.{Rule}
use Rattle.events.specs.declared.Event.{Event}
use Rattle.events.specs.declared.Event.TheVariants.{Nothing, Open, Attribute, LeftOut, Close, Note, Refuse, Finish}
use Rattle.events.specs.Inner.Pending.{event_list}
use Rattle.walk.specs.Settle.{Room, Tables, Out, going, refused, push, settle}

module _ (rule : Rule) (r : Room) where
  pub settle-the : (t : Tables) (e : Event) (es : List Event) → settle rule r (going t) (event_list e ++ es) ≡ settle rule r (push rule r (going t) e) es
  unfolding settle
  settle-the t Nothing es = refl
  settle-the t Finish es = refl
  settle-the t (Open n x l) es = refl
  settle-the t (Attribute p a) es = refl
  settle-the t (LeftOut n) es = refl
  settle-the t Close es = refl
  settle-the t (Note x) es = refl
  settle-the t (Refuse x) es = refl

  pub settle-refused : (x : Refusal) (es : List Event) → settle rule r (refused x) es ≡ refused x
  unfolding settle
  settle-refused x [] = refl
  settle-refused x (e ∷ es) = settle-refused x es

  pub settle-cons : (o : Out) (e : Event) (es : List Event) → settle rule r o (e ∷ es) ≡ settle rule r (push rule r o e) es
  unfolding settle
  settle-cons o e es = refl

  pub settle-nil : (o : Out) → settle rule r o [] ≡ o
  unfolding settle
  settle-nil o = refl
