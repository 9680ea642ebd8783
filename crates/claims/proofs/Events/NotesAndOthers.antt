-- Events taken apart: the notes among them (`event_notes`, specs/Counts.antt), and the others. docs/FORMAT.md, B12. No contract cites this file.
--
--   others_in                         the events that are no notes
--   others_in-append, event_notes-append  both of lists that are joined
--   others_in-notes, event_notes-notes    both of a list of notes alone
--   nil-left, nil-right              lists that join to nothing are nothing
use mathlib.Core.Path.{◌≡◌, refl, sym, ap}
use mathlib.Core.List.{List, [], ◌∷◌, ◌++◌, append_assoc, cons≢nil}
use Rattle.anomaly.specs.declared.ResAnomaly.{ResAnomaly}
use Rattle.events.specs.declared.Event.{Event}
use Rattle.events.specs.declared.Event.TheVariants.{Nothing, Open, Attribute, LeftOut, Close, Note, Refuse, Finish}
use Rattle.events.specs.Events.{notes_of}
use Rattle.claims.specs.Counts.{event_note, event_notes}

abbrev pub other : Event → List Event
other Nothing = Nothing ∷ []
other (Open n x l) = Open n x l ∷ []
other (Attribute p a) = Attribute p a ∷ []
other (LeftOut n) = LeftOut n ∷ []
other Close = Close ∷ []
other (Note x) = []
other (Refuse x) = Refuse x ∷ []
other Finish = Finish ∷ []

abbrev pub others_in : List Event → List Event
others_in [] = []
others_in (e ∷ es) = other e ++ others_in es

pub others_in-append : (ds es : List Event) → others_in (ds ++ es) ≡ others_in ds ++ others_in es
others_in-append [] es = refl
others_in-append (d ∷ ds) es = rw (others_in-append ds es) (sym (append_assoc (other d) (others_in ds) (others_in es)))

pub event_notes-append : (ds es : List Event) → event_notes (ds ++ es) ≡ event_notes ds ++ event_notes es
event_notes-append [] es = refl
event_notes-append (d ∷ ds) es = rw (event_notes-append ds es) (sym (append_assoc (event_note d) (event_notes ds) (event_notes es)))

pub others_in-notes : (ns : List ResAnomaly) → others_in (notes_of ns) ≡ []
others_in-notes [] = refl
others_in-notes (x ∷ ns) = others_in-notes ns

pub event_notes-notes : (ns : List ResAnomaly) → event_notes (notes_of ns) ≡ ns
event_notes-notes [] = refl
event_notes-notes (x ∷ ns) = ap (λ (r : List ResAnomaly). x ∷ r) (event_notes-notes ns)

-- two lists that join to nothing are nothing
pub nil-left : {A : Type 0} (s t : List A) → s ++ t ≡ [] → s ≡ []
nil-left [] t e = refl
nil-left (x ∷ s) t e = absurd (cons≢nil e)

pub nil-right : {A : Type 0} (s t : List A) → s ++ t ≡ [] → t ≡ []
nil-right [] t e = e
nil-right (x ∷ s) t e = absurd (cons≢nil e)
