-- What a list of events counts: docs/FORMAT.md, W19, W25, B13.
--
--   sum_of         the sum of a number over all events
--   opens_in       how many elements open: the starts that were read whole
--   attributes_in  how many attributes are due, the leading one included
--   event_notes    the anomalies among them, in order: the notes that are due, before any cap
--   open_names     the name indices of the elements that open, in order; open_fixed their fixed words; open_lines their lines
--   depth_from     the depth behind these events: an element adds one, an end takes one away, not below 0
use Rattle.std.specs.Prelude.{ℕ, ◌+◌, ◌-◌, List, [], ◌∷◌, ◌++◌}
use Rattle.anomaly.specs.declared.ResAnomaly.{ResAnomaly}
use Rattle.events.specs.declared.Event.{Event}
use Rattle.events.specs.declared.Event.TheVariants.{Nothing, Open, Attribute, LeftOut, Close, Note, Refuse, Finish}

abbrev pub sum_of : (Event → ℕ) → List Event → ℕ
sum_of w [] = 0
sum_of w (e ∷ es) = w e + sum_of w es

abbrev pub is_open : Event → ℕ
is_open (Open name fixed line) = 1
is_open Nothing = 0
is_open (Attribute p a) = 0
is_open (LeftOut n) = 0
is_open Close = 0
is_open (Note x) = 0
is_open (Refuse x) = 0
is_open Finish = 0

abbrev pub is_attribute : Event → ℕ
is_attribute (Attribute p a) = 1
is_attribute Nothing = 0
is_attribute (Open name fixed line) = 0
is_attribute (LeftOut n) = 0
is_attribute Close = 0
is_attribute (Note x) = 0
is_attribute (Refuse x) = 0
is_attribute Finish = 0

abbrev pub opens_in : List Event → ℕ
opens_in es = sum_of is_open es

abbrev pub attributes_in : List Event → ℕ
attributes_in es = sum_of is_attribute es

abbrev pub event_note : Event → List ResAnomaly
event_note (Note x) = x ∷ []
event_note Nothing = []
event_note (Open name fixed line) = []
event_note (Attribute p a) = []
event_note (LeftOut n) = []
event_note Close = []
event_note (Refuse x) = []
event_note Finish = []

abbrev pub event_notes : List Event → List ResAnomaly
event_notes [] = []
event_notes (e ∷ es) = event_note e ++ event_notes es

-- what an element that opens is put down with, of all of them in order
abbrev pub opens_as : (ℕ → ℕ → ℕ → ℕ) → List Event → List ℕ
opens_as pick [] = []
opens_as pick (Open name fixed line ∷ es) = pick name.0 fixed line ∷ opens_as pick es
opens_as pick (Nothing ∷ es) = opens_as pick es
opens_as pick (Attribute p a ∷ es) = opens_as pick es
opens_as pick (LeftOut n ∷ es) = opens_as pick es
opens_as pick (Close ∷ es) = opens_as pick es
opens_as pick (Note x ∷ es) = opens_as pick es
opens_as pick (Refuse x ∷ es) = opens_as pick es
opens_as pick (Finish ∷ es) = opens_as pick es

abbrev pub open_names : List Event → List ℕ
open_names es = opens_as (λ name fixed line. name) es

abbrev pub open_fixed : List Event → List ℕ
open_fixed es = opens_as (λ name fixed line. fixed) es

abbrev pub open_lines : List Event → List ℕ
open_lines es = opens_as (λ name fixed line. line) es

abbrev pub stepped : ℕ → Event → ℕ
stepped d (Open name fixed line) = d + 1
stepped d Close = d - 1
stepped d Nothing = d
stepped d (Attribute p a) = d
stepped d (LeftOut n) = d
stepped d (Note x) = d
stepped d (Refuse x) = d
stepped d Finish = d

abbrev pub depth_from : ℕ → List Event → ℕ
depth_from d [] = d
depth_from d (e ∷ es) = depth_from (stepped d e) es
