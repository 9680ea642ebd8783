-- The marked cases of calls: whatever results the promise `Reads` allows for a file of proofs/Cases/Table.antt, they are those of its table.
--
--   Gives       of a case: in tables of its lengths, with any words in them, a call leaves its result, every word of it
--   AllGive     that of each case of a list
--   cases-read  `read` gives them all
use Rattle.std.specs.Prelude.{Result}
use Prim.Native.Nat.{ℕ}
use mathlib.Core.Path.{◌≡◌, ◌∙◌, ap}
use mathlib.Core.List.{List, [], ◌∷◌}
use lib.ListN.{length}
use Rattle.anomaly.specs.declared.Note.{Note}
use Rattle.system_types.specs.Names.{lends}
use Rattle.walk.specs.Settle.{Room}
use Rattle.walk.specs.Reading.{Reading, reading, Reads}
use Rattle.claims.specs.Insertion.{reading_left}
use Rattle.claims.proofs.Calls.Readings.{left-reading}
use Rattle.claims.proofs.Cases.Table.{Case, room, cases, readings, results, cases-right}
use Rattle.errors.specs.declared.ReadCounts.{ReadCounts}
use Rattle.errors.specs.declared.Refusal.{Refusal}

abbrev pub Gives : Case → Type 0
Gives c = (ns ats : List ℕ) (os : List Note) (a : Result ReadCounts Refusal) (ns' ats' : List ℕ) (os' : List Note) → length ns ≡ room.nodes → length ats ≡ room.attributes
    → length os ≡ room.notes → Reads c.file (lends [] []) ns ats os room.cap room.mode a ns' ats' os' → reading_left a ns' ats' os' ≡ c.result

abbrev pub AllGive : List Case → Type 0
AllGive [] = Unit {0}
AllGive (c ∷ cs) = Gives c × AllGive cs

abbrev first_or : Reading → List Reading → Reading
first_or x [] = x
first_or x (y ∷ ys) = y

abbrev rest_of : List Reading → List Reading
rest_of [] = []
rest_of (y ∷ ys) = ys

abbrev of-lengths : ℕ → ℕ → ℕ → Room
of-lengths n a m = record { nodes = n; attributes = a; notes = m; cap = room.cap; mode = room.mode }

-- a table whose readings are right gives them to every call
gives : (cs : List Case) → readings cs ≡ results cs → AllGive cs
gives [] e = tt
gives (c ∷ cs) e = (
  λ ns ats os a ns' ats' os' n m k p.
      left-reading c.file (lends [] []) ns ats os room.cap room.mode a ns' ats' os' p
      ∙ ap (λ (x : ℕ). reading (of-lengths x (length ats) (length os)) c.file (lends [] [])) n
      ∙ ap (λ (x : ℕ). reading (of-lengths room.nodes x (length os)) c.file (lends [] [])) m
      ∙ ap (λ (x : ℕ). reading (of-lengths room.nodes room.attributes x) c.file (lends [] [])) k
      ∙ ap (first_or c.result) e,
  gives cs (ap rest_of e),
)

pub cases-read : AllGive cases
cases-read = gives cases cases-right
