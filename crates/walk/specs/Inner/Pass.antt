-- What `pass_in` does: where the notes of both sorts of foreign chunks are past their cap, such chunks change nothing. Not part of what a
-- reader must believe.
--
--   NoneDue    no note of a foreign chunk falls due
--   Reaches    what is settled from the place `at`, behind a chunk of the sort `run`, is what is settled from a later place
--   PassesOn   the same of two cursors, with the cap and the counts of a reading
use Rattle.std.specs.Prelude.{ℕ, ◌≤◌, ◌≡◌, List, length, drop, get_or}
use Rattle.anomaly.specs.Note.{kind_index}
use Rattle.anomaly.specs.declared.ResAnomaly.TheVariants.{NonXmlChunk, XmlNodeHeaderSize}
use Rattle.head.specs.declared.Opened.{Opened}
use Rattle.events.specs.declared.Cursor.{Cursor}
use Rattle.events.specs.Events.{Names, WalkState, events_on}
use Rattle.events.specs.Inner.Pending.{Within, pending, steps}
use Rattle.walk.specs.Settle.{Room, Tables, going, settle}

abbrev pub spot_at : ℕ → ℕ → ℕ → WalkState
spot_at run depth starts = record { run = run; depth = depth; starts = starts }

-- the notes of both sorts of foreign chunks are past their cap
abbrev pub NoneDue : ℕ → List ℕ → Type 0
NoneDue cap counts = (cap ≤ get_or counts (kind_index (NonXmlChunk 0)) 0) × (cap ≤ get_or counts (kind_index (XmlNodeHeaderSize 0)) 0)

pub record Reaches (b : List ℕ) (at run at' run' : ℕ) : Type 0 where
  pub more : at ≤ at'
  pub fits : at' ≤ length b
  pub quiet : (N : Names) (d s : ℕ) (r : Room) (T : Tables) → NoneDue r.cap T.counts
      → settle N.repeats r (going T) (events_on N (drop at b) (spot_at run d s))
      ≡ settle N.repeats r (going T) (events_on N (drop at' b) (spot_at run' d s))

pub record PassesOn (b : List ℕ) (cap : ℕ) (cs : List ℕ) (c c' : Cursor) : Type 0 where
  pub within : (o : Opened) → Within o b c → Within o b c'
  pub low : steps b c' ≤ steps b c
  pub quiet : (N : Names) (o : Opened) (t : List ℕ) (r : Room) (T : Tables) → r.cap ≡ cap → T.counts ≡ cs
      → settle N.repeats r (going T) (pending N o t b c) ≡ settle N.repeats r (going T) (pending N o t b c')
