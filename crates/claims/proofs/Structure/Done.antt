-- Where a successful reading comes from: docs/FORMAT.md, B15. For proofs/Structure/Theorem.antt, proofs/Calls/Zeros.antt and proofs/Broken/Readers.antt.
--
--   DoneBy     the answer counts tables that all events of the file leave, and the lent tables hold their kept records
--   done-by    so it is with every result of success that the promise allows
use Rattle.std.specs.Prelude.{Ok}
use Prim.Native.Nat.{ℕ, ◌/◌, ◌≤◌}
use mathlib.Core.Path.{◌≡◌, sym, ap}
use mathlib.Core.List.{List}
use lib.ListN.{length}
use Rattle.anomaly.specs.declared.Note.{Note}
use Rattle.errors.specs.declared.ReadCounts.{ReadCounts}
use Rattle.errors.proofs.Laws.{numbers_of-unique}
use Rattle.records.specs.Words.{node_width}
use Rattle.system_types.specs.Names.{Lent}
use Rattle.walk.specs.Settle.{Room, Tables, Out, going, settle, nothing_yet}
use Rattle.walk.specs.Reading.{Reading, reading, succeeds, nodes_kept, attributes_kept, room_in, Reads}
use Rattle.claims.specs.Readers.{names_for, events_of}
use Rattle.claims.proofs.Settle.Success.{counts_of, success}
use Rattle.claims.proofs.Structure.Tables.{Shaped, settled-shaped}

pub record DoneBy (r : Room) (o : Out) (c : ReadCounts) (R : Reading) : Type 0 where
  pub cap : 1 ≤ r.cap
  pub tables : Tables
  pub out : o ≡ going tables
  pub starts : c.starts ≡ length tables.nodes / node_width
  pub nodes : c.nodes ≡ nodes_kept tables
  pub attributes : c.attributes ≡ attributes_kept tables
  pub notes : c.notes ≡ length tables.notes
  pub counts : c ≡ counts_of tables
  pub whole : R ≡ succeeds r tables

module _ (f : List ℕ) (lent : Lent) (ns ats : List ℕ) (os : List Note) (cap mode : ℕ) where
  abbrev pub room : Room
  room = room_in ns ats os cap mode

  abbrev pub out_of : Out
  out_of = settle (names_for mode f lent).repeats room nothing_yet (events_of mode f lent)

  pub done-by : (c : ReadCounts) (ns' ats' : List ℕ) (os' : List Note) → Reads f lent ns ats os cap mode (Ok c) ns' ats' os'
      → DoneBy room out_of c (reading room f lent)
  done-by c ns' ats' os' h =
      let s = success room f lent c (sym (numbers_of-unique _ _ h.answer)) in
      let q : c ≡ counts_of s.tables = sym s.counts in record {
        cap = s.cap;
        tables = s.tables;
        out = s.settles;
        starts = ap (λ (x : ReadCounts). x.starts) q;
        nodes = ap (λ (x : ReadCounts). x.nodes) q;
        attributes = ap (λ (x : ReadCounts). x.attributes) q;
        notes = ap (λ (x : ReadCounts). x.notes) q;
        counts = q;
        whole = s.whole;
      }

  pub done-shaped : (t : Tables) → out_of ≡ going t → Shaped room t
  done-shaped t e = rw e at (settled-shaped room (names_for mode f lent).repeats (events_of mode f lent))
