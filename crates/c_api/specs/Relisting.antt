-- A listing that C has read back: docs/FORMAT.md, L9.
--
--   relisted_of     the numbers of what a listing says and its cap as the struct that C has
--   RelistsWords   THE PROMISE of `axml_read_listing`: the numbers, the cap and every word of `relisted_in` (listing_back/specs/Back.antt)
use Rattle.std.specs.Prelude.{ℕ, ◌≡◌, List, length}
use Rattle.digits.specs.Written.{fitted}
use Rattle.errors.specs.declared.Numbers.{Numbers}
use Rattle.listing_back.specs.Back.{relisted_in}
use Rattle.c_api.specs.declared.relisting.AxmlRelisted.{AxmlRelisted}

abbrev pub relisted_of : Numbers → ℕ → AxmlRelisted
relisted_of n cap = record {
  refusal = n.refusal;
  value = n.value;
  starts = n.starts;
  nodes = n.nodes;
  attributes = n.attributes;
  notes = n.notes;
  cap = cap;
}

pub record RelistsWords (text ns ats os : List ℕ) (r : AxmlRelisted) (ns' ats' os' : List ℕ) : Type 0 where
  pub answer : r ≡ relisted_of (relisted_in text ns ats os).numbers (relisted_in text ns ats os).cap
  pub nodes : ns' ≡ fitted (relisted_in text ns ats os).nodes (length ns)
  pub attributes : ats' ≡ fitted (relisted_in text ns ats os).attributes (length ats)
  pub notes : os' ≡ fitted (relisted_in text ns ats os).notes (length os)
