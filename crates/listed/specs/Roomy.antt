-- The room that suffices for every listing: the tables of crate `records`, and a buffer for the listing of full ones. docs/FORMAT.md, L1.
use Rattle.std.specs.Prelude.{ℕ, ◌*◌, ◌≤◌, ◌≡◌}
use Rattle.records.specs.Words.{node_width, attribute_width}
use Rattle.records.specs.Limits.{listed_nodes, listed_attributes}
use Rattle.listing_text.specs.Size.{listed_bytes}

-- words of the two tables, bytes of the buffer
pub record Roomy (ns ats room : ℕ) : Type 0 where
  pub nodes : ns ≡ node_width * listed_nodes
  pub attributes : ats ≡ attribute_width * listed_attributes
  pub out : listed_bytes ≤ room
