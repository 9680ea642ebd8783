-- `first_value::value_of` meets its contract: the attributes of a node that was found, which lie in the table.
use Rattle.std.specs.Prelude.{Option, Some}
use Rattle.first_value.proofs.Search.{value-run}
use Rattle.first_value.proofs.Laws.{rest-words}
use Rattle.system_types.specs.Names.{lends}
use Rattle.records.specs.Words.{attribute_width}
use Rattle.first_value.specs.Inner.Run.{RunFits}
use lib.ListN.{length}
use mathlib.Core.List.{List}
use mathlib.Core.Path.{◌≡◌}
use Prim.Native.Nat.{ℕ, ◌+◌, ◌*◌, ◌≤◌}
use native.Mathlib.Omega.{arith}
use Rattle.first_value.proofs.value_of.Goals as goal

-- the attributes of the node end in the table
inside
    : (ats : List ℕ) (run : Option (ℕ × ℕ)) (first number place : ℕ)
    → RunFits ats run
    → run ≡ Some (first, number)
    → place ≡ attribute_width * first
    → place + attribute_width * number ≤ length ats
inside ats run first number place f e i = omega (arith, f.inside first number e)

pub slice_bounds-find_value-count : goal.slice_bounds-find_value-count
slice_bounds-find_value-count c =
    omega (arith, inside c.args.attributes.now c.args.node _ _ _ c.requires.1 c.in-Some.is c.attribute_place.ensures)

pub slice_bounds-find_value-start : goal.slice_bounds-find_value-start
slice_bounds-find_value-start c =
    omega (arith, inside c.args.attributes.now c.args.node _ _ _ c.requires.1 c.in-Some.is c.attribute_place.ensures)

pub find_value-requires : goal.find_value-requires
find_value-requires c = (
  c.requires.0,
  rest-words c.args.attributes.now c.attribute_place.result _
      (inside c.args.attributes.now c.args.node _ _ _ c.requires.1 c.in-Some.is c.attribute_place.ensures),
)

pub returns : goal.returns
returns c =
    let a = c.args in
    value-run a.h a.t.now (lends a.names.now a.area.now) a.name.now a.attributes.now
    c.in-Some.is c.attribute_place.ensures c.find_value.ensures
