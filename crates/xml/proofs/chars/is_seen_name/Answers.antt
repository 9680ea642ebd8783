-- `xml::chars::is_seen_name` meets its contract. Invariant: what was passed is chars, and sound (`Seen`). Measure: the bytes left.
use Prim.Native.Nat.{ℕ, ◌<◌}
use mathlib.Core.Path.{◌≡◌}
use mathlib.Core.Bool.{true, false}
use borrow.Author.Rules.{rules}
use Rattle.xml.specs.Inner.NameRun.{begins}
use lib.ListN.{get_or}
use Rattle.xml.proofs.Names.{whole-seen}
use Rattle.xml.proofs.chars.is_seen_name.Goals as goal

pub returns : goal.returns
returns c =
    let s = c.args.s.now in
    let bytes : (k : ℕ) → get_or s k 0 < 256 = λ k. (c.type_inv.s k).fits in
    let begun : begins false s ≡ true = search rules in
    λ e. whole-seen s _ c.requires.1 bytes begun c.loop-at.invariant c.loop-at-test.false
