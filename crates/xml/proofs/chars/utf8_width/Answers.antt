-- `xml::chars::utf8_width` meets its contract: a byte of ASCII by its sort, a byte that is clear, and else what stands there.
use mathlib.Core.Path.{sym, ◌∙◌}
use Prim.Native.Nat.{ℕ, ◌<◌}
use lib.ListN.{get_or}
use Rattle.xml.proofs.Names.{outside-sort, inside-sort, told-ascii, went-told, stuck-told, went-one}
use Rattle.xml.proofs.ClearPlaces.{clear-passes}
use Rattle.xml.proofs.chars.utf8_width.Goals as goal

pub returns-then-eq-clause-none : goal.returns-then-eq-clause-none
returns-then-eq-clause-none c =
    let k = c.in-Some.sort in
    let a = c.in-Some.ensures.ascii in
    λ z.
    stuck-told _ _ _ 1 c.requires.1 (told-ascii _ _ _ c.requires.1 a.0 a.1) (outside-sort k (sym c.eq.ensures ∙ c.if-eq.true))

pub returns-in-Some-clause-some : goal.returns-in-Some-clause-some
returns-in-Some-clause-some c =
    let k = c.in-Some.sort in
    let a = c.in-Some.ensures.ascii in
    went-told _ _ _ 1 c.requires.1 (told-ascii _ _ _ c.requires.1 a.0 a.1) (inside-sort k (sym c.eq.ensures ∙ c.if-eq.false))

pub returns-then-lead_clear-clause-some : goal.returns-then-lead_clear-clause-some
returns-then-lead_clear-clause-some c =
    let s = c.args.s.now in
    let at = c.args.at in
    let bytes : (k : ℕ) → get_or s k 0 < 256 = λ k. (c.type_inv.s k).fits in
    went-one s at c.requires.1 (clear-passes s bytes at c.requires.1 (c.lead_clear.ensures c.if-lead_clear.true _ _ _))
