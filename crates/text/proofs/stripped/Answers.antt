-- `text::stripped` meets its contract: what is left of a name is its end (`stripped-stands`).
use mathlib.Core.Path.{ap, ◌∙◌}
use lib.ListN.{length, take, drop}
use Rattle.system_types.specs.Names.{without, android_attr}
use Rattle.text.proofs.Parts.{stripped-stands, slice_of}
use Rattle.text.proofs.stripped.Goals as goal

pub returns : goal.returns
returns c =
    let s = c in
    let a = s.args in
    let e = c.without_attr-rest.ensures in
    λ w t. stripped-stands w t a.area.now a.start a.n (length c.without_attr-rest.result.now) s.requires.0 s.requires.1 (ap length
    e ∙ ap (λ (k : _). length (without android_attr (take k (drop a.start a.area.now)))) (slice_of a.start a.n))
