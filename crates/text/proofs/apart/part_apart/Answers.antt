-- `text::apart::part_apart` meets its contract: other bytes than those of a plain text are another text (`other_text`).
use mathlib.Core.Path.{refl}
use lib.ListN.{take, drop}
use Rattle.text.specs.Content.{some}
use Rattle.text.proofs.Others.{other_text}
use Rattle.text.proofs.apart.part_apart.Goals as goal

pub returns-in-Pool : goal.returns-in-Pool
returns-in-Pool c =
    let a = c.args in
    λ e. other_text a.utf16 a.t.now a.area.now (some a.utf16 (take a.m (drop a.q a.t.now)))
    (λ j. (c.shared_slice_known-1.given j).fits) c.requires.2 c.in-Pool.is
    (record { from = a.q; count = a.m; here = refl; bytes = c.bytes_apart.ensures e })
