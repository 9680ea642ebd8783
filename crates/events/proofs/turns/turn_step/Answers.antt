-- `events::turns::turn_step` meets its contract: the arms are those of `turn_step`; what stands here lies in the body (proofs/Laws.antt of xml_elements).
use Rattle.xml_elements.specs.Chunk.{turn_of}
use Rattle.events.proofs.Model.{rest}
use native.Mathlib.Omega.{arith}
use Rattle.xml_elements.proofs.Laws.{foreign-there, met-there}
use mathlib.Core.Path.{◌∙◌, sym, ap}
use Rattle.events.proofs.turns.turn_step.Goals as goal

pub foreign_step-requires : goal.foreign_step-requires
foreign_step-requires c =
    let start = c in
    let a = start.args in
    let v = c.in-Foreign in
    let e = c.look.ensures ∙ ap turn_of (rest a.b.now a.c.at) in
    let q = foreign-there a.b.now a.c.at v.sort v.number v.used (sym e ∙ v.is) start.requires.0 in
    (q.2, start.requires.1)

pub chunk_step-requires : goal.chunk_step-requires
chunk_step-requires c =
    let start = c in
    let a = start.args in
    let v = c.in-Met in
    let e = c.look.ensures ∙ ap turn_of (rest a.b.now a.c.at) in
    let q = met-there a.b.now a.c.at v.x (sym e ∙ v.is) start.requires.0 in
    omega (arith, q.1, start.requires.1)
