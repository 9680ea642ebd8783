-- `walk::start` meets its contract: a check that fails refuses before the file is read, and a call behind the head is a call from here (proofs/Opening.antt).
use mathlib.Core.Path.{sym, ◌∙◌}
use Rattle.system_types.specs.Names.{lends}
use Rattle.walk.proofs.Knowing.{knows-refused, knows-started}
use Rattle.walk.proofs.Opening.{fresh-out, started-asks, advanced-started}
use Rattle.walk.proofs.start.Goals as goal

pub read_on-requires : goal.read_on-requires
read_on-requires c =
    let a = c.args in
    let s = c.started in
    let e = sym c.enter.ensures ∙ c.in-Ok.is in
    let p = started-asks a.file.now (lends a.names.now a.area.now) a.nodes.now a.attributes.now a.st c.requires.0 c.requires.1 e
    s.result s.ensures in (
      p.0,
      p.1,
      knows-started a.file.now (lends a.names.now a.area.now) _ _ c.requires.2.looks-room c.requires.2.texts-room a.st c.requires.1 c.requires.2 _
          s.result s.ensures,
    )

pub returns-in-Err : goal.returns-in-Err
returns-in-Err c =
    let a = c.args in
    let r = c.refuse in
    let e = sym c.enter.ensures ∙ c.in-Err.is in (
      (λ g.
          fresh-out a.file.now (lends a.names.now a.area.now) a.nodes.now a.attributes.now a.st g c.requires.1 e
          r.result r.new.nodes r.new.attributes r.ensures),
      knows-refused a.file.now (lends a.names.now a.area.now) _ _ c.requires.2.looks-room c.requires.2.texts-room _ _ _ _ _ _ _ r.ensures,
    )

pub returns-in-Ok : goal.returns-in-Ok
returns-in-Ok c =
    let a = c.args in
    let q = c.read_on in
    let e = sym c.enter.ensures ∙ c.in-Ok.is in (
      (λ g.
          advanced-started a.file.now (lends a.names.now a.area.now) a.nodes.now a.attributes.now a.st g c.requires.1 e
          c.started.result c.started.ensures q.result q.new.nodes q.new.attributes q.ensures.0),
      q.ensures.1,
    )
