-- `system_types::starts_with` meets its contract: it is the library's (proofs/Prefix.antt, `starts_with-needle`).
use Rattle.std.proofs.Common.{◌∙◌}
use Rattle.system_types.proofs.Prefix.{starts_with-needle}
use Rattle.system_types.proofs.starts_with.Goals as goal

pub returns : goal.returns
returns c = c.starts_with.ensures.value ∙ starts_with-needle c.args.s.now c.args.prefix.now
