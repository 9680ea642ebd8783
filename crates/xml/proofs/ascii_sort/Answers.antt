-- `xml::ascii_sort` meets its contract, by the class of the byte.
use mathlib.Core.Path.{sym, ◌∙◌}
use native.Mathlib.Omega.{arith}
use Rattle.xml.proofs.Sorts.{class-ascii, class-beyond}
use Rattle.xml.proofs.ascii_sort.Goals as goal

pub returns-in-0-clause-ascii : goal.returns-in-0-clause-ascii
returns-in-0-clause-ascii c = class-ascii _ 0 (sym c.in-0.is ∙ c.requires.right c.args.b (omega arith)) (omega arith)

pub returns-in-1-clause-ascii : goal.returns-in-1-clause-ascii
returns-in-1-clause-ascii c = class-ascii _ 1 (sym c.in-1.is ∙ c.requires.right c.args.b (omega arith)) (omega arith)

pub returns-in-2-clause-ascii : goal.returns-in-2-clause-ascii
returns-in-2-clause-ascii c = class-ascii _ 2 (sym c.in-2.is ∙ c.requires.right c.args.b (omega arith)) (omega arith)

pub returns-in_default-clause-beyond : goal.returns-in_default-clause-beyond
returns-in_default-clause-beyond c = λ z. class-beyond _ _ (c.requires.right c.args.b (omega arith)) (omega arith)
