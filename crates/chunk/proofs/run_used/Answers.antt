-- `chunk::run_used` meets its contract: no header, a chunk of the sort, or a chunk of another.
use borrow.Author.Rules.{rules}
use mathlib.Core.Path.{sym, ◌∙◌}
use lib.ListN.{drop}
use Rattle.common.proofs.Laws.{header_of-long-at}
use Rattle.chunk.proofs.Laws.{run_used-short, run_used-other, run_used-here}
use Rattle.chunk.proofs.run_used.Goals as goal

pub skip_content-requires : goal.skip_content-requires
skip_content-requires c = header_of-long-at c.args.s.now c.args.at (sym c.header_at.ensures ∙ c.in-Some.is) c.requires

pub returns-in_default : goal.returns-in_default
returns-in_default c =
    let a = c.args in
    (sym (run_used-short a.sort (drop a.at a.s.now) (sym c.header_at.ensures ∙ c.in_default.is)), search rules)

pub returns-then-sort_of-sort : goal.returns-then-sort_of-sort
returns-then-sort_of-sort c =
    let a = c.args in
    let w = sym c.header_at.ensures ∙ c.in-Some.is in
    let same = sym c.sort_of.ensures ∙ c.if-sort_of-sort.true in
    run_used-here a.s.now a.at a.sort c.skip_content.result w same c.requires c.skip_content.ensures

pub returns-else-sort_of-sort : goal.returns-else-sort_of-sort
returns-else-sort_of-sort c =
    let a = c.args in
    let w = sym c.header_at.ensures ∙ c.in-Some.is in
    (sym (run_used-other a.sort (drop a.at a.s.now) w (λ e. c.if-sort_of-sort.false (c.sort_of.ensures ∙ e))), search rules)
