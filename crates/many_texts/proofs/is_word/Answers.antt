-- `many_texts::is_word` meets its contract: by whether the place is a word at all.
use Prim.Native.Nat.{◌+◌}
use mathlib.Core.Path.{refl, sym}
use native.Mathlib.Omega.{arith}
use borrow.Author.Tests.{lt-leb}
use Rattle.many_texts.specs.Many.{most_bytes}
use Rattle.many_texts.proofs.Going.{word-by}
use Rattle.many_texts.proofs.is_word.Goals as goal

pub returns-then-at-gt4294967295 : goal.returns-then-at-gt4294967295
returns-then-at-gt4294967295 c =
    let a = c.args in sym (lt-leb (a.at + a.n) most_bytes (omega arith))

pub returns : goal.returns
returns c = word-by c.args.at c.args.n (omega arith) refl
