-- `walk::ending::noted` meets its contract: the note, and the state that counts it.
use native.Mathlib.Omega.{arith}
use mathlib.Core.Path.{◌≡◌, ap}
use Prim.Native.Nat.{ℕ}
use lib.ListN.{get_or}
use Rattle.anomaly.specs.Note.{kind_index}
use Rattle.anomaly.proofs.Laws.{kind_index-lt}
use borrow.Author.Rules.{rules}
use Rattle.walk.proofs.ending.noted.Goals as goal

pub stored-requires : goal.stored-requires
stored-requires c =
    let a = c.args in
    let e : get_or a.st.notes.counts c.kind_index.result 0 ≡ get_or a.st.notes.counts (kind_index a.x) 0 =
    ap (λ (i : ℕ). get_or a.st.notes.counts i 0) c.kind_index.ensures in
    (omega (arith, c.kind_index.ensures, kind_index-lt a.x), omega (arith, c.requires.0, e), search rules)
