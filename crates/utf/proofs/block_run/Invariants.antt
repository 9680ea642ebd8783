-- `utf::block_run` meets its contract. Invariant: what was passed is sound, and what is left is cut into blocks (`Passed`).
use Rattle.std.specs.Slice.Iter.{chunks_exact_rest, chunks_exact_size}
use Rattle.utf.proofs.Blocks.{Passed}
use Rattle.utf.proofs.block_run.Given as goal

abbrev pub invariant-loop-block : goal.invariant-loop-block
invariant-loop-block l = Passed l.utf16 l.s l.at l.i (chunks_exact_size l.block-iterator) (chunks_exact_rest l.block-iterator)
