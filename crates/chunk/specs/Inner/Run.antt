-- A run of foreign chunks of one sort: docs/FORMAT.md, W4.
--
--   run_used   the bytes that a chunk of the sort k at the front takes; 0 where no chunk of that sort stands there, or no header
--   skip_run   the position behind the run of chunks of the sort k that begins at the position `at`; `at` where none stands there
use Rattle.std.specs.Prelude.{ℕ, ◌+◌, List, cond, length, drop, eqb, Option, Some, None}
use Rattle.common.specs.Header.{header_of}
use Rattle.chunk.specs.Sort.{chunk_sort, foreign_len}
use Rattle.chunk.specs.Walk.{walk}
use Rattle.common.specs.declared.ResChunkHeader.{ResChunkHeader}

abbrev pub run_used_by : ℕ → ℕ → Option ResChunkHeader → ℕ
run_used_by k n None = 0
run_used_by k n (Some h) = cond (eqb (chunk_sort h) k) (foreign_len n h) 0

unfoldable pub run_used : ℕ → List ℕ → ℕ
run_used k l = run_used_by k (length l) (header_of l)

unfoldable pub skip_run : List ℕ → ℕ → ℕ → ℕ
skip_run s at k = walk (λ l p. run_used k l) (λ l p. p + run_used k l) (drop at s) at
