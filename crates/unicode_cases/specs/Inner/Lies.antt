-- Where a record of the vectors lies in its file: what the walk over a file has to know to stay inside it.
use Rattle.std.specs.Prelude.{ℕ, ◌≤◌}

-- the bytes are from `start` to `middle`, and the text that they are from there to `end`
pub record Lies (size start middle end : ℕ) : Type 0 where
  pub bytes : start ≤ middle
  pub text : middle ≤ end
  pub inside : end ≤ size
