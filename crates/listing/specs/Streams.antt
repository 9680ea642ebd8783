-- What the program promises of the two streams: docs/FORMAT.md, L1.
--
--   Listed   what `run` promises of a reader and a writer whose bytes are known: the listing of all that the one had is what the other has more
use Rattle.std.specs.Prelude.{ℕ, List, IfSome}
use Rattle.std.specs.declared.option.Option.{Option}
use Rattle.std.specs.Io.KnownBytes.{Appends}
use Rattle.listed.specs.Lists.{listed_text}

-- what the reader had left; what the writer held before and holds afterwards; the words of the two tables
abbrev pub Listed : Option (List ℕ) → Option (List ℕ) → Option (List ℕ) → ℕ → ℕ → Type 0
Listed known before after ns ats = IfSome known (λ f. Appends before after (listed_text f ns ats))
