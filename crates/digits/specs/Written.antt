-- A text over a buffer, from a place on.
--
--   written   a list with a text over it from a place on; what would lie past the end of the list is lost
--   Wrote     what a function that writes has done: the place behind the text, and the list with the text over it
--   fitted    a buffer of so many bytes with a text at its front: zeros behind it; zeros alone where the text is longer
--
-- A text of exactly the buffer's length fits. Laws: proofs/Written.antt, proofs/Fitted.antt.
use Rattle.std.specs.Prelude.{ℕ, ◌+◌, ◌-◌, ◌≤◌, ◌≡◌, cond, List, ◌++◌, length, replicate, leb}
use Rattle.std.proofs.lemmas.List.Edits.{sets}

unfoldable pub written : ℕ → List ℕ → List ℕ → List ℕ
written p s l = sets l p s

-- the text s over l from p on, at most `most` bytes of it: r is the place behind it, and l' the list afterwards
pub record Wrote (most p : ℕ) (s l : List ℕ) (r : ℕ) (l' : List ℕ) : Type 0 where
  pub place : r ≡ p + length s
  pub near : r ≤ p + most
  pub out : l' ≡ written p s l

unfoldable pub fitted : List ℕ → ℕ → List ℕ
fitted text room = cond (leb (length text) room) (text ++ replicate (room - length text) 0) (replicate room 0)
