-- What printing a listing promises: docs/FORMAT.md, L2, B1 (refusal 11), B7, B8.
--
--   listing_answer   the length of the text; where the buffer is shorter, refusal 11 with the bytes that the text needs
--   Printed         what `listing_into` promises of its answer and of the buffer (`fitted`, digits/specs/Written.antt)
--
-- A text of exactly the buffer's length fits. Laws: proofs/Whole.antt.
use Rattle.std.specs.Prelude.{ℕ, ◌≡◌, List, cond, length, leb, Result, Ok, Err}
use Rattle.digits.specs.Written.{fitted}
use Rattle.errors.specs.Refusal.{lines_numbers_of}
use Rattle.errors.specs.declared.Refusal.TheVariants.{TextShort}
use Rattle.errors.specs.declared.Refusal.{Refusal}

unfoldable pub listing_answer : List ℕ → ℕ → Result ℕ Refusal
listing_answer text room = cond (leb (length text) room) (Ok (length text)) (Err (TextShort (length text)))

pub record Printed (text before : List ℕ) (r : Result ℕ Refusal) (after : List ℕ) : Type 0 where
  pub answer : lines_numbers_of r ≡ lines_numbers_of (listing_answer text (length before))
  pub out : after ≡ fitted text (length before)
