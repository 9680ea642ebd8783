-- How the code goes through a UTF-8 sequence: the rows of Table 3-7 by their first byte, and a step by its first four bytes.
-- No public contract cites this file: proofs/Rows.antt shows that it says what `step8` of specs/Utf8.antt says (`step8-lead`).
--
--   row        how many bytes follow a first byte, and the range of the second; in every row a third and a fourth lie in 80 to BF
--   lead_of     the row that has a first byte; 4 bytes to follow where no row has it
--   step_by     the step at a first byte, by its row and the three bytes after it; a byte past the end reads as 0, which is in no range
use Rattle.std.specs.Prelude.{ℕ, ◌+◌, ◌*◌, ◌%◌, cond, ltb, eqb}
use Rattle.utf.specs.Utf8.{inside}
use Rattle.utf.specs.declared.Step.{Step}
use Rattle.utf.specs.declared.Step.TheVariants.{Scalar, Bad}
use Rattle.utf.specs.declared.utf8.Lead.{Lead}

abbrev pub row : ℕ → ℕ → ℕ → Lead
row n first last = record { more = n; low = first; high = last }

unfoldable pub lead_of : ℕ → Lead
lead_of b =
    cond (ltb b 0x80) (row 0 0 0)
    (cond (ltb b 0xc2) (row 4 0 0)
    (cond (ltb b 0xe0) (row 1 0x80 0xbf)
    (cond (ltb b 0xe1) (row 2 0xa0 0xbf)
    (cond (ltb b 0xed) (row 2 0x80 0xbf)
    (cond (ltb b 0xee) (row 2 0x80 0x9f)
    (cond (ltb b 0xf0) (row 2 0x80 0xbf)
    (cond (ltb b 0xf1) (row 3 0x90 0xbf)
    (cond (ltb b 0xf4) (row 3 0x80 0xbf)
    (cond (ltb b 0xf5) (row 3 0x80 0x8f) (row 4 0 0))))))))))

unfoldable pub step_by : Lead → ℕ → ℕ → ℕ → ℕ → Step
step_by l b0 b1 b2 b3 =
    cond (eqb l.more 0) (Scalar b0 1)
    (cond (eqb l.more 4) (Bad 1)
    (cond (inside l.low l.high b1)
    (cond (eqb l.more 1) (Scalar (b0 % 32 * 64 + b1 % 64) 2)
    (cond (inside 0x80 0xbf b2)
    (cond (eqb l.more 2) (Scalar (b0 % 16 * 4096 + b1 % 64 * 64 + b2 % 64) 3)
    (cond (inside 0x80 0xbf b3) (Scalar (b0 % 8 * 262144 + b1 % 64 * 4096 + b2 % 64 * 64 + b3 % 64) 4) (Bad 3)))
    (Bad 2)))
    (Bad 1)))
