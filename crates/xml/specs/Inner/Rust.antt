-- The rule of xml/src/lib.rs, `is_valid_name`, for a name of ASCII: what a reader compares with the Rust. No contract cites this file;
-- `valid_name-ascii` of proofs/Ascii.antt says that it is `valid_name` there.
--
--   rust_start  is_ascii_alphabetic, or _
--   rust_char   is_ascii_alphanumeric, or one of _ - .
--   rust_name   the first byte is a start and each other one a char; no name is empty
use Rattle.std.specs.Prelude.{ℕ, Bool, true, false, ◌&&◌, ◌||◌, List, [], ◌∷◌, eqb}
use Rattle.utf.specs.Utf8.{inside}

abbrev pub alphabetic : ℕ → Bool
alphabetic b = inside 0x41 0x5a b || inside 0x61 0x7a b

abbrev pub alphanumeric : ℕ → Bool
alphanumeric b = alphabetic b || inside 0x30 0x39 b

unfoldable pub rust_start : ℕ → Bool
rust_start b = alphabetic b || eqb b 0x5f

unfoldable pub rust_char : ℕ → Bool
rust_char b = alphanumeric b || (eqb b 0x5f || (eqb b 0x2d || eqb b 0x2e))

unfoldable pub rust_rest : List ℕ → Bool
unfolding rust_char
rust_rest [] = true
rust_rest (b ∷ s) = rust_char b && rust_rest s

unfoldable pub rust_name : List ℕ → Bool
unfolding rust_start rust_rest
rust_name [] = false
rust_name (b ∷ s) = rust_start b && rust_rest s
