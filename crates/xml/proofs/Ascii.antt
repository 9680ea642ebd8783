-- For a name of ASCII, `valid_name` is the rule of xml/src/lib.rs (`valid_name-ascii`).
use mathlib.Core.Path.{◌≡◌, refl, sym}
use mathlib.Core.Bool.{Bool, true, false, beq}
use mathlib.Core.List.{List, [], ◌∷◌}
use Prim.Native.Nat.{ℕ, suc, ◌<◌}
use lib.ListN.{get_or}
use Rattle.utf.specs.Text.{steps_after, steps_of}
use Rattle.utf.proofs.Tables.{below_at}
use Rattle.utf.proofs.Leads.{step8-ascii}
use Rattle.xml.specs.NCName.{in_ranges, is_start, is_char, all_char, is_nc_name, valid_name}
use Rattle.xml.specs.Inner.Rust.{rust_start, rust_char, rust_rest, rust_name}

beq-true : (x y : Bool) → beq x y ≡ true → x ≡ y
beq-true true true e = refl
beq-true true false e = sym e
beq-true false true e = e
beq-true false false e = refl

same_start : ℕ → Bool
same_start b = beq (is_start b) (rust_start b)

same_char : ℕ → Bool
same_char b = beq (is_char b) (rust_char b)

is_start-ascii : (b : ℕ) → b < 128 → is_start b ≡ rust_start b
unfolding same_start is_start in_ranges rust_start
is_start-ascii b h = beq-true (is_start b) (rust_start b) (below_at same_start 128 b refl h)

is_char-ascii : (b : ℕ) → b < 128 → is_char b ≡ rust_char b
unfolding same_char is_char in_ranges rust_char
is_char-ascii b h = beq-true (is_char b) (rust_char b) (below_at same_char 128 b refl h)

all_char-ascii : (s : List ℕ) → ((i : ℕ) → get_or s i 0 < 128) → all_char (steps_of false s) ≡ rust_rest s
unfolding all_char steps_after rust_rest
all_char-ascii [] a = refl
all_char-ascii (b ∷ s) a = rw (step8-ascii b s (a 0), is_char-ascii b (a 0), all_char-ascii s (λ i. a (suc i)))

pub valid_name-ascii : (s : List ℕ) → ((i : ℕ) → get_or s i 0 < 128) → valid_name false s ≡ rust_name s
unfolding valid_name is_nc_name steps_after rust_name
valid_name-ascii [] a = refl
valid_name-ascii (b ∷ s) a = rw (step8-ascii b s (a 0), is_start-ascii b (a 0), all_char-ascii s (λ i. a (suc i)))
