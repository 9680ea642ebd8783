-- The key of an attribute: a number that is the same for attributes that repeat each other. Not part of what a reader must believe.
--
--   mixed     a state of 64 bits and a value, mixed: its halves are multiplied, and the halves of the products crossed
--   fold_of    the values of steps, mixed one by one; hash_of those of a text, in whatever encoding: none where it is refused
--   hash_in    the same of what an index stands for
--   key_by     the key for a prefix, a name and a namespace, from the numbers of the texts; the namespace counts where the prefix asks for it (W23)
--   keys_of    the keys of the records in a list of words
--
-- Laws: proofs/Hashes.antt. They use nothing of `mixed`, so that another formula changes nothing there.
use Rattle.std.specs.Prelude.{ℕ, ◌+◌, ◌*◌, ◌/◌, ◌%◌, Bool, cond, List, [], ◌∷◌, eqb, get_or}
use Rattle.std.specs.Int.Bits.{bit_xor}
use Rattle.utf.specs.declared.Step.{Step}
use Rattle.utf.specs.Text.{step_value, steps_of, refused}
use Rattle.records.specs.Words.{attribute_width, attribute_prefix, attribute_name, attribute_namespace, own_prefix}
use Rattle.system_types.specs.Names.{Lent}
use Rattle.text.specs.declared.Head.{Head}
use Rattle.text.specs.Content.{Content, none, cut, some, content_of}

-- ---- a text

-- of both halves of the state a product of 64 bits with the value
abbrev pub upper : ℕ → ℕ → ℕ
upper s v = bit_xor (s / 4294967296) v * 2654435769

abbrev pub lower : ℕ → ℕ → ℕ
lower s v = (s % 4294967296 + v) % 4294967296 * 3266489917

abbrev pub crossed : ℕ → ℕ → ℕ
crossed x y = bit_xor (x / 4294967296) (y % 4294967296) * 4294967296 + bit_xor (y / 4294967296) (x % 4294967296)

unfoldable pub mixed : ℕ → ℕ → ℕ
mixed s v = crossed (upper s v) (lower s v)

unfoldable pub fold_of : ℕ → List Step → ℕ
fold_of s [] = s
fold_of s (t ∷ ts) = fold_of (mixed s (step_value t)) ts

unfoldable pub hash_of : ℕ → Bool → List ℕ → ℕ
unfolding fold_of
hash_of s utf16 b = cond (refused utf16 b) s (fold_of s (steps_of utf16 b))

-- ---- an attribute

abbrev pub hash_in : ℕ → Content → ℕ
hash_in s none = s
hash_in s cut = s
hash_in s (some utf16 b) = hash_of s utf16 b

abbrev pub Key : Type 0
Key = ℕ → ℕ → ℕ → ℕ

-- a state with the number of another text mixed into it
abbrev pub joined : ℕ → ℕ → ℕ
joined s n = mixed (mixed s (n / 4294967296)) (n % 4294967296)

unfoldable pub key_by : Head → List ℕ → Lent → Key
key_by h t lent p n ns =
    let s = mixed (hash_in 0 (content_of h t lent n)) p in
    cond (eqb p own_prefix) (joined s (hash_in 0 (content_of h t lent ns))) s / 4294967296

abbrev pub keys_of : Key → List ℕ → ℕ → ℕ
keys_of key w i =
    key (get_or w (attribute_width * i + attribute_prefix) 0) (get_or w (attribute_width * i + attribute_name) 0)
    (get_or w (attribute_width * i + attribute_namespace) 0)
