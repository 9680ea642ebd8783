-- The text of some bytes, in UTF-16 (the flag `utf16`) or UTF-8, and how it was damaged: The Unicode Standard, chapter 3, and its section 3.9 on U+FFFD.
--
--   steps_of    the steps through the bytes, from the front: after a step of n bytes the next begins n bytes on
--   bytes_of    the steps' values as UTF-8; each bad step, a maximal subpart, is one U+FFFD
--   is_sound    no step is bad
--   refused    UTF-16 with a step that is bad, an unpaired surrogate: it is the empty text
--   text_of     the text as UTF-8: `bytes_of` of the steps, and nothing where it is refused; utf16_of a text in UTF-8 as UTF-16
--   put_text    a lent buffer with a text put at its front, and the rest of it as it was; all of it as it was where the text does not fit
--   damage_of   `whole`; `replaced n` by n times U+FFFD, n not 0 (UTF-8 only); `unpaired` (UTF-16 only). `cut` is for those who have no bytes to
--              read, because the string is cut or lies outside its pool
--   eq_bytes    the two lists are the same
use Rattle.std.specs.Prelude.{ℕ, zero, suc, ◌-◌, Bool, true, false, not, ◌&&◌, cond, List, [], ◌∷◌, ◌++◌, eqb, leb, length, drop}
use Rattle.utf.specs.Utf8.{encode, step8}
use Rattle.utf.specs.Utf16.{spell_all, step16}
use Rattle.utf.specs.declared.Step.{Step}
use Rattle.utf.specs.declared.Step.TheVariants.{Scalar, Bad, End}

-- ---- a step: what it stands for, how far it goes, and whether it is sound

abbrev pub step_of : Bool → List ℕ → Step
step_of false s = step8 s
step_of true s = step16 s

abbrev pub step_value : Step → ℕ
step_value (Scalar v n) = v
step_value (Bad n) = 0xfffd
step_value End = 0

abbrev pub width_of : Step → ℕ
width_of (Scalar v n) = n
width_of (Bad n) = n
width_of End = 0

abbrev pub sound_of : Step → Bool
sound_of (Scalar v n) = true
sound_of (Bad n) = false
sound_of End = false

-- ---- the steps: k bytes are left of a step that has been taken

unfoldable pub steps_after : Bool → ℕ → List ℕ → List Step
steps_after utf16 k [] = []
steps_after utf16 zero (b ∷ s) = let t = step_of utf16 (b ∷ s) in t ∷ steps_after utf16 (width_of t - 1) s
steps_after utf16 (suc k) (b ∷ s) = steps_after utf16 k s

abbrev pub steps_of : Bool → List ℕ → List Step
steps_of utf16 s = steps_after utf16 0 s

-- ---- readings of the steps

unfoldable pub bytes_of : List Step → List ℕ
unfolding encode
bytes_of [] = []
bytes_of (t ∷ ts) = encode (step_value t) ++ bytes_of ts

-- the scalar values that the steps stand for
unfoldable pub values_of : List Step → List ℕ
values_of [] = []
values_of (t ∷ ts) = step_value t ∷ values_of ts

unfoldable pub all_sound : List Step → Bool
all_sound [] = true
all_sound (t ∷ ts) = sound_of t && all_sound ts

unfoldable pub bad_count : List Step → ℕ
bad_count [] = 0
bad_count (t ∷ ts) = cond (sound_of t) (bad_count ts) (suc (bad_count ts))

-- ---- the text

abbrev pub is_sound : Bool → List ℕ → Bool
is_sound utf16 s = all_sound (steps_of utf16 s)

abbrev pub refused : Bool → List ℕ → Bool
refused utf16 s = utf16 && not (is_sound utf16 s)

unfoldable pub text_of : Bool → List ℕ → List ℕ
text_of utf16 s = cond (refused utf16 s) [] (bytes_of (steps_of utf16 s))

-- a text in UTF-8 as UTF-16
abbrev pub utf16_of : List ℕ → List ℕ
utf16_of text = spell_all (values_of (steps_of false text))

unfoldable pub put_text : List ℕ → List ℕ → List ℕ
put_text text out = cond (leb (length text) (length out)) (text ++ drop (length text) out) out

pub data Damage : Type 0 where
  whole : Damage
  replaced : ℕ → Damage
  unpaired : Damage
  cut : Damage

unfoldable pub damage_of : Bool → List ℕ → Damage
unfolding all_sound bad_count
damage_of utf16 s = cond (is_sound utf16 s) whole (cond utf16 unpaired (replaced (bad_count (steps_of utf16 s))))

-- the number of a state (docs/FORMAT.md): 0 whole, 1 replaced characters, 2 bad UTF-16, 3 cut or outside; and how many characters were replaced
abbrev pub state_number : Damage → ℕ
state_number whole = 0
state_number (replaced n) = 1
state_number unpaired = 2
state_number cut = 3

abbrev pub replaced_count : Damage → ℕ
replaced_count whole = 0
replaced_count (replaced n) = n
replaced_count unpaired = 0
replaced_count cut = 0

unfoldable pub eq_bytes : List ℕ → List ℕ → Bool
eq_bytes [] [] = true
eq_bytes [] (y ∷ ys) = false
eq_bytes (x ∷ xs) [] = false
eq_bytes (x ∷ xs) (y ∷ ys) = eqb x y && eq_bytes xs ys
