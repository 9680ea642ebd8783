-- What the code is told of one step, of a run of them, of a block of bytes, and of a step in each of two texts. Only the contracts of inner
-- functions and of `next_of` cite this file.
--
--   Took       the step at a place inside: its value, how far it goes, whether it is sound
--   Ran        each step between two places is sound
--   Halted     each step between two places is sound, and the one at the second is bad if that lies before an end
--   IsInner    a byte that stands behind the first byte of a sequence of UTF-8: 80 to BF
--   SecondFits a second byte in the range of its first byte's row of Table 3-7
--   Placed     five bytes: the first begins a sound step of UTF-8, and behind it no byte 80 to BF stands; or the first is such a byte itself
--   NextChar   the first place from a place on that holds no byte 80 to BF
--   is_basic    no unit of UTF-16 is a surrogate, which its second byte tells: D8 to DF; a byte alone at the end is not looked at
--   is_single   each step is a single unit: in UTF-8 ASCII, and in UTF-16 no surrogate
--   ascii_units each unit of UTF-16 is ASCII, its low byte below 80 hexadecimal and its high byte 0, and no byte stands alone at the end
--   low_bytes   the low bytes of the units; is_ascii_text: ASCII in either encoding
--   Paired     the steps at two places stand for the same, and the texts from the places after them on decide the rest
use Rattle.std.specs.Prelude.{◌≡◌, ℕ, ◌/◌, ◌≤◌, ◌<◌, Bool, true, false, not, ◌&&◌, List, [], ◌∷◌, eqb, ltb, drop, get_or}
use Rattle.utf.specs.Text.{step_of, step_value, width_of, sound_of, steps_of, bytes_of, all_sound, eq_bytes}
use Rattle.utf.specs.Plain.{is_ascii}
use Rattle.utf.specs.Inner.Lead.{lead_of, step_by}

pub record Took (utf16 : Bool) (s : List ℕ) (at value width : ℕ) (sound : Bool) : Type 0 where
  pub value-is : value ≡ step_value (step_of utf16 (drop at s))
  pub width_is : width ≡ width_of (step_of utf16 (drop at s))
  pub sound-is : sound ≡ sound_of (step_of utf16 (drop at s))
  pub small : value < 0x110000
  pub least : 1 ≤ width
  pub most : width ≤ 4

pub record Ran (utf16 : Bool) (s : List ℕ) (at to : ℕ) : Type 0 where
  pub later : at ≤ to
  pub rest : all_sound (steps_of utf16 (drop to s)) ≡ all_sound (steps_of utf16 (drop at s))

pub record Halted (utf16 : Bool) (s : List ℕ) (at end to : ℕ) : Type 0 where
  pub ran : Ran utf16 s at to
  pub halts : to < end → all_sound (steps_of utf16 (drop to s)) ≡ false

abbrev pub IsInner : ℕ → Type 0
IsInner b = (0x80 ≤ b) × (b ≤ 0xbf)

pub record SecondFits (b c : ℕ) : Type 0 where
  pub inner : IsInner c
  pub after-e0 : b ≡ 0xe0 → 0xa0 ≤ c
  pub after-ed : b ≡ 0xed → c ≤ 0x9f
  pub after-f0 : b ≡ 0xf0 → 0x90 ≤ c
  pub after-f4 : b ≡ 0xf4 → c ≤ 0x8f

pub record Placed (b c d e f : ℕ) : Type 0 where
  pub sound : (IsInner b → ⊥) → sound_of (step_by (lead_of b) b c d e) ≡ true
  pub one : (IsInner b → ⊥) → width_of (step_by (lead_of b) b c d e) ≡ 1 → IsInner c → ⊥
  pub two : (IsInner b → ⊥) → width_of (step_by (lead_of b) b c d e) ≡ 2 → IsInner d → ⊥
  pub three : (IsInner b → ⊥) → width_of (step_by (lead_of b) b c d e) ≡ 3 → IsInner e → ⊥
  pub four : (IsInner b → ⊥) → width_of (step_by (lead_of b) b c d e) ≡ 4 → IsInner f → ⊥

pub record NextChar (s : List ℕ) (at to : ℕ) : Type 0 where
  pub later : at ≤ to
  pub inner : (k : ℕ) → at ≤ k → k < to → IsInner (get_or s k 0)
  pub stop : IsInner (get_or s to 0) → ⊥

-- from the first byte of a unit on, or from its second
unfoldable pub basic_from : Bool → List ℕ → Bool
basic_from second [] = true
basic_from false (a ∷ s) = basic_from true s
basic_from true (b ∷ s) = not (eqb (b / 8) 27) && basic_from false s

abbrev pub is_basic : List ℕ → Bool
is_basic s = basic_from false s

abbrev pub is_single : Bool → List ℕ → Bool
is_single true s = is_basic s
is_single false s = is_ascii s

unfoldable pub ascii_units : List ℕ → Bool
ascii_units [] = true
ascii_units (a ∷ []) = false
ascii_units (a ∷ b ∷ s) = (ltb a 0x80 && ltb b 1) && ascii_units s

unfoldable pub low_bytes : List ℕ → List ℕ
low_bytes [] = []
low_bytes (a ∷ []) = []
low_bytes (a ∷ b ∷ s) = a ∷ low_bytes s

abbrev pub is_ascii_text : Bool → List ℕ → Bool
is_ascii_text true s = ascii_units s
is_ascii_text false s = is_ascii s

pub record Paired (wa : Bool) (a : List ℕ) (i : ℕ) (wb : Bool) (b : List ℕ) (j : ℕ) (i' j' : ℕ) : Type 0 where
  pub bytes : eq_bytes (bytes_of (steps_of wa (drop i a))) (bytes_of (steps_of wb (drop j b)))
      ≡ eq_bytes (bytes_of (steps_of wa (drop i' a))) (bytes_of (steps_of wb (drop j' b)))
  pub later : i < i'
