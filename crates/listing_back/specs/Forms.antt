-- The ten forms of a listing's lines, and taking a line apart by its form: docs/FORMAT.md, L7.
--
--   number_at_front  the number at the front of bytes and the bytes behind it: `0`, or digits of which the first is not 0. No number where a 0 stands
--              before another digit, or no digit stands there. It has any length
--   form_text   the form of a line: its text with every number left out, so that a number stands behind each `=`. The keys are those that the
--              printer prints (listing_text/specs/Listing.antt), and how many there are is said there alone
--   taken      the numbers of a line of this form at the front of bytes and the bytes behind its newline; lost where no such line stands there
--   forms      the ten forms: seven of the head, and those of a node, an attribute and a note
--
-- Laws: proofs/Digits.antt, proofs/Lines.antt. Computed: proofs/Samples.antt.
use Rattle.std.specs.Prelude.{ℕ, ◌+◌, ◌-◌, ◌*◌, Bool, cond, ◌&&◌, List, [], ◌∷◌, ◌++◌, drop, get_or, eqb, leb}
use Rattle.anomaly.specs.declared.Note.{Note}
use Rattle.errors.specs.declared.Numbers.{Numbers}
use Rattle.listing_text.specs.Listing.{Line, head_lines, node_line, attribute_line, note_line}

-- ---- a number

pub data Number : Type 0 where
  nothing : Number
  number : ℕ → List ℕ → Number

abbrev pub is_digit : ℕ → Bool
is_digit b = leb 48 b && leb b 57

-- the digits at the front behind the number v, and the bytes behind them; v where there is none
unfoldable pub digits_from : ℕ → List ℕ → Number
digits_from v [] = number v []
digits_from v (b ∷ s) = cond (is_digit b) (digits_from (v * 10 + (b - 48)) s) (number v (b ∷ s))

unfoldable pub number_at_front : List ℕ → Number
unfolding digits_from
number_at_front s =
    cond (eqb (get_or s 0 0) 48) (cond (is_digit (get_or s 1 0)) nothing (number 0 (drop 1 s)))
    (cond (is_digit (get_or s 0 0)) (digits_from 0 s) nothing)

-- ---- a line

unfoldable pub form_text : Line → List ℕ
form_text [] = 10 ∷ []
form_text (f ∷ []) = f.key ++ (61 ∷ 10 ∷ [])
form_text (f ∷ g ∷ fs) = f.key ++ (61 ∷ 32 ∷ form_text (g ∷ fs))

pub data Front : Type 0 where
  lost : Front
  front : List ℕ → List ℕ → Front

abbrev pub numbered : List ℕ → Number → Front
numbered ns nothing = lost
numbered ns (number v s) = front (ns ++ (v ∷ [])) s

-- a byte of a form held against the bytes at the front: it stands there too, and behind `=` a number does
abbrev pub next : ℕ → Front → Front
next c lost = lost
next c (front ns []) = lost
next c (front ns (b ∷ s)) = cond (eqb b c) (cond (eqb c 61) (numbered ns (number_at_front s)) (front ns s)) lost

unfoldable pub held : List ℕ → Front → Front
unfolding number_at_front
held [] f = f
held (c ∷ form) f = held form (next c f)

abbrev pub taken : List ℕ → List ℕ → Front
taken form s = held form (front [] s)

-- ---- the ten forms: whatever the numbers

abbrev pub any_numbers : Numbers
any_numbers = record { refusal = 0; value = 0; starts = 0; nodes = 0; attributes = 0; notes = 0 }

abbrev pub any_note : Note
any_note = record { kind = 0; a = 0; b = 0 }

abbrev pub node_form : List ℕ
node_form = form_text (node_line 0 [])

abbrev pub attribute_form : List ℕ
attribute_form = form_text (attribute_line 0 [])

abbrev pub note_form : List ℕ
note_form = form_text (note_line 0 any_note)

unfoldable pub forms_of : List Line → List (List ℕ)
unfolding form_text
forms_of [] = []
forms_of (l ∷ ls) = form_text l ∷ forms_of ls

abbrev pub forms : List (List ℕ)
forms = forms_of (head_lines 0 any_numbers) ++ (node_form ∷ attribute_form ∷ note_form ∷ [])
