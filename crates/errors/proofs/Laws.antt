-- Laws of specs/Refusal.antt: equal numbers are equal answers (`-unique`), each by a function that leads back from the numbers (`-back`).
-- No contract cites this file.
use Rattle.std.specs.Prelude.{Result, Ok, Err}
use Prim.Native.Nat.{ℕ, ◌≤◌}
use native.Mathlib.Omega.{arith}
use mathlib.Core.Path.{◌≡◌, refl, sym, ◌∙◌, ap}
use mathlib.Core.Bool.{Bool, true, false, cond}
use lib.Dec.{eqb}
use Rattle.errors.specs.Refusal.{refusal_number, refusal_value, numbers_of, state_of, replaced_of, text_numbers_of, lines_numbers_of}
use Rattle.errors.specs.Refusal.{first_numbers_of, value_numbers_of, many_numbers_of, pair_numbers_of}
use Rattle.errors.specs.declared.Refusal.{Refusal}
use Rattle.errors.specs.declared.Refusal.TheVariants.{TooSmallError, TooLargeError, HeaderSizeError}
use Rattle.errors.specs.declared.Refusal.TheVariants.{MissingRoot, SystemNamesError, NodesFull}
use Rattle.errors.specs.declared.Refusal.TheVariants.{AttributesFull, NotesFull, TextShort, NothingFound, TablesError}
use Rattle.errors.specs.declared.Refusal.TheVariants.{ItemsError, NoPlainText, AnswersFull}
use Rattle.errors.specs.declared.Refusal.TheVariants.{ModeError, PairsError, ListingMalformed, ListingNumber, ListingOrder, NotesOff, ListFull}
use Rattle.errors.specs.declared.Refusal.TheVariants.{RoundUpFull}
use Rattle.errors.specs.declared.Refusal.TheVariants.{StringPoolGarbage, StringPoolHeader, StringPoolOffsets, StringPoolStyles}
use Rattle.errors.specs.declared.Refusal.TheVariants.{StringPoolData, ResourceMapHeader, ResourceMapIds}
use Rattle.errors.specs.declared.Numbers.{Numbers}
use Rattle.errors.specs.declared.TextState.{TextState}
use Rattle.errors.specs.declared.TextState.TheVariants.{Whole, Replaced, Unpaired, Cut}
use Rattle.errors.specs.declared.TextNumbers.{TextNumbers}
use Rattle.errors.specs.declared.LinesNumbers.{LinesNumbers}
use Rattle.errors.specs.declared.FirstNumbers.{FirstNumbers}
use Rattle.errors.specs.declared.ValueNumbers.{ValueNumbers}
use Rattle.errors.specs.declared.ManyNumbers.{ManyNumbers}
use Rattle.errors.specs.declared.PairNumbers.{PairNumbers}
use Rattle.errors.specs.declared.FirstValue.{FirstValue}
use Rattle.errors.specs.declared.ReadCounts.{ReadCounts}
use Rattle.errors.specs.declared.TextWritten.{TextWritten}
use Rattle.errors.specs.declared.TextsWritten.{TextsWritten}
use Rattle.errors.specs.declared.ValueWritten.{ValueWritten}

-- what leads back from its image tells two things apart
unique : {A B : Type 0} (f : A → B) (g : B → A) → ((c : A) → g (f c) ≡ c) → (a b : A) → f a ≡ f b → a ≡ b
unique f g back a b e = sym (back a) ∙ ap g e ∙ back b

-- ---- a refusal

-- the refusal of this number and value; any for a number that is none's
refusal_of : ℕ → ℕ → Refusal
refusal_of n v =
    cond (eqb n 1) (TooSmallError v) (
    cond (eqb n 2) TooLargeError (
    cond (eqb n 3) (HeaderSizeError v) (
    cond (eqb n 6) MissingRoot (
    cond (eqb n 7) (SystemNamesError v) (
    cond (eqb n 8) (NodesFull v) (
    cond (eqb n 9) (AttributesFull v) (
    cond (eqb n 10) (NotesFull v) (
    cond (eqb n 11) (TextShort v) (
    cond (eqb n 12) NothingFound (
    cond (eqb n 13) (TablesError v) (
    cond (eqb n 14) (ItemsError v) (
    cond (eqb n 15) (NoPlainText v) (
    cond (eqb n 16) (ModeError v) (
    cond (eqb n 20) (PairsError v) (
    cond (eqb n 21) (AnswersFull v) (
    cond (eqb n 24) (ListingMalformed v) (
    cond (eqb n 25) (ListingNumber v) (
    cond (eqb n 26) (ListingOrder v) (
    cond (eqb n 27) NotesOff (
    cond (eqb n 28) (ListFull v) (
    cond (eqb n 29) RoundUpFull (
    cond (eqb n 41) (StringPoolGarbage v) (
    cond (eqb n 42) (StringPoolHeader v) (
    cond (eqb n 43) (StringPoolOffsets v) (
    cond (eqb n 44) (StringPoolStyles v) (
    cond (eqb n 45) (StringPoolData v) (
    cond (eqb n 51) (ResourceMapHeader v) (ResourceMapIds v))))))))))))))))))))))))))))

refusal_of-back : (r : Refusal) → refusal_of (refusal_number r) (refusal_value r) ≡ r
unfolding refusal_number refusal_value refusal_of
refusal_of-back (TooSmallError v) = refl
refusal_of-back TooLargeError = refl
refusal_of-back (HeaderSizeError v) = refl
refusal_of-back MissingRoot = refl
refusal_of-back (SystemNamesError v) = refl
refusal_of-back (NodesFull v) = refl
refusal_of-back (AttributesFull v) = refl
refusal_of-back (NotesFull v) = refl
refusal_of-back (TextShort v) = refl
refusal_of-back NothingFound = refl
refusal_of-back (TablesError v) = refl
refusal_of-back (ItemsError v) = refl
refusal_of-back (NoPlainText v) = refl
refusal_of-back (ModeError v) = refl
refusal_of-back (PairsError v) = refl
refusal_of-back (AnswersFull v) = refl
refusal_of-back (ListingMalformed v) = refl
refusal_of-back (ListingNumber v) = refl
refusal_of-back (ListingOrder v) = refl
refusal_of-back NotesOff = refl
refusal_of-back (ListFull v) = refl
refusal_of-back RoundUpFull = refl
refusal_of-back (StringPoolGarbage v) = refl
refusal_of-back (StringPoolHeader v) = refl
refusal_of-back (StringPoolOffsets v) = refl
refusal_of-back (StringPoolStyles v) = refl
refusal_of-back (StringPoolData v) = refl
refusal_of-back (ResourceMapHeader v) = refl
refusal_of-back (ResourceMapIds v) = refl

-- number and value tell refusals apart
pub refusal_number-unique : (a b : Refusal) → refusal_number a ≡ refusal_number b → refusal_value a ≡ refusal_value b → a ≡ b
refusal_number-unique a b n v = sym (refusal_of-back a) ∙ rw (n, v) (refusal_of-back b)

-- no refusal has the number of a success
pub refusal_number-some : (r : Refusal) → eqb (refusal_number r) 0 ≡ false
unfolding refusal_number
refusal_number-some (TooSmallError v) = refl
refusal_number-some TooLargeError = refl
refusal_number-some (HeaderSizeError v) = refl
refusal_number-some MissingRoot = refl
refusal_number-some (SystemNamesError v) = refl
refusal_number-some (NodesFull v) = refl
refusal_number-some (AttributesFull v) = refl
refusal_number-some (NotesFull v) = refl
refusal_number-some (TextShort v) = refl
refusal_number-some NothingFound = refl
refusal_number-some (TablesError v) = refl
refusal_number-some (ItemsError v) = refl
refusal_number-some (NoPlainText v) = refl
refusal_number-some (ModeError v) = refl
refusal_number-some (PairsError v) = refl
refusal_number-some (AnswersFull v) = refl
refusal_number-some (ListingMalformed v) = refl
refusal_number-some (ListingNumber v) = refl
refusal_number-some (ListingOrder v) = refl
refusal_number-some NotesOff = refl
refusal_number-some (ListFull v) = refl
refusal_number-some RoundUpFull = refl
refusal_number-some (StringPoolGarbage v) = refl
refusal_number-some (StringPoolHeader v) = refl
refusal_number-some (StringPoolOffsets v) = refl
refusal_number-some (StringPoolStyles v) = refl
refusal_number-some (StringPoolData v) = refl
refusal_number-some (ResourceMapHeader v) = refl
refusal_number-some (ResourceMapIds v) = refl

-- no number is above 52
pub refusal_number-le : (r : Refusal) → refusal_number r ≤ 52
unfolding refusal_number
refusal_number-le (TooSmallError v) = omega arith
refusal_number-le TooLargeError = omega arith
refusal_number-le (HeaderSizeError v) = omega arith
refusal_number-le MissingRoot = omega arith
refusal_number-le (SystemNamesError v) = omega arith
refusal_number-le (NodesFull v) = omega arith
refusal_number-le (AttributesFull v) = omega arith
refusal_number-le (NotesFull v) = omega arith
refusal_number-le (TextShort v) = omega arith
refusal_number-le NothingFound = omega arith
refusal_number-le (TablesError v) = omega arith
refusal_number-le (ItemsError v) = omega arith
refusal_number-le (NoPlainText v) = omega arith
refusal_number-le (ModeError v) = omega arith
refusal_number-le (PairsError v) = omega arith
refusal_number-le (AnswersFull v) = omega arith
refusal_number-le (ListingMalformed v) = omega arith
refusal_number-le (ListingNumber v) = omega arith
refusal_number-le (ListingOrder v) = omega arith
refusal_number-le NotesOff = omega arith
refusal_number-le (ListFull v) = omega arith
refusal_number-le RoundUpFull = omega arith
refusal_number-le (StringPoolGarbage v) = omega arith
refusal_number-le (StringPoolHeader v) = omega arith
refusal_number-le (StringPoolOffsets v) = omega arith
refusal_number-le (StringPoolStyles v) = omega arith
refusal_number-le (StringPoolData v) = omega arith
refusal_number-le (ResourceMapHeader v) = omega arith
refusal_number-le (ResourceMapIds v) = omega arith

-- ---- a reading

answer_of : Numbers → Result ReadCounts Refusal
answer_of n =
    cond (eqb n.refusal 0) (Ok (record { starts = n.starts; nodes = n.nodes; attributes = n.attributes; notes = n.notes }))
    (Err (refusal_of n.refusal n.value))

answer_of-back : (a : Result ReadCounts Refusal) → answer_of (numbers_of a) ≡ a
unfolding answer_of numbers_of
answer_of-back (Ok c) = refl
answer_of-back (Err r) = rw (refusal_number-some r) (ap Err (refusal_of-back r))

pub numbers_of-unique : (a b : Result ReadCounts Refusal) → numbers_of a ≡ numbers_of b → a ≡ b
numbers_of-unique = unique numbers_of answer_of answer_of-back

-- ---- a text

-- the state of this number and count
state_by : ℕ → ℕ → TextState
state_by k n = cond (eqb k 0) Whole (cond (eqb k 1) (Replaced n) (cond (eqb k 2) Unpaired Cut))

state_by-back : (s : TextState) → state_by (state_of s) (replaced_of s) ≡ s
unfolding state_by
state_by-back Whole = refl
state_by-back (Replaced n) = refl
state_by-back Unpaired = refl
state_by-back Cut = refl

text_of : TextNumbers → Result TextWritten Refusal
text_of n = cond (eqb n.refusal 0) (Ok (record { length = n.length; state = (state_by n.state n.replaced) })) (Err (refusal_of n.refusal n.value))

text_of-back : (a : Result TextWritten Refusal) → text_of (text_numbers_of a) ≡ a
unfolding text_of text_numbers_of
text_of-back (Ok w) = rw (state_by-back w.state)
text_of-back (Err r) = rw (refusal_number-some r) (ap Err (refusal_of-back r))

pub text_numbers_of-unique : (a b : Result TextWritten Refusal) → text_numbers_of a ≡ text_numbers_of b → a ≡ b
text_numbers_of-unique = unique text_numbers_of text_of text_of-back

-- ---- what was printed

lines_of : LinesNumbers → Result ℕ Refusal
lines_of n = cond (eqb n.refusal 0) (Ok n.length) (Err (refusal_of n.refusal n.value))

lines_of-back : (a : Result ℕ Refusal) → lines_of (lines_numbers_of a) ≡ a
unfolding lines_of lines_numbers_of
lines_of-back (Ok n) = refl
lines_of-back (Err r) = rw (refusal_number-some r) (ap Err (refusal_of-back r))

pub lines_numbers_of-unique : (a b : Result ℕ Refusal) → lines_numbers_of a ≡ lines_numbers_of b → a ≡ b
lines_numbers_of-unique = unique lines_numbers_of lines_of lines_of-back

-- ---- a first value

first_of : FirstNumbers → Result FirstValue Refusal
first_of n =
    cond (eqb n.refusal 0) (Ok (record { kind = n.kind; «data» = n.«data»; reference = (eqb n.reference 1) })) (Err (refusal_of n.refusal n.value))

flag-back : (b : Bool) → eqb (cond b 1 0) 1 ≡ b
flag-back true = refl
flag-back false = refl

first_of-back : (a : Result FirstValue Refusal) → first_of (first_numbers_of a) ≡ a
unfolding first_of first_numbers_of
first_of-back (Ok w) = rw (flag-back w.reference)
first_of-back (Err r) = rw (refusal_number-some r) (ap Err (refusal_of-back r))

pub first_numbers_of-unique : (a b : Result FirstValue Refusal) → first_numbers_of a ≡ first_numbers_of b → a ≡ b
first_numbers_of-unique = unique first_numbers_of first_of first_of-back

-- ---- a value text

value_text_of : ValueNumbers → Result ValueWritten Refusal
value_text_of n =
    cond (eqb n.refusal 0) (Ok (record { length = n.length; uncovered = n.uncovered; state = (state_by n.state n.replaced) }))
    (Err (refusal_of n.refusal n.value))

value_text_of-back : (a : Result ValueWritten Refusal) → value_text_of (value_numbers_of a) ≡ a
unfolding value_text_of value_numbers_of
value_text_of-back (Ok w) = rw (state_by-back w.state)
value_text_of-back (Err r) = rw (refusal_number-some r) (ap Err (refusal_of-back r))

pub value_numbers_of-unique : (a b : Result ValueWritten Refusal) → value_numbers_of a ≡ value_numbers_of b → a ≡ b
value_numbers_of-unique = unique value_numbers_of value_text_of value_text_of-back

-- ---- many texts

many_of : ManyNumbers → Result TextsWritten Refusal
many_of n = cond (eqb n.refusal 0) (Ok (record { count = n.count; length = n.length })) (Err (refusal_of n.refusal n.value))

many_of-back : (a : Result TextsWritten Refusal) → many_of (many_numbers_of a) ≡ a
unfolding many_of many_numbers_of
many_of-back (Ok w) = refl
many_of-back (Err r) = rw (refusal_number-some r) (ap Err (refusal_of-back r))

pub many_numbers_of-unique : (a b : Result TextsWritten Refusal) → many_numbers_of a ≡ many_numbers_of b → a ≡ b
many_numbers_of-unique = unique many_numbers_of many_of many_of-back

-- ---- many pairs

pairs_of : PairNumbers → Result ℕ Refusal
pairs_of n = cond (eqb n.refusal 0) (Ok n.count) (Err (refusal_of n.refusal n.value))

pairs_of-back : (a : Result ℕ Refusal) → pairs_of (pair_numbers_of a) ≡ a
unfolding pairs_of pair_numbers_of
pairs_of-back (Ok n) = refl
pairs_of-back (Err r) = rw (refusal_number-some r) (ap Err (refusal_of-back r))

pub pair_numbers_of-unique : (a b : Result ℕ Refusal) → pair_numbers_of a ≡ pair_numbers_of b → a ≡ b
pair_numbers_of-unique = unique pair_numbers_of pairs_of pairs_of-back
