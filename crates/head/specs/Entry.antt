-- What is looked at before the bytes of a file, the same list for every entry point: docs/FORMAT.md, B2.
--
--   Terms        what an entry point is asked with beside the file and the names: question, reading_at, value_with
--   Check        a check passes, or fails with its refusal; first_of the first that fails
--   entry_checks  THE LIST of the checks, in order: 2 the file's length, 27 the cap, 7 the lent names, 16 the mode, 14 the items
--
-- What the file's own bytes refuse comes behind them: for `read` in file order among the notes (events/specs/Events.antt), for the
-- questions at once (specs/Ask.antt). Laws: proofs/Entering.antt.
use Rattle.std.specs.Prelude.{ℕ, List, [], ◌∷◌, Bool, false, cond, ◌||◌, length, ltb, eqb, Result, Ok, Err}
use Rattle.records.specs.Limits.{file_limit}
use Rattle.records.specs.Words.{merged, apart}
use Rattle.errors.specs.declared.Refusal.{Refusal}
use Rattle.errors.specs.declared.Refusal.TheVariants.{TooLargeError, SystemNamesError, ItemsError, NotesOff, ModeError}
use Rattle.system_types.specs.Names.{Lent, names_of}
use Rattle.items.specs.Items.{table_of}
use Rattle.head.specs.declared.Asker.{Asker}
use Rattle.head.specs.declared.Asker.TheVariants.{Question, Reading}

-- ---- what an entry point is asked with

-- the words of the lent items and their area, where it takes any
pub data Items : Type 0 where
  no_items : Items
  lent_items : List ℕ → List ℕ → Items

-- a reading has its cap and its mode, and a question none
pub record Terms : Type 0 where
  pub asker : Asker
  pub items : Items

-- text, content and first value
abbrev pub question : Terms
question = record { asker = Question; items = no_items }

abbrev pub reading_at : ℕ → ℕ → Terms
reading_at cap mode = record { asker = Reading cap mode; items = no_items }

-- the text of a value
abbrev pub value_with : List ℕ → List ℕ → Terms
value_with items area = record { asker = Question; items = lent_items items area }

-- ---- a check

pub data Check : Type 0 where
  passes : Check
  fails : Refusal → Check

-- the first that fails
abbrev pub first_of : List Check → Check
first_of [] = passes
first_of (passes ∷ cs) = first_of cs
first_of (fails r ∷ cs) = fails r

-- ---- the checks, each by itself

unfoldable pub length_check : List ℕ → Check
length_check f = cond (ltb file_limit (length f)) (fails TooLargeError) passes

-- a reading with a cap of 0
abbrev pub keeps_none : Asker → Bool
keeps_none Question = false
keeps_none (Reading cap mode) = eqb cap 0

abbrev pub cap_check : Asker → Check
cap_check a = cond (keeps_none a) (fails NotesOff) passes

abbrev pub names_check_by : Result (Unit {0}) ℕ → Check
names_check_by (Ok tt) = passes
names_check_by (Err k) = fails (SystemNamesError k)

abbrev pub names_check : Lent → Check
names_check lent = names_check_by (names_of lent)

-- a question reads in the first mode
abbrev pub mode_of : Asker → ℕ
mode_of Question = merged
mode_of (Reading cap mode) = mode

abbrev pub is_mode : ℕ → Bool
is_mode m = eqb m merged || eqb m apart

abbrev pub mode_check : Asker → Check
mode_check a = cond (is_mode (mode_of a)) passes (fails (ModeError (mode_of a)))

abbrev pub items_check_by : Result (Unit {0}) ℕ → Check
items_check_by (Ok tt) = passes
items_check_by (Err k) = fails (ItemsError k)

abbrev pub items_check : Items → Check
items_check no_items = passes
items_check (lent_items items area) = items_check_by (table_of area items)

-- ---- all of them, a line a check

abbrev pub entry_checks : List ℕ → Lent → Terms → List Check
entry_checks f lent t =
    length_check f
    ∷ cap_check t.asker
    ∷ names_check lent
    ∷ mode_check t.asker
    ∷ items_check t.items
    ∷ []
