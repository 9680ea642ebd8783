-- What the entry checks refuse with, for every law about refusals: docs/FORMAT.md, B3, B4. No contract cites this file.
--
--   Under         S of the refusal, where a check fails; first_under: of the first that fails, where it is so of all
--   length-under, cap-under, mode-under   of each check, where it is so of its refusal
--   entry-under   of all of them, of a reading or a question
use Rattle.std.specs.Prelude.{Result, Ok, Err}
use Prim.Native.Nat.{ℕ}
use mathlib.Core.List.{List, [], ◌∷◌}
use lib.ListN.{length}
use lib.Dec.{ltb}
use Rattle.errors.specs.declared.Refusal.{Refusal}
use Rattle.errors.specs.declared.Refusal.TheVariants.{TooLargeError, NotesOff, SystemNamesError, ModeError}
use Rattle.records.specs.Limits.{file_limit}
use Rattle.system_types.specs.Names.{Lent, names_of}
use Rattle.head.specs.declared.Asker.{Asker}
use Rattle.head.specs.Entry.{Check, passes, fails, first_of, length_check, keeps_none, cap_check, names_check_by, mode_of, is_mode, mode_check, entry_checks}
use Rattle.head.specs.Inner.Entered.{terms_of}
use Rattle.xml_elements.proofs.Laws.{cond-by}

module _ (S : Refusal → Type 0) where
  abbrev pub Under : Check → Type 0
  Under passes = Unit {0}
  Under (fails x) = S x

  abbrev pub AllUnder : List Check → Type 0
  AllUnder [] = Unit {0}
  AllUnder (c ∷ cs) = Under c × AllUnder cs

  pub first_under : (cs : List Check) → AllUnder cs → Under (first_of cs)
  first_under [] p = tt
  first_under (passes ∷ cs) p = first_under cs p.1
  first_under (fails x ∷ cs) p = p.0

  pub length-under : (f : List ℕ) → S TooLargeError → Under (length_check f)
  unfolding length_check
  length-under f s = cond-by Under (ltb file_limit (length f)) (λ e. s) (λ e. tt)

  pub cap-under : (a : Asker) → S NotesOff → Under (cap_check a)
  cap-under a s = cond-by Under (keeps_none a) (λ e. s) (λ e. tt)

  pub mode-under : (a : Asker) → S (ModeError (mode_of a)) → Under (mode_check a)
  mode-under a s = cond-by Under (is_mode (mode_of a)) (λ e. tt) (λ e. s)

  names-under : (n : Result (Unit {0}) ℕ) → ((k : ℕ) → S (SystemNamesError k)) → Under (names_check_by n)
  names-under (Ok tt) s = tt
  names-under (Err k) s = s k

  pub entry-under : (f : List ℕ) (lent : Lent) (a : Asker) → S TooLargeError → S NotesOff → ((k : ℕ) → S (SystemNamesError k)) → S (ModeError (mode_of a))
      → Under (first_of (entry_checks f lent (terms_of a)))
  entry-under f lent a size cap names mode =
      first_under (entry_checks f lent (terms_of a))
      (length-under f size, (cap-under a cap, (names-under (names_of lent) names, (mode-under a mode, (tt, tt)))))
