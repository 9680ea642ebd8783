-- What `enter` gives: the head opened, or the refusal of the first check that fails. Not part of what a reader must believe.
use Rattle.std.specs.Prelude.{ℕ, List, Result, Ok, Err}
use Rattle.system_types.specs.Names.{Lent}
use Rattle.head.specs.Head.{opened_of}
use Rattle.head.specs.Entry.{Terms, no_items, Check, passes, fails, first_of, entry_checks}
use Rattle.head.specs.declared.Asker.{Asker}
use Rattle.head.specs.declared.Opened.{Opened}
use Rattle.errors.specs.declared.Refusal.{Refusal}

-- who asks without items
abbrev pub terms_of : Asker → Terms
terms_of a = record { asker = a; items = no_items }

abbrev pub entered_by : Opened → Check → Result Opened Refusal
entered_by o passes = Ok o
entered_by o (fails r) = Err r

unfoldable pub entered_of : List ℕ → Lent → Terms → Result Opened Refusal
entered_of f lent t = entered_by (opened_of f) (first_of (entry_checks f lent t))
