-- A text at the front of a lent buffer, where it fits; what stands behind it is anything. No claim reaches this file.
--
--   Leads     a text of n bytes, and the buffer with it at its front
--   told_of    what the code answers of a value
--   Tells     the answer of the code, and the text of the value at the front of the buffer
--   Gives     the answer of the question of an open file, and the whole buffer
--   behind_items   the head of a file whose entry checks pass, behind what the items say
use Rattle.std.specs.Prelude.{ℕ, ◌≤◌, ◌≡◌, List, length, take, Result, Ok, Err}
use Rattle.errors.specs.declared.Refusal.TheVariants.{ItemsError}
use Rattle.head.specs.Ask.{head_read}
use Rattle.head.specs.declared.Opened.{Opened}
use Rattle.value_text.specs.declared.Told.{Told}
use Rattle.value_text.specs.declared.Told.TheVariants.{Shown, NoName, NoText}
use Rattle.value_text.specs.Value.{Value, no_name, no_text, shows, shown, answer_by, buffer_by}
use Rattle.errors.specs.declared.Refusal.{Refusal}
use Rattle.errors.specs.declared.ValueWritten.{ValueWritten}
use Rattle.text.specs.declared.Head.{Head}

pub record Leads (s before : List ℕ) (n : ℕ) (after : List ℕ) : Type 0 where
  pub count : n ≡ length s
  pub long : length after ≡ length before
  pub front : length s ≤ length before → take (length s) after ≡ s

abbrev pub told_of : Value → Told
told_of no_name = NoName
told_of no_text = NoText
told_of (shows s u d) = Shown (length s) u d

pub record Tells (v : Value) (before : List ℕ) (r : Told) (after : List ℕ) : Type 0 where
  pub told : r ≡ told_of v
  pub long : length after ≡ length before
  pub front : length (shown v) ≤ length before → take (length (shown v)) after ≡ shown v

pub record Gives (n kind : ℕ) (v : Value) (r : Result ValueWritten Refusal) (after : List ℕ) : Type 0 where
  pub same : r ≡ answer_by n kind v
  pub out : after ≡ buffer_by n v

abbrev pub behind_items : Opened → Result (Unit {0}) ℕ → Result Head Refusal
behind_items o (Ok tt) = head_read o
behind_items o (Err k) = Err (ItemsError k)
