-- What is told of a text that came in, and what is printed of it: docs/FORMAT.md, L10.
--
--   note_in      the note whose words stand at the front; notes_from the first n notes of words
--   IsListing   the text says something; what was printed is the text of what it says, and so the text that came in
--   Judges      what `judge` promises in tables of so many words: how long the listing is, which then stands at the front of the buffer, or the number
--               and the value of the reader's own refusal
--   RelistsOut  what `relist` promises of a writer whose bytes are known: of a text that says something that text is what the writer has more
--   RelistsAll  what `run` promises of a reader whose bytes are known and fewer than its room: the same of all that the reader had
use Rattle.std.specs.Io.KnownBytes.{Appends}
use Rattle.std.specs.declared.option.Option.{Option}
use Rattle.std.specs.Prelude.{ℕ, zero, suc, ◌≤◌, ◌<◌, ◌≡◌, List, [], ◌∷◌, length, take, drop, get_or, Result, Ok, Err, IfSome}
use Rattle.anomaly.specs.declared.Note.{Note}
use Rattle.records.specs.Words.{note_width, note_kind, note_a, note_b}
use Rattle.listing_back.specs.Back.{Words, Relisting, fault, found, relisting, relist_text}
use Rattle.relist.specs.declared.Fault.{Fault}

abbrev pub note_in : List ℕ → Note
note_in w = record { kind = get_or w note_kind 0; a = get_or w note_a 0; b = get_or w note_b 0 }

unfoldable pub notes_from : ℕ → List ℕ → List Note
notes_from zero w = []
notes_from (suc n) w = note_in w ∷ notes_from n (drop note_width w)

pub record IsListing (text : List ℕ) (w : Words) (printed : List ℕ) : Type 0 where
  pub said : Relisting
  pub says : relisting w text ≡ found said
  pub prints : printed ≡ relist_text said
  pub same : printed ≡ text

abbrev pub Judges : List ℕ → ℕ → ℕ → ℕ → Result ℕ Fault → List ℕ → Type 0
Judges text ns ats os (Ok k) out = IsListing text (record { nodes = ns; attributes = ats; notes = os }) (take k out) × (k ≤ length out)
Judges text ns ats os (Err x) out = relisting (record { nodes = ns; attributes = ats; notes = os }) text ≡ fault x.number x.value

-- the text, the words of the three tables; what the writer held before and holds afterwards
unfoldable pub RelistsOut : List ℕ → ℕ → ℕ → ℕ → Option (List ℕ) → Option (List ℕ) → Type 0
RelistsOut text ns ats os before after =
    (said : Relisting) → relisting (record { nodes = ns; attributes = ats; notes = os }) text ≡ found said → Appends before after text

-- what the reader had left, and the bytes of the room
abbrev pub RelistsAll : Option (List ℕ) → ℕ → ℕ → ℕ → ℕ → Option (List ℕ) → Option (List ℕ) → Type 0
RelistsAll known room ns ats os before after = IfSome known (λ text. length text < room → RelistsOut text ns ats os before after)
