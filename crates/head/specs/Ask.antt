-- The text question and the content question: docs/FORMAT.md, B2, B7, B8, Q1 to Q3.
--
--   open_of        the head, or the first refusal: what every entry point checks (specs/Entry.antt), then the head's 1, 3, 41 to 45, 51, 52
--   state_told     what became of a text, as the answer tells it
--   text_answer    the answer of the text question; text_buffer what then stands in the lent buffer, whole
--   TextReads     the promise of the text question: the numbers of its answer and every byte of the buffer
--   content_answer the answer of the content question: empty on a refusal, for no text, and for a string cut or outside
--
-- An empty text is an answer of length 0, also where the buffer has no bytes. A refused answer tells no state, 11 neither. Laws: proofs/Questions.antt, proofs/Unique.antt.
use Rattle.std.specs.Prelude.{ℕ, ◌-◌, ◌≡◌, List, ◌++◌, cond, length, replicate, leb, Result, Ok, Err}
use Rattle.errors.specs.Refusal.{text_numbers_of}
use Rattle.errors.specs.declared.Refusal.TheVariants.{NothingFound, TextShort}
use Rattle.errors.specs.declared.TextState.{TextState}
use Rattle.errors.specs.declared.TextState.TheVariants as state_is
use Rattle.utf.specs.Text.{Damage, whole, replaced, unpaired, cut as cut_text}
use Rattle.system_types.specs.Names.{Lent}
use Rattle.text.specs.Content.{Content, none, cut, some, content_of, text_in, damage_in, raw_of}
use Rattle.head.specs.Head.{opened_of, head_is_whole, refusal_of, tables_in}
use Rattle.head.specs.Entry.{question, Check, passes, fails, first_of, entry_checks}
use Rattle.head.specs.declared.Opened.{Opened}
use Rattle.errors.specs.declared.Refusal.{Refusal}
use Rattle.errors.specs.declared.TextWritten.{TextWritten}
use Rattle.text.specs.declared.Head.{Head}

-- ---- the head, or the first refusal

-- of a file that the entry checks pass
abbrev pub head_read : Opened → Result Head Refusal
head_read o = cond (head_is_whole o.end) (Ok o.head) (Err (refusal_of o.end))

abbrev pub open_by : Opened → Check → Result Head Refusal
open_by o passes = head_read o
open_by o (fails r) = Err r

unfoldable pub open_of : List ℕ → Lent → Result Head Refusal
open_of f lent = open_by (opened_of f) (first_of (entry_checks f lent question))

-- ---- the text question

abbrev pub state_told : Damage → TextState
state_told whole = state_is.Whole
state_told (replaced n) = state_is.Replaced n
state_told unpaired = state_is.Unpaired
state_told cut_text = state_is.Cut

-- with room for n bytes
abbrev pub fitted : ℕ → List ℕ → TextState → Result TextWritten Refusal
fitted n text state = cond (leb (length text) n) (Ok (record { length = (length text); state = state })) (Err (TextShort (length text)))

abbrev pub text_by : ℕ → Content → Result TextWritten Refusal
text_by n none = Err NothingFound
text_by n cut = fitted n (text_in cut) (state_told (damage_in cut))
text_by n (some w s) = fitted n (text_in (some w s)) (state_told (damage_in (some w s)))

abbrev pub content_asked_by : List ℕ → Lent → ℕ → Result Head Refusal → Content
content_asked_by f lent i (Err r) = none
content_asked_by f lent i (Ok h) = content_of h (tables_in f h) lent i

abbrev pub content_asked : List ℕ → Lent → ℕ → Content
content_asked f lent i = content_asked_by f lent i (open_of f lent)

abbrev pub text_answer_by : ℕ → Content → Result Head Refusal → Result TextWritten Refusal
text_answer_by n c (Err r) = Err r
text_answer_by n c (Ok h) = text_by n c

unfoldable pub text_answer : List ℕ → Lent → ℕ → ℕ → Result TextWritten Refusal
text_answer f lent n i = text_answer_by n (content_asked f lent i) (open_of f lent)

-- the lent buffer of n bytes afterwards: the text and zeros, or zeros
abbrev pub buffer_by : ℕ → List ℕ → Result TextWritten Refusal → List ℕ
buffer_by n text (Err r) = replicate n 0
buffer_by n text (Ok w) = text ++ replicate (n - w.length) 0

unfoldable pub text_buffer : List ℕ → Lent → ℕ → ℕ → List ℕ
text_buffer f lent n i = buffer_by n (text_in (content_asked f lent i)) (text_answer f lent n i)

-- what the code returns and leaves behind, for an answer a
pub record Gives (n : ℕ) (text : List ℕ) (a r : Result TextWritten Refusal) (after : List ℕ) : Type 0 where
  pub same : r ≡ a
  pub out : after ≡ buffer_by n text a

-- the promise of the text question: the numbers of its answer, and the whole buffer
pub record TextReads (f : List ℕ) (lent : Lent) (before : List ℕ) (i : ℕ) (r : Result TextWritten Refusal) (after : List ℕ) : Type 0 where
  pub answer : text_numbers_of r ≡ text_numbers_of (text_answer f lent (length before) i)
  pub out : after ≡ text_buffer f lent (length before) i

-- ---- the content question

unfoldable pub content_answer : List ℕ → Lent → ℕ → List ℕ
content_answer f lent i = raw_of (content_asked f lent i)
