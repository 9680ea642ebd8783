-- Zeros in lent memory: docs/FORMAT.md, B7, B8.
--
--   ZeroBehind      of a lent list, as long as before: behind its first k entries, which are there, zeros alone
--   RefusedZero     a refused reading: each count is 0, and the three tables hold zeros over their whole length
--   DoneZero        a successful one: refusal and value are 0, and behind the records that it counts stand zeros
--   TextRefusedZero, TextDoneZero   the same of the text question and its buffer
use Rattle.std.specs.Prelude.{ℕ, ◌-◌, ◌*◌, ◌≤◌, ◌≡◌, List}
use lib.ListN.{length, drop, replicate}
use Rattle.anomaly.specs.declared.Note.{Note}
use Rattle.errors.specs.declared.Numbers.{Numbers}
use Rattle.errors.specs.declared.TextNumbers.{TextNumbers}
use Rattle.records.specs.Words.{node_width, attribute_width}
use Rattle.walk.specs.Reading.{zero_note}

pub record ZeroBehind {A : Type 0} (z : A) (k : ℕ) (l l' : List A) : Type 0 where
  pub long : length l' ≡ length l
  pub there : k ≤ length l
  pub zeros : drop k l' ≡ replicate (length l - k) z

pub record RefusedZero (x : Numbers) (ns ats : List ℕ) (os : List Note) (ns' ats' : List ℕ) (os' : List Note) : Type 0 where
  pub starts : ◌≡◌ {A = ℕ} x.starts 0
  pub nodes : ◌≡◌ {A = ℕ} x.nodes 0
  pub attributes : ◌≡◌ {A = ℕ} x.attributes 0
  pub notes : ◌≡◌ {A = ℕ} x.notes 0
  pub node_words : ns' ≡ replicate (length ns) 0
  pub attribute_words : ats' ≡ replicate (length ats) 0
  pub note_records : os' ≡ replicate (length os) zero_note

pub record DoneZero (x : Numbers) (ns ats : List ℕ) (os : List Note) (ns' ats' : List ℕ) (os' : List Note) : Type 0 where
  pub refusal : ◌≡◌ {A = ℕ} x.refusal 0
  pub value : ◌≡◌ {A = ℕ} x.value 0
  pub node_words : ZeroBehind 0 (node_width * x.nodes) ns ns'
  pub attribute_words : ZeroBehind 0 (attribute_width * x.attributes) ats ats'
  pub note_records : ZeroBehind zero_note x.notes os os'

pub record TextRefusedZero (x : TextNumbers) (before after : List ℕ) : Type 0 where
  pub length : ◌≡◌ {A = ℕ} x.length 0
  pub state : ◌≡◌ {A = ℕ} x.state 0
  pub replaced : ◌≡◌ {A = ℕ} x.replaced 0
  pub buffer : after ≡ replicate (lib.ListN.length before) 0

pub record TextDoneZero (x : TextNumbers) (before after : List ℕ) : Type 0 where
  pub refusal : ◌≡◌ {A = ℕ} x.refusal 0
  pub value : ◌≡◌ {A = ℕ} x.value 0
  pub buffer : ZeroBehind 0 x.length before after
