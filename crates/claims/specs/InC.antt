-- What the C interface leaves, for its claims: notes as words, answers as structs of numbers. docs/FORMAT.md, B1, B6 to B8, B12, P3.
--
--   LeftInC                  what a call of `axml_read` left: its answer and the words of the three tables
--   with_notes_in_c             the same in tables of other lengths, with these notes and no other: all that it kept, word for word
--   RefusedInC, DoneInC      zeros where it refused, and behind the records that it counts; TextDoneInC of `axml_text` and its buffer
use Rattle.std.specs.Prelude.{ℕ, ◌-◌, ◌*◌, ◌≡◌, List, ◌++◌, map, length, take, replicate}
use Rattle.anomaly.specs.Note.{note_of}
use Rattle.anomaly.specs.declared.ResAnomaly.{ResAnomaly}
use Rattle.records.specs.Words.{node_width, attribute_width, note_width}
use Rattle.c_api.specs.Words.{words_of}
use Rattle.c_api.specs.declared.AxmlAnswer.{AxmlAnswer}
use Rattle.c_api.specs.declared.AxmlTextAnswer.{AxmlTextAnswer}
use Rattle.c_api.specs.declared.AxmlFirstAnswer.{AxmlFirstAnswer}
use Rattle.claims.specs.Cleared.{ZeroBehind}

-- ---- insertion

pub record LeftInC : Type 0 where
  pub answer : AxmlAnswer
  pub nodes : List ℕ
  pub attributes : List ℕ
  pub notes : List ℕ

abbrev pub left_in_c : AxmlAnswer → List ℕ → List ℕ → List ℕ → LeftInC
left_in_c a nodes attributes notes = record { answer = a; nodes = nodes; attributes = attributes; notes = notes }

-- n, m and k are the lengths of the tables
abbrev pub with_notes_in_c : ℕ → ℕ → ℕ → LeftInC → List ResAnomaly → LeftInC
with_notes_in_c n m k s ns =
    let a = s.answer in record {
      answer = record { refusal = 0; value = 0; starts = a.starts; nodes = a.nodes; attributes = a.attributes; notes = length ns };
      nodes = take (node_width * a.nodes) s.nodes ++ replicate (n - node_width * a.nodes) 0;
      attributes = take (attribute_width * a.attributes) s.attributes ++ replicate (m - attribute_width * a.attributes) 0;
      notes = words_of (map note_of ns) ++ replicate (k - note_width * length ns) 0;
    }

-- ---- zeros

pub record RefusedInC (a : AxmlAnswer) (ns ats ws ns' ats' ws' : List ℕ) : Type 0 where
  pub starts : ◌≡◌ {A = ℕ} a.starts 0
  pub nodes : ◌≡◌ {A = ℕ} a.nodes 0
  pub attributes : ◌≡◌ {A = ℕ} a.attributes 0
  pub notes : ◌≡◌ {A = ℕ} a.notes 0
  pub node_words : ns' ≡ replicate (length ns) 0
  pub attribute_words : ats' ≡ replicate (length ats) 0
  pub note_words : ws' ≡ replicate (length ws) 0

pub record DoneInC (a : AxmlAnswer) (ns ats ws ns' ats' ws' : List ℕ) : Type 0 where
  pub value : ◌≡◌ {A = ℕ} a.value 0
  pub node_words : ZeroBehind 0 (node_width * a.nodes) ns ns'
  pub attribute_words : ZeroBehind 0 (attribute_width * a.attributes) ats ats'
  pub note_words : ZeroBehind 0 (note_width * a.notes) ws ws'

pub record TextRefusedInC (a : AxmlTextAnswer) (before after : List ℕ) : Type 0 where
  pub long : ◌≡◌ {A = ℕ} a.length 0
  pub state : ◌≡◌ {A = ℕ} a.state 0
  pub replaced : ◌≡◌ {A = ℕ} a.replaced 0
  pub buffer : after ≡ replicate (length before) 0

pub record TextDoneInC (a : AxmlTextAnswer) (before after : List ℕ) : Type 0 where
  pub value : ◌≡◌ {A = ℕ} a.value 0
  pub buffer : ZeroBehind 0 a.length before after

pub record FirstRefusedInC (a : AxmlFirstAnswer) : Type 0 where
  pub kind : ◌≡◌ {A = ℕ} a.kind 0
  pub value : ◌≡◌ {A = ℕ} a.«data» 0
  pub reference : ◌≡◌ {A = ℕ} a.reference 0
