-- Nothing is lost without a note: docs/FORMAT.md, P7, W25 to W29. Told by starts and ends alone, and not by what is open.
--
--   Mark         a start that was read whole, with its name index and its line, or an end, which counts too where its last 8 bytes are cut
--   marks_in      those of a file, in its order: the walk goes over what is behind the map
--   gets_end      a start gets its end, where these marks stand behind it: its end is the first up to which, behind the start, more ends than starts came
--   start_names   the name indices of the starts, in order; start_lines their lines
--   still_open    how many starts never get their end
--   behind_first  the marks behind the very first start
--   before_lost   how many starts stand before the first that never gets its end; all, where each gets it
--   kept_of       how many starts are kept: the very first, whether it gets its end or not, and behind it those before the first that never gets its end
--   EndsWith     a list whose last note is this
--   NothingLost  of every successful reading: node k is start k, and no start is dropped unless the last note is 12, with the number of starts that never
--                get their end; that is how many are open above the first, and one more where no end came while only the first was open
use Rattle.std.specs.Prelude.{ℕ, ◌+◌, ◌<◌, ◌≡◌, List, [], ◌∷◌, ◌++◌, Bool, true, false, cond, length, take, get_or, ltb}
use Rattle.anomaly.specs.Note.{made}
use Rattle.anomaly.specs.declared.Note.{Note}
use Rattle.errors.specs.declared.ReadCounts.{ReadCounts}
use Rattle.chunk.specs.Walk.{trace}
use Rattle.xml_elements.specs.declared.Chunk.{Chunk}
use Rattle.xml_elements.specs.declared.Chunk.TheVariants.{Start, End, Other, Last}
use Rattle.xml_elements.specs.declared.CutChunk.{CutChunk}
use Rattle.xml_elements.specs.declared.CutChunk.TheVariants.{CutLine, CutHead, CutGap, CutAttributes, CutTrailing, CutEnd, CutOther}
use Rattle.xml_elements.specs.declared.Turn.{Turn}
use Rattle.xml_elements.specs.declared.Turn.TheVariants.{Stop, Foreign, Met, Cut}
use Rattle.xml_elements.specs.Chunk.{turn_of, used_of}
use Rattle.head.specs.Head.{opened_of, body_in}
use Rattle.records.specs.Words.{node_name, node_line}
use Rattle.claims.specs.Shape.{node_word, Descends}

pub data Mark : Type 0 where
  start : ℕ → ℕ → Mark
  end : Mark

-- ---- the marks of a file

abbrev pub chunk_marks : Chunk → List Mark
chunk_marks (Start s) = start s.name.0 s.line ∷ []
chunk_marks End = end ∷ []
chunk_marks (Other n) = []
chunk_marks Last = []

abbrev pub cut_marks : CutChunk → List Mark
cut_marks CutLine = []
cut_marks CutHead = []
cut_marks (CutGap s) = []
cut_marks (CutAttributes s) = []
cut_marks (CutTrailing s) = []
cut_marks CutEnd = end ∷ []
cut_marks CutOther = []

abbrev pub turn_marks : Turn → List Mark
turn_marks Stop = []
turn_marks (Foreign k a n) = []
turn_marks (Met c) = chunk_marks c
turn_marks (Cut c) = cut_marks c

-- the walk needs no state for them
abbrev pub marks_of : List ℕ → List Mark
marks_of body = trace {S = Unit {0}} (λ l s. used_of (length l) (turn_of l)) (λ l s. turn_marks (turn_of l)) (λ l s. tt) (λ s. []) body tt

abbrev pub marks_in : List ℕ → List Mark
marks_in f = marks_of (body_in f (opened_of f).head)

-- ---- ends

-- whether an end comes up to which there are more ends than starts, where so many starts and ends came before
unfoldable pub comes_end : ℕ → ℕ → List Mark → Bool
comes_end starts ends [] = false
comes_end starts ends (start name line ∷ ms) = comes_end (starts + 1) ends ms
comes_end starts ends (end ∷ ms) = cond (ltb starts (ends + 1)) true (comes_end starts (ends + 1) ms)

abbrev pub gets_end : List Mark → Bool
gets_end ms = comes_end 0 0 ms

-- ---- starts

unfoldable pub start_names : List Mark → List ℕ
start_names [] = []
start_names (start name line ∷ ms) = name ∷ start_names ms
start_names (end ∷ ms) = start_names ms

unfoldable pub start_lines : List Mark → List ℕ
start_lines [] = []
start_lines (start name line ∷ ms) = line ∷ start_lines ms
start_lines (end ∷ ms) = start_lines ms

unfoldable pub still_open : List Mark → ℕ
still_open [] = 0
still_open (start name line ∷ ms) = cond (gets_end ms) 0 1 + still_open ms
still_open (end ∷ ms) = still_open ms

unfoldable pub behind_first : List Mark → List Mark
behind_first [] = []
behind_first (start name line ∷ ms) = ms
behind_first (end ∷ ms) = behind_first ms

unfoldable pub before_lost : List Mark → ℕ
before_lost [] = 0
before_lost (start name line ∷ ms) = cond (gets_end ms) (1 + before_lost ms) 0
before_lost (end ∷ ms) = before_lost ms

unfoldable pub kept_of : List Mark → ℕ
kept_of [] = 0
kept_of (start name line ∷ ms) = 1 + before_lost ms
kept_of (end ∷ ms) = kept_of ms

-- ---- a reading

pub record EndsWith (x : Note) (os : List Note) : Type 0 where
  pub before : List Note
  pub split : os ≡ before ++ (x ∷ [])

-- of a file with these marks
pub record NothingLost (ms : List Mark) (c : ReadCounts) (ns : List ℕ) (os : List Note) : Type 0 where
  pub starts : c.starts ≡ length (start_names ms)
  pub kept : c.nodes ≡ kept_of ms
  pub names : (k : ℕ) → k < c.nodes → node_word ns k node_name ≡ get_or (start_names ms) k 0
  pub lines : (k : ℕ) → k < c.nodes → node_word ns k node_line ≡ get_or (start_lines ms) k 0
  pub parents : Descends ns c.nodes
  pub noted : c.nodes < c.starts → EndsWith (made 12 (still_open ms) 0) (take c.notes os)
  pub number : still_open ms ≡ still_open (behind_first ms) + cond (gets_end (behind_first ms)) 0 1
