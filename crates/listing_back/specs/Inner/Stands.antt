-- How the structs of the code stand for the data of the definitions.
--
--   IsFigure   a number that was taken; one over 32 bits is told as 2 ^ 32
--   Holds      what a form has taken so far: the first number is told, the others are words of the table from the place i on, where no number is over
--   MovesOn    a byte of a form more, whatever was taken before
--   form_at     the form with this number
use Rattle.std.specs.Prelude.{ℕ, ◌+◌, ◌≤◌, min, ◌≡◌, false, Option, Some, None, IfSome, List, [], length, drop, get_or}
use Rattle.digits.specs.Written.{written}
use Rattle.listing_back.specs.Forms.{Number, nothing, number, Front, lost, front, next, forms}
use Rattle.listing_back.specs.Due.{any_over}
use Rattle.listing_back.specs.declared.taking.Figure.{Figure}
use Rattle.listing_back.specs.declared.taking.Taking.{Taking}

pub record FigureAt (text : List ℕ) (r : Figure) (v : ℕ) (s : List ℕ) : Type 0 where
  pub value : r.value ≡ min v 4294967296
  pub rest : s ≡ drop r.end text
  pub inside : r.end ≤ length text

abbrev pub IsFigure : List ℕ → Option Figure → Number → Type 0
IsFigure text None nothing = Unit {0}
IsFigure text None (number v s) = ⊥
IsFigure text (Some r) nothing = ⊥
IsFigure text (Some r) (number v s) = FigureAt text r v s

pub record HoldsFront (text : List ℕ) (i : ℕ) (before now : List ℕ) (f : Taking) (ns s : List ℕ) : Type 0 where
  pub over : f.over ≡ any_over ns
  pub first : f.first ≡ min (get_or ns 0 0) 4294967296
  pub count : f.count ≡ length ns
  pub rest : s ≡ drop f.at text
  pub inside : f.at ≤ length text
  pub words : any_over ns ≡ false → now ≡ written i (drop 1 ns) before
  pub same : length now ≡ length before

-- of what is lost the table's length alone is known
abbrev pub Holds : List ℕ → ℕ → List ℕ → List ℕ → Option Taking → Front → Type 0
Holds text i before now None lost = length now ≡ length before
Holds text i before now None (front ns s) = ⊥
Holds text i before now (Some f) lost = ⊥
Holds text i before now (Some f) (front ns s) = HoldsFront text i before now f ns s

pub record MovesOn (text : List ℕ) (i c : ℕ) (now : List ℕ) (f : Taking) (r : Option Taking) (now' : List ℕ) : Type 0 where
  pub holds : (before ns s : List ℕ) → HoldsFront text i before now f ns s → Holds text i before now' r (next c (front ns s))
  pub few : IfSome r (λ t. t.count ≤ f.count + 1)
  pub same : length now' ≡ length now

unfoldable pub form_at : ℕ → List ℕ
form_at n = get_or forms n []
