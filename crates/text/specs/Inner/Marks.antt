-- What the code is told of a string of the pool that it does not read whole. Only inner contracts and those of `marks_of` and
-- `same_as_known` cite this file.
--
--   Other     a content is a part of t in the encoding w, and its bytes are others than s: for a plain text s it is another text
--   string_in  the string at the place p of t, in data that ends at the place `end`
--   Heads     a string of n content bytes begins with a head of two bytes, as a number
--   Ends      what the marks of a part of t say of strings of its length
--   Chosen    marks of the part of n bytes at a place, for indices from `first` up to `count`; there may be none such
--   Marked    marks of what was found: an index that they can tell has no system name, and what was found is plain and of the pool
use Rattle.std.specs.Prelude.{ℕ, ◌+◌, ◌-◌, ◌*◌, ◌≤◌, ◌<◌, ◌≡◌, List, Bool, true, false, cond, length, take, drop, get_or, eqb}
use Rattle.utf.specs.Text.{eq_bytes}
use Rattle.res_string_pool.specs.Content.{split_of}
use Rattle.system_types.specs.Names.{Lent}
use Rattle.text.specs.declared.Head.{Head}
use Rattle.text.specs.declared.Found.{Found}
use Rattle.text.specs.declared.Found.TheVariants.{Pool}
use Rattle.text.specs.declared.Marks.{Marks}
use Rattle.text.specs.Content.{Content, none, some, system_of, split_by, plain_in}
use Rattle.text.specs.Inner.Found.{part_of}

pub record Other (w : Bool) (t : List ℕ) (c : Content) (s : List ℕ) : Type 0 where
  pub from : ℕ
  pub count : ℕ
  pub here : c ≡ some w (take count (drop from t))
  pub bytes : eq_bytes (take count (drop from t)) s ≡ false

abbrev pub string_in : Bool → List ℕ → ℕ → ℕ → Content
string_in w t end p = split_by w (take (end - p) (drop p t)) (split_of w (take (end - p) (drop p t)))

-- two equal lengths of a byte each, or a length of one unit
abbrev pub Heads : Bool → ℕ → ℕ → Type 0
Heads false n k = (n < 128) × (k ≡ 257 * n)
Heads true n k = (k < 32768) × (n ≡ 2 * k)

-- how far from the end the low byte of the last unit stands; as many bytes close a string
abbrev pub back_of : Bool → ℕ
back_of w = cond w 2 1

pub record Ends (w : Bool) (t : List ℕ) (end : ℕ) (k : Marks) : Type 0 where
  pub inside : k.at + k.n ≤ length t
  pub some : back_of w ≤ k.n
  pub head : Heads w k.n k.head
  pub room : k.room + (k.n + 2 + back_of w) ≤ end
  pub far : k.far + back_of w ≡ k.n + 2
  pub last : k.last ≡ get_or t (k.at + k.n - back_of w) 0

pub record Chosen (w : Bool) (t : List ℕ) (count first end at n : ℕ) (k : Marks) : Type 0 where
  pub later : (i : ℕ) → k.first.0 ≤ i → i < count → first ≤ i
  pub ends : k.first.0 < count → (k.at ≡ at) × (k.n ≡ n) × Ends w t end k

-- the first index without a system name, whatever the map says
abbrev pub first_of : List ℕ → ℕ → ℕ
first_of names ids = cond (eqb (length names) 0) 0 ids

pub record Marked (t : List ℕ) (lent : Lent) (h : Head) (g : Found) (k : Marks) : Type 0 where
  pub bare : (i : ℕ) → k.first.0 ≤ i → i < h.count → system_of h t lent i ≡ none
  pub ends : k.first.0 < h.count
      → (g ≡ Pool k.at k.n) × (plain_in (part_of h.utf16 t lent.area g) ≡ true) × Ends h.utf16 t (h.strings + h.size) k
