-- Where the code found a text, read back as what it stands for, and what the code relies on: places lie inside. docs/FORMAT.md, N8.
--
--   Fits     the head's places lie in t
--   Asks     what every question of an index asks: a head that fits, and names that keep their rule
--   part_of   what a place stands for; Inside that its part lies in what was lent
--   whole_name  a text that is a valid name and whole: what most names of a file are
--   ascii_in  a text of which each byte, or each unit of UTF-16, is ASCII
--   Finds    what the answer of `find` tells: it stands for the content of the index
--   Wrote    a text at the front of a lent buffer that holds it, its length, and behind it what stood there
--
-- t is the bytes behind the file's header. A file keeps to 16,777,216 bytes, so t does too.
use Rattle.std.specs.Prelude.{ℕ, ◌+◌, ◌*◌, ◌≤◌, ◌≡◌, List, Bool, true, false, ◌&&◌, length, take, drop, eqb, Ok}
use Rattle.records.specs.Limits.{file_limit}
use Rattle.utf.specs.Text.{state_number, put_text}
use Rattle.utf.specs.Plain.{is_ascii}
use Rattle.utf.specs.Inner.StepRuns.{is_ascii_text}
use Rattle.system_types.specs.Names.{Lent, names_of}
use Rattle.text.specs.declared.Head.{Head}
use Rattle.text.specs.declared.Found.{Found}
use Rattle.text.specs.declared.Found.TheVariants.{Nothing, Cut, System, Pool}
use Rattle.text.specs.Content.{Content, none, cut, some, content_of, damage_in, is_name}

-- the head's places lie in t, whose length a file keeps to
pub record Fits (t : List ℕ) (h : Head) : Type 0 where
  pub short : length t ≤ file_limit
  pub offsets : h.offsets + 4 * h.count ≤ length t
  pub strings : h.strings + h.size ≤ length t
  pub ids : h.map + 4 * h.ids ≤ length t

pub record Asks (t : List ℕ) (lent : Lent) (h : Head) : Type 0 where
  pub fits : Fits t h
  pub good : names_of lent ≡ (Ok tt)

abbrev pub part_of : Bool → List ℕ → List ℕ → Found → Content
part_of w t area Nothing = none
part_of w t area Cut = cut
part_of w t area (System at n) = some false (take n (drop at area))
part_of w t area (Pool at n) = some w (take n (drop at t))

abbrev pub whole_name : Content → Bool
whole_name c = is_name c && eqb (state_number (damage_in c)) 0

abbrev pub ascii_in : Content → Bool
ascii_in none = false
ascii_in cut = false
ascii_in (some w s) = is_ascii_text w s

-- a part lies in what was lent, and a system name is ASCII
abbrev pub Inside : List ℕ → List ℕ → Found → Type 0
Inside t area Nothing = Unit {0}
Inside t area Cut = Unit {0}
Inside t area (System at n) = (at + n ≤ length area) × (is_ascii (take n (drop at area)) ≡ true)
Inside t area (Pool at n) = at + n ≤ length t

-- r stands for c
pub record Stands (w : Bool) (t area : List ℕ) (c : Content) (r : Found) : Type 0 where
  pub same : part_of w t area r ≡ c
  pub inside : Inside t area r

abbrev pub Finds : List ℕ → Lent → Head → ℕ → Found → Type 0
Finds t lent h i r = Stands h.utf16 t lent.area (content_of h t lent i) r

-- whether there is a text
abbrev pub is_found : Found → Bool
is_found Nothing = false
is_found Cut = true
is_found (System at n) = true
is_found (Pool at n) = true

-- the text of n bytes at the front of a lent buffer, and what stood behind it; the buffer as it was where it does not hold the text
pub record Wrote (text before after : List ℕ) (n : ℕ) : Type 0 where
  pub count : n ≡ length text
  pub bytes : after ≡ put_text text before
