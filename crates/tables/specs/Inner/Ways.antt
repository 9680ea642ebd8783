-- Links between records: a binary tree over the bits of their keys, in three words for each. Not part of what a reader must believe.
--
--   child_of    the record below record i on the side of the lowest bit of g
--   Leads      a way down from record i with the bits g to record e with the bits f, a bit at each step; a step goes to a later record
--              below n, and any other word is the way's end, so that words that nobody wrote do no harm
--   Hung       the first n records hang together: the third word of each is its key, and each is on the way of its key
--   Ends       the end of the way of k: nothing hangs there
--   same_at     whether the attribute of this prefix, name and namespace repeats the record at the place i (W23)
--   Sought     what a search comes to, among the records w that hang together by the keys `key`: None, or the end of the key's way
--   is_far      whether a new record is linked: it is one behind the first 32 of its element, and there is room for its link
use Rattle.std.specs.Prelude.{ℕ, ◌+◌, ◌-◌, ◌*◌, ◌/◌, ◌%◌, ◌≤◌, ◌<◌, ◌≡◌, ◌⊎◌, Bool, ◌&&◌, List, leb, eqb, length, get_or, Option, is_none, IfSome}
use Rattle.records.specs.Words.{attribute_width, attribute_prefix, attribute_name, attribute_namespace, attribute_words}
use Rattle.records.specs.Repeats.{by_prefix, same_space, is_repeat}
use Rattle.tables.specs.declared.links.WayEnd.{WayEnd}
use Rattle.tables.specs.Inner.Keys.{Key, keys_of}

abbrev pub link_width : ℕ
link_width = 3

abbrev pub link_key : ℕ
link_key = 2

abbrev pub child_of : List ℕ → ℕ → ℕ → ℕ
child_of s i g = get_or s (link_width * i + g % 2) 0

pub data Leads (n : ℕ) (s : List ℕ) (e f : ℕ) : ℕ → ℕ → Type 0 where
  there : {i g : ℕ} → i ≡ e → g ≡ f → Leads n s e f i g
  down : {i g : ℕ} → i < child_of s i g → child_of s i g < n → Leads n s e f (child_of s i g) (g / 2) → Leads n s e f i g

abbrev pub Reached : ℕ → List ℕ → ℕ → ℕ → ℕ → Type 0
Reached n s j i g = (f : ℕ) × Leads n s j f i g

pub record Hung (key : ℕ → ℕ) (s : List ℕ) (n : ℕ) : Type 0 where
  pub told : (i : ℕ) → i < n → get_or s (link_width * i + link_key) 0 ≡ key i
  pub reach : (i : ℕ) → i < n → Reached n s i 0 (key i)

pub record Ends (n : ℕ) (s : List ℕ) (k e f : ℕ) : Type 0 where
  pub below : e < n
  pub way : Leads n s e f 0 k
  pub last : (child_of s e f ≤ e) ⊎ (n ≤ child_of s e f)

abbrev pub same_at : (ℕ → ℕ → Bool) → ℕ → ℕ → ℕ → List ℕ → ℕ → Bool
same_at same p n ns w i =
    eqb (get_or w (i + attribute_prefix) 0) p && (same (get_or w (i + attribute_name) 0) n && same_space same p (get_or w (i + attribute_namespace) 0) ns)

-- whether the attribute of this prefix, name and namespace repeats one of w; and where not, the end of its way
pub record Sought (key : Key) (same : ℕ → ℕ → Bool) (w s : List ℕ) (k p n ns : ℕ) (r : Option WayEnd) : Type 0 where
  pub answer : Hung (keys_of key w) s (length w / attribute_width) → k ≡ key p n ns
      → (owner kind value : ℕ) → is_none r ≡ is_repeat (by_prefix same) (attribute_words owner p n kind value ns) w
  pub ends : IfSome r (λ e. 0 < length w / attribute_width → Ends (length w / attribute_width) s k e.at e.left)

-- ---- which records are linked

abbrev pub front_words : ℕ
front_words = 192

-- of so many words of own records, and so many of links
abbrev pub is_far : ℕ → ℕ → Bool
is_far own links = leb front_words own && leb (link_width * ((own - front_words) / attribute_width) + link_width) links
