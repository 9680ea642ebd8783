-- The system names that the caller lends: three words each (id, start, length) over an area of bytes: docs/FORMAT.md, N4 to N7.
--
--   Lent         what is lent beside a file: the words of the names and the area of their bytes; lends the two as one
--   names_of      Ok where every entry keeps the rule; else the first that breaks it, or the number of whole entries where words remain
--   Rising       the ids of the whole entries strictly rise, which is what a search by halves needs; names that keep the rule do
--   system_name   where the name with an id lies: the first entry that has it; None where none has, or the id's top byte is not 1
--   without      what follows one leading text, and the whole where it does not lead
--
-- The rule: ids strictly rise and have top byte 1, a length is at least 1, the part lies in the area, its bytes are below 128 (`is_ascii` of utf).
-- A list of words is those left. No words at all keep the rule. Laws: proofs/Laws.antt.
use Rattle.std.specs.Prelude.{ℕ, ◌+◌, ◌*◌, ◌/◌, ◌<◌, ◌≤◌, Bool, true, false, cond, ◌&&◌, List, [], ◌∷◌, length, take, drop, ◌==◌, nat_le}
use Rattle.std.specs.Prelude.{nat_lt, slice_index, Option, Some, None, Result, Ok, Err}
use Rattle.utf.specs.Plain.{is_ascii}

-- ---- what is lent

pub record Lent : Type 0 where
  pub names : List ℕ
  pub area : List ℕ

abbrev pub lends : List ℕ → List ℕ → Lent
lends names area = record { names = names; area = area }

-- ---- the rule

abbrev pub top_byte : ℕ → ℕ
top_byte id = id / 16777216

-- an entry behind one with the id `last` (0 before the first)
unfoldable pub is_good : List ℕ → ℕ → ℕ → ℕ → ℕ → Bool
is_good area last id start n =
    nat_lt last id
    && (top_byte id == 1
    && (nat_le 1 n
    && (nat_le (start + n) (length area)
    && is_ascii (take n (drop start area)))))

-- the entries from number k on, behind one with the id `last`
unfoldable pub names_from : List ℕ → ℕ → ℕ → List ℕ → Result (Unit {0}) ℕ
names_from area last k [] = Ok tt
names_from area last k (id ∷ []) = Err k
names_from area last k (id ∷ start ∷ []) = Err k
names_from area last k (id ∷ start ∷ n ∷ w) = cond (is_good area last id start n) (names_from area id (k + 1) w) (Err k)

abbrev pub names_of : Lent → Result (Unit {0}) ℕ
names_of lent = names_from lent.area 0 0 lent.names

-- ---- looking a name up

-- the id of entry i is word 3 * i
pub record Rising (w : List ℕ) : Type 0 where
  pub rises : (i j : ℕ) → i < j → 3 * j + 3 ≤ length w → slice_index w (3 * i) < slice_index w (3 * j)

unfoldable pub name_by_id : ℕ → List ℕ → Option (ℕ × ℕ)
name_by_id id [] = None
name_by_id id (x ∷ []) = None
name_by_id id (x ∷ start ∷ []) = None
name_by_id id (x ∷ start ∷ n ∷ w) = cond (x == id) (Some (start, n)) (name_by_id id w)

-- only an id with top byte 1 has a system name
abbrev pub system_name : ℕ → List ℕ → Option (ℕ × ℕ)
system_name id w = cond (top_byte id == 1) (name_by_id id w) None

-- ---- one leading `android:attr/`

abbrev pub starts_with : List ℕ → List ℕ → Bool
starts_with s [] = true
starts_with [] (x ∷ p) = false
starts_with (a ∷ s) (x ∷ p) = a == x && starts_with s p

abbrev pub without : List ℕ → List ℕ → List ℕ
without p s = cond (starts_with s p) (drop (length p) s) s

-- android:attr/
abbrev pub android_attr : List ℕ
android_attr = 97 ∷ 110 ∷ 100 ∷ 114 ∷ 111 ∷ 105 ∷ 100 ∷ 58 ∷ 97 ∷ 116 ∷ 116 ∷ 114 ∷ 47 ∷ []
