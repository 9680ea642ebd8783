-- Laws of specs/Items.antt, for this crate and those above. No contract cites this file.
-- In order: the items before one (`back-..`, `isNew-..`, `stands-..`); a name (`isName-..`); a good item (`isGood-..`); the table item
-- by item (`rule-..`). What the rule says of all items of an attribute: proofs/Together.antt.
use Rattle.std.specs.Prelude.{Result, Ok, Err}
use Prim.Native.Nat.{ℕ, zero, suc, ◌+◌, ◌-◌, ◌/◌, ◌%◌, ◌≤◌, ◌<◌}
use native.Mathlib.Omega.{arith}
use native.Mathlib.Nat.{sub-zero}
use native.Mathlib.Numerals.{add-one, sub-one}
use mathlib.Core.Path.{◌≡◌, refl, sym, ◌∙◌}
use mathlib.Core.List.{List}
use mathlib.Core.Bool.{Bool, true, false, cond, not, ◌&&◌}
use borrow.Author.Tests.{lt-leb, le-leb, eq-eqb, ne_eqb}
use lib.ListN.{length, take, drop}
use lib.Dec.{eqb}
use Rattle.records.specs.Words.{item_width}
use Rattle.utf.specs.Plain.{is_ascii}
use Rattle.utf.proofs.Ascii.{is_ascii-drop, is_ascii-take}
use Rattle.items.specs.Items.{item_at, items_from, same_attribute, is_name, is_new, stands, is_good, rule_from, end_of, table_of}
use Rattle.items.specs.Inner.Back.{back_to}
use Rattle.items.specs.declared.Item.{Item}

-- ---- the items before one

module _ (area w : List ℕ) (i : Item) where
  pub is_new-none : (j : ℕ) → j ≤ 0 → is_new area (back_to w j) i ≡ true
  unfolding is_new back_to
  is_new-none zero p = refl
  is_new-none (suc j) p = absurd (let y : ⊥ = omega arith in y)

  is_new-step : (j : ℕ) → 0 < j → is_new area (back_to w j) i ≡ (not (same_attribute area (item_at w (j - 1)) i) && is_new area (back_to w (j - 1)) i)
  unfolding is_new back_to
  is_new-step zero p = absurd (let y : ⊥ = omega arith in y)
  is_new-step (suc j) p = rw sub-one

  pub is_new-same
      : (j : ℕ) {p : Item} {b : Bool}
      → 0 < j
      → p ≡ item_at w (j - 1)
      → b ≡ same_attribute area p i
      → b ≡ true
      → is_new area (back_to w j) i ≡ false
  is_new-same j h q e t = is_new-step j h ∙ rw (← q, ← e, t)

  pub is_new-other
      : (j : ℕ) {p : Item} {b : Bool}
      → 0 < j
      → p ≡ item_at w (j - 1)
      → b ≡ same_attribute area p i
      → b ≡ false
      → is_new area (back_to w j) i ≡ is_new area (back_to w (j - 1)) i
  is_new-other j h q e t = is_new-step j h ∙ rw (← q, ← e, t)

  pub stands-first : (k : ℕ) → k < 1 → stands area (back_to w k) i ≡ true
  unfolding back_to
  stands-first zero p = refl
  stands-first (suc k) p = absurd (let y : ⊥ = omega arith in y)

  stands-step
      : (k : ℕ)
      → 1 ≤ k
      → stands area (back_to w k) i
      ≡ cond (same_attribute area (item_at w (k - 1)) i) (eqb (item_at w (k - 1)).kind i.kind) (is_new area (back_to w (k - 1)) i)
  unfolding back_to
  stands-step zero p = absurd (let y : ⊥ = omega arith in y)
  stands-step (suc k) p = rw sub-one

  pub Stands-same
      : (k : ℕ) {p : Item} {b : Bool}
      → 1 ≤ k
      → p ≡ item_at w (k - 1)
      → b ≡ same_attribute area p i
      → b ≡ true
      → stands area (back_to w k) i ≡ eqb p.kind i.kind
  Stands-same k h q e t = stands-step k h ∙ rw (← q, ← e, t)

  pub stands-other
      : (k : ℕ) {p : Item} {b : Bool}
      → 1 ≤ k
      → p ≡ item_at w (k - 1)
      → b ≡ same_attribute area p i
      → b ≡ false
      → stands area (back_to w k) i ≡ is_new area (back_to w (k - 1)) i
  stands-other k h q e t = stands-step k h ∙ rw (← q, ← e, t)

-- ---- a name

module _ (area : List ℕ) (start n : ℕ) where
  pub is_name-empty : n < 1 → is_name area start n ≡ false
  unfolding is_name
  is_name-empty p = rw (lt-leb 1 n p)

  pub is_name-past : 1 ≤ n → length area < start + n → is_name area start n ≡ false
  unfolding is_name
  is_name-past p q = rw (le-leb 1 n p, lt-leb (start + n) (length area) q)

  pub is_name-by : 1 ≤ n → start + n ≤ length area → is_name area start n ≡ is_ascii (take (start + n - start) (drop start area))
  unfolding is_name
  is_name-by p q = let e : start + n - start ≡ n = omega arith in rw (le-leb 1 n p, le-leb (start + n) (length area) q, e)

  pub is_name-plain : is_ascii area ≡ true → 1 ≤ n → start + n ≤ length area → is_name area start n ≡ true
  unfolding is_name
  is_name-plain e p q =
      rw (le-leb 1 n p, le-leb (start + n) (length area) q, is_ascii-take n (drop start area) (is_ascii-drop start area e))

-- ---- a good item

module _ (area : List ℕ) (before : List Item) (i : Item) where
  pub is_good-attribute : is_name area i.attribute i.attribute_len ≡ false → is_good area before i ≡ false
  unfolding is_good
  is_good-attribute p = rw p

  pub is_good-name
      : is_name area i.attribute i.attribute_len ≡ true
      → is_name area i.name i.name_len ≡ false
      → is_good area before i ≡ false
  unfolding is_good
  is_good-name p q = rw (p, q)

  pub is_good-kind
      : is_name area i.attribute i.attribute_len ≡ true
      → is_name area i.name i.name_len ≡ true
      → 1 < i.kind
      → is_good area before i ≡ false
  unfolding is_good
  is_good-kind p q r = rw (p, q, lt-leb i.kind 1 r)

  pub is_good-stands
      : is_name area i.attribute i.attribute_len ≡ true
      → is_name area i.name i.name_len ≡ true
      → i.kind ≤ 1
      → is_good area before i ≡ stands area before i
  unfolding is_good
  is_good-stands p q r = rw (p, q, le-leb i.kind 1 r)

-- ---- the table, item by item

module _ (area w : List ℕ) (end : Result (Unit {0}) ℕ) (n : ℕ) where
  -- what is said from item k on
  abbrev pub said_from : ℕ → Result (Unit {0}) ℕ
  said_from k = rule_from area end (back_to w k) k (items_from w k (n - k))

  pub rule_end : (k : ℕ) → n ≤ k → said_from k ≡ end
  unfolding rule_from items_from
  rule_end k p = let e : n - k ≡ 0 = omega arith in rw e

  pub rule-step : (k : ℕ) → k < n → said_from k ≡ cond (is_good area (back_to w k) (item_at w k)) (said_from (k + 1)) (Err k)
  unfolding rule_from items_from back_to
  rule-step k p = let e : n - k ≡ suc (n - suc k) = omega arith in rw (e, add-one k)

  pub rule-bad
      : (k : ℕ) {i : Item} {b : Bool}
      → k < n
      → i ≡ item_at w k
      → b ≡ is_good area (back_to w k) i
      → b ≡ false
      → Err k ≡ said_from k
  rule-bad k {i} {b} p q e f = sym (rule-step k p ∙ rw (← q, ← e, f))

  pub rule-next
      : (k : ℕ) {i : Item} {b : Bool}
      → k < n
      → i ≡ item_at w k
      → b ≡ is_good area (back_to w k) i
      → b ≡ true
      → said_from k ≡ said_from (k + 1)
  rule-next k {i} {b} p q e f = rule-step k p ∙ rw (← q, ← e, f)

-- the whole items, and then whether words remain
module _ (area w : List ℕ) where
  pub table-first : table_of area w ≡ said_from area w (end_of w) (length w / item_width) 0
  unfolding table_of back_to
  table-first = rw sub-zero

  pub table-rest : (length w % item_width ≡ 0 → ⊥) → end_of w ≡ Err (length w / item_width)
  table-rest p = rw (ne_eqb (length w % item_width) 0 p)

  pub table-whole : length w % item_width ≡ 0 → end_of w ≡ (Ok tt)
  table-whole p = rw (eq-eqb (length w % item_width) 0 p)
