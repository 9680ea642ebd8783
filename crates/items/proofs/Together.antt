-- What the rule of specs/Items.antt says of a table that keeps it. No contract cites this file.
-- In order: every item is good (`good-at`), so that its attribute's name is ASCII (`good-ascii`); items of one attribute stand together
-- and have one kind (`together`).
use Rattle.std.specs.Prelude.{Ok, Err}
use Prim.Native.Nat.{ℕ, zero, suc, ◌+◌, ◌/◌, ◌≤◌, ◌<◌}
use native.Mathlib.Omega.{arith}
use native.Mathlib.Numerals.{add-one}
use mathlib.Core.Path.{◌≡◌, refl, sym, ap, ◌∙◌}
use mathlib.Core.List.{List}
use mathlib.Core.Bool.{Bool, true, false, cond, not, ◌&&◌}
use borrow.Author.Tests.{eqb-true, ltb-true, ltb-false, not-true}
use lib.ListN.{length}
use lib.Dec.{leb, eqb, ltb}
use Rattle.records.specs.Words.{item_width}
use Rattle.utf.specs.Plain.{is_ascii}
use Rattle.utf.proofs.Tables.{both_true}
use Rattle.utf.proofs.Equal.{eq_bytes-true, eq_bytes-false}
use Rattle.items.specs.declared.Item.{Item}
use Rattle.items.specs.Items.{item_at, attribute_of, same_attribute, is_name, is_new, stands, is_good, end_of, table_of}
use Rattle.items.specs.Inner.Back.{back_to}
use Rattle.items.proofs.Laws.{said_from, rule-step, table-first}

-- ---- every item is good

module _ (area w : List ℕ) (good : table_of area w ≡ (Ok tt)) where
  said-good :
      (k : ℕ) →
      k < length w / item_width →
      said_from area w (end_of w) (length w / item_width) k ≡ (Ok tt) →
      (is_good area (back_to w k) (item_at w k) ≡ true) × (said_from area w (end_of w) (length w / item_width) (k + 1) ≡ (Ok tt))
  said-good k p e = go (is_good area (back_to w k) (item_at w k)) refl (sym (rule-step area w (end_of w) (length w / item_width) k p) ∙ e)
    where
      go :
          (b : Bool) →
          is_good area (back_to w k) (item_at w k) ≡ b →
          cond (is_good area (back_to w k) (item_at w k)) (said_from area w (end_of w) (length w / item_width) (k + 1)) (Err k) ≡ (Ok tt) →
          (is_good area (back_to w k) (item_at w k) ≡ true) × (said_from area w (end_of w) (length w / item_width) (k + 1) ≡ (Ok tt))
      go true q h = (q, rw q at h)
      go false q h =
          let h' : Err k ≡ (Ok tt) = rw q at h in
          let z : ◌≡◌ {A = ℕ} 0 1 = cc in
          absurd (let y : ⊥ = omega arith in y)

  said_all : (k : ℕ) → k ≤ length w / item_width → said_from area w (end_of w) (length w / item_width) k ≡ (Ok tt)
  said_all zero p = sym (table-first area w) ∙ good
  said_all (suc k) p =
      let h = (said-good k (omega arith) (said_all k (omega arith))).1 in
      rw (← add-one k) h

  pub good-at : (k : ℕ) → k < length w / item_width → is_good area (back_to w k) (item_at w k) ≡ true
  good-at k p = (said-good k p (said_all k (omega arith))).0

  pub good-ascii : (k : ℕ) → k < length w / item_width → is_ascii (attribute_of area (item_at w k)) ≡ true
  unfolding is_good is_name
  good-ascii k p = ascii-of (item_at w k) (back_to w k) (good-at k p)
    where
      ascii-of : (i : Item) (before : List Item) → is_good area before i ≡ true → is_ascii (attribute_of area i) ≡ true
      ascii-of i before e =
          let rest = is_name area i.name i.name_len && (leb i.kind 1 && stands area before i) in
          let a = (both_true (is_name area i.attribute i.attribute_len) rest e).0 in
          let fits = leb (i.attribute + i.attribute_len) (length area) in
          let ascii = is_ascii (attribute_of area i) in
          let b = (both_true (leb 1 i.attribute_len) (fits && ascii) a).1 in
          (both_true fits ascii b).1

-- ---- items of one attribute

module _ (area w : List ℕ) where
  abbrev called : ℕ → List ℕ
  called k = attribute_of area (item_at w k)

  -- none of the first k items has the attribute of x
  is_new-at : (k : ℕ) (x : Item) → is_new area (back_to w k) x ≡ true → (i : ℕ) → i < k → called i ≡ attribute_of area x → ⊥
  unfolding is_new back_to
  is_new-at zero x e i p q = omega arith
  is_new-at (suc k) x e i p q =
      let b = both_true (not (same_attribute area (item_at w k) x)) (is_new area (back_to w k) x) e in
      go (ltb i k) refl (is_new-at k x b.1 i) (not-true (same_attribute area (item_at w k) x) b.0)
    where
      go : (t : Bool) → ltb i k ≡ t → (i < k → called i ≡ attribute_of area x → ⊥) → same_attribute area (item_at w k) x ≡ false → ⊥
      go true h earlier f = earlier (ltb-true i k h) q
      go false h earlier f =
          let g = ltb-false i k h in
          let s : i ≡ k = omega arith in
          eq_bytes-false (called k) (attribute_of area x) f (ap called (sym s) ∙ q)

  -- two items of one attribute: their kind is one, and every item between them is of it
  pub record Together (i j : ℕ) : Type 0 where
    pub kind : (item_at w i).kind ≡ (item_at w j).kind
    pub all : (m : ℕ) → i ≤ m → m ≤ j → called m ≡ called j

  module _ (good : table_of area w ≡ (Ok tt)) where
    good-stands : (k : ℕ) → k < length w / item_width → stands area (back_to w k) (item_at w k) ≡ true
    unfolding is_good
    good-stands k p = stands_of (item_at w k) (back_to w k) (good-at area w good k p)
      where
        stands_of : (i : Item) (before : List Item) → is_good area before i ≡ true → stands area before i ≡ true
        stands_of i before e =
            let last = leb i.kind 1 && stands area before i in
            let name = is_name area i.name i.name_len in
            let a = (both_true (is_name area i.attribute i.attribute_len) (name && last) e).1 in
            (both_true (leb i.kind 1) (stands area before i) (both_true name last a).1).1

    pub together : (j i : ℕ) → j < length w / item_width → i < j → called i ≡ called j → Together i j
    unfolding back_to
    together zero i p q e = absurd (let y : ⊥ = omega arith in y)
    together (suc k) i p q e = go (same_attribute area (item_at w k) (item_at w (suc k))) refl (good-stands (suc k) p) (together k i (omega arith))
      where
        -- the item before is of the attribute too
        near : called k ≡ called (suc k) → (item_at w k).kind ≡ (item_at w (suc k)).kind → (i < k → called i ≡ called k → Together i k) → Together i (suc k)
        near s t earlier = at (ltb i k) refl
          where
            at : (b : Bool) → ltb i k ≡ b → Together i (suc k)
            at true h =
                let r = earlier (ltb-true i k h) (e ∙ sym s) in
                record { kind = r.kind ∙ t; all = λ m x y. between m x y r }
              where
                between : (m : ℕ) → i ≤ m → m ≤ suc k → Together i k → called m ≡ called (suc k)
                between m x y r = by (ltb k m) refl
                  where
                    by : (d : Bool) → ltb k m ≡ d → called m ≡ called (suc k)
                    by true z = let u = ltb-true k m z in let v : m ≡ suc k = omega arith in ap called v
                    by false z = r.all m x (ltb-false k m z) ∙ s
            at false h =
                let g = ltb-false i k h in
                let v : i ≡ k = omega arith in
                record { kind = ap (λ (n : ℕ). (item_at w n).kind) v ∙ t; all = λ m x y. ends m (omega arith) y }
              where
                ends : (m : ℕ) → k ≤ m → m ≤ suc k → called m ≡ called (suc k)
                ends m x y = by (ltb k m) refl
                  where
                    by : (d : Bool) → ltb k m ≡ d → called m ≡ called (suc k)
                    by true z = let u = ltb-true k m z in let v : m ≡ suc k = omega arith in ap called v
                    by false z = let u = ltb-false k m z in let v : m ≡ k = omega arith in ap called v ∙ s

        go :
            (b : Bool) →
            same_attribute area (item_at w k) (item_at w (suc k)) ≡ b →
            stands area (back_to w (suc k)) (item_at w (suc k)) ≡ true →
            (i < k → called i ≡ called k → Together i k) →
            Together i (suc k)
        go true h s earlier =
            let t : eqb (item_at w k).kind (item_at w (suc k)).kind ≡ true = rw h at s in
            near (eq_bytes-true (called k) (called (suc k)) h) (eqb-true (item_at w k).kind (item_at w (suc k)).kind t) earlier
        go false h s earlier =
            let t : is_new area (back_to w k) (item_at w (suc k)) ≡ true = rw h at s in
            absurd (apart (ltb i k) refl t)
          where
            apart : (d : Bool) → ltb i k ≡ d → is_new area (back_to w k) (item_at w (suc k)) ≡ true → ⊥
            apart true z t = is_new-at k (item_at w (suc k)) t i (ltb-true i k z) e
            apart false z t =
                let u = ltb-false i k z in
                let v : i ≡ k = omega arith in
                eq_bytes-false (called k) (called (suc k)) h (ap called (sym v) ∙ e)
