-- Laws of specs/Inner/Firsts.antt and of the runs of specs/Inner/Turns.antt: which items are those of a name. No contract cites this file.
-- In order: items left out (`rest-..`); the place of a name (`place-..`); the first item at each place (`firsts-..`), and what stands before it
-- (`named-from`, `new-before`); the first item of a name (`first-..`); where its items end (`end-..`); all of them (`run-..`).
use Rattle.std.specs.Prelude.{Ok}
use Prim.Native.Nat.{ℕ, zero, suc, ◌+◌, ◌-◌, ◌*◌, ◌/◌, ◌%◌, ◌≤◌, ◌<◌}
use mathlib.Core.Path.{◌≡◌, refl, sym, ap, ◌∙◌}
use mathlib.Core.List.{List, [], ◌∷◌}
use mathlib.Core.Bool.{Bool, true, false, cond, ◌&&◌, true≢false}
use native.Mathlib.Omega.{arith}
use native.Mathlib.Nat.{sub-zero}
use native.Mathlib.Numerals.{add-one}
use borrow.Author.Tests.{lt-ltb, le-ltb, ltb-true, ltb-false, eqb-true, eqb-false}
use lib.ListN.{length, get_or, set, length-set}
use lib.Seq.{get_or-set_same, get_or-set_other}
use lib.Dec.{eqb, ltb}
use Rattle.records.specs.Words.{item_width}
use Rattle.utf.specs.Text.{eq_bytes}
use Rattle.utf.specs.Plain.{is_ascii}
use Rattle.utf.proofs.Equal.{eq_bytes-refl, eq_bytes-true, eq_bytes-false, eq_bytes-not}
use Rattle.utf.proofs.Tables.{both_true}
use Rattle.items.specs.declared.Item.{Item}
use Rattle.items.specs.Items.{item_at, items_from, items_of, part_in, attribute_of, same_attribute, named_in, is_new, table_of}
use Rattle.items.specs.Inner.Back.{back_to}
use Rattle.items.specs.Inner.Firsts.{place_count, place_of, Firsts}
use Rattle.items.specs.Inner.Turns.{rest_from, FirstNamed, EndOf, RunOf}
use Rattle.items.specs.declared.Run.{Run}
use Rattle.items.proofs.TurnLaws.{run_step, run_end}
use Rattle.items.proofs.Together.{together}

-- ---- items left out

module _ (area name w : List ℕ) (k : ℕ) where
  pub rest-skip :
      k < length w / item_width → eq_bytes (attribute_of area (item_at w k)) name ≡ false → rest_from area name w k ≡ rest_from area name w (k + 1)
  unfolding named_in
  rest-skip p e = ap (named_in area name) (run_step w k (length w / item_width) p) ∙ rw e

  pub rest_end : length w / item_width ≤ k → rest_from area name w k ≡ []
  unfolding named_in
  rest_end p = ap (named_in area name) (run_end w k (length w / item_width) p)

pub rest_all : (area name w : List ℕ) → named_in area name (items_of w) ≡ rest_from area name w 0
rest_all area name w = sym (rw sub-zero)

-- ---- the place of a name

pub place_none : (s : List ℕ) → length s < 1 → place_of s ≡ 0
unfolding place_of
place_none s p = rw (lt-ltb (length s) 1 p)

pub place-some :
    (s : List ℕ) →
    1 ≤ length s →
    place_of s ≡ (length s % place_count + 16 * get_or s (length s - 1) 0 + 5 * get_or s 0 0) % place_count
unfolding place_of
place-some s p = rw (le-ltb (length s) 1 p)

pub place-lt : (s : List ℕ) → place_of s < place_count
unfolding place_of
place-lt s = go (ltb (length s) 1) refl
  where
    go : (b : Bool) → ltb (length s) 1 ≡ b → place_of s < place_count
    go true e = rw e (omega arith)
    go false e = rw e (omega arith)

-- an area that was asked as a whole
pub plain_known :
    (whole : ℕ) (area : List ℕ) {r : Bool} →
    r ≡ cond (ltb whole (length area / 64)) false (is_ascii area) →
    r ≡ true →
    is_ascii area ≡ true
plain_known whole area {r} e t = go (ltb whole (length area / 64)) e
  where
    go : (b : Bool) → r ≡ cond b false (is_ascii area) → is_ascii area ≡ true
    go true f = absurd (true≢false (sym t ∙ f))
    go false f = sym f ∙ t

-- ---- the first item at each place

-- from item k on
pub record FirstsFrom (area w : List ℕ) (k : ℕ) (firsts : List ℕ) : Type 0 where
  pub long : length firsts ≡ place_count
  pub least : (j : ℕ) → k ≤ j → j < length w / item_width → get_or firsts (place_of (attribute_of area (item_at w j))) 0 ≤ j

module _ (area w : List ℕ) where
  pub firsts-none : {firsts : List ℕ} → length firsts ≡ place_count → FirstsFrom area w (length w / item_width) firsts
  firsts-none e = record { long = e; least = λ j p q. absurd (let y : ⊥ = omega arith in y) }

  pub firsts-all : {firsts : List ℕ} (k : ℕ) → k ≤ 0 → FirstsFrom area w k firsts → Firsts area w firsts
  firsts-all k p f = record { long = f.long; least = λ j q. f.least j (omega arith) q }

  pub firsts_more :
      (firsts : List ℕ) (k : ℕ) {place : ℕ} →
      place ≡ place_of (attribute_of area (item_at w k)) →
      FirstsFrom area w (k + 1) firsts →
      length (set firsts place k) ≡ length firsts →
      FirstsFrom area w k (set firsts place k)
  firsts_more firsts k {place} e f n =
      record { long = n ∙ f.long; least = λ j p q. go j p q (eqb (place_of (attribute_of area (item_at w j))) place) refl }
    where
      go :
          (j : ℕ) →
          k ≤ j →
          j < length w / item_width →
          (b : Bool) →
          eqb (place_of (attribute_of area (item_at w j))) place ≡ b →
          get_or (set firsts place k) (place_of (attribute_of area (item_at w j))) 0 ≤ j
      go j p q true h =
          let a : place_of (attribute_of area (item_at w j)) ≡ place = eqb-true (place_of (attribute_of area (item_at w j))) place h in
          let i : place < length firsts = omega (arith, e, place-lt (attribute_of area (item_at w k)), f.long) in
          rw (a, get_or-set_same firsts place k 0 i) p
      go j p q false h =
          let a = eqb-false (place_of (attribute_of area (item_at w j))) place h in
          let d : k + 1 ≤ j = apart (eqb j k) refl in
          rw (get_or-set_other firsts place (place_of (attribute_of area (item_at w j))) k 0 a) (f.least j d q)
        where
          apart : (c : Bool) → eqb j k ≡ c → k + 1 ≤ j
          apart true z =
              let s = eqb-true j k z in
              absurd (eqb-false (place_of (attribute_of area (item_at w j))) place h (ap (λ (x : ℕ). place_of (attribute_of area (item_at w x))) s ∙ sym e))
          apart false z = let s = eqb-false j k z in ne-lt s p
            where
              ne-lt : (j ≡ k → ⊥) → k ≤ j → k + 1 ≤ j
              ne-lt n m = omega arith

  pub firsts-step :
      (firsts : List ℕ) (k : ℕ) {i : Item} {s : List ℕ} {place : ℕ} →
      0 < k →
      i ≡ item_at w (k - 1) →
      s ≡ attribute_of area i →
      place ≡ place_of s →
      FirstsFrom area w k firsts →
      FirstsFrom area w (k - 1) (set firsts place (k - 1))
  firsts-step firsts k {i} {s} {place} p q e h f =
      let n : k - 1 + 1 ≡ k = omega arith in
      firsts_more firsts (k - 1) (h ∙ ap place_of (e ∙ ap (attribute_of area) q)) (rw n f) (length-set firsts place (k - 1))

-- ---- what stands before the first item at a place

module _ (area w firsts : List ℕ) (f : Firsts area w firsts) where
  -- an item before it has another name
  other_name :
      (name : List ℕ) (k : ℕ) →
      k < length w / item_width →
      k < get_or firsts (place_of name) 0 →
      attribute_of area (item_at w k) ≡ name →
      ⊥
  other_name name k p q e =
      let a : get_or firsts (place_of (attribute_of area (item_at w k))) 0 ≤ k = f.least k p in
      let b : get_or firsts (place_of name) 0 ≤ k = rw e at a in
      omega arith

  pub named-from :
      (name : List ℕ) (k : ℕ) →
      k ≤ length w / item_width →
      k ≤ get_or firsts (place_of name) 0 →
      named_in area name (items_of w) ≡ rest_from area name w k
  named-from name zero p q = rest_all area name w
  named-from name (suc k) p q =
      let n = eq_bytes-not (attribute_of area (item_at w k)) name (other_name name k (omega arith) (omega arith)) in
      let r = rest-skip area name w k (omega arith) n in
      named-from name k (omega arith) (omega arith) ∙ r ∙ ap (rest_from area name w) (add-one k)

  pub new-before :
      (i : Item) (k : ℕ) →
      k ≤ length w / item_width →
      k ≤ get_or firsts (place_of (attribute_of area i)) 0 →
      is_new area (back_to w k) i ≡ true
  unfolding is_new back_to
  new-before i zero p q = refl
  new-before i (suc k) p q =
      let n = eq_bytes-not (attribute_of area (item_at w k)) (attribute_of area i) (other_name (attribute_of area i) k (omega arith) (omega arith)) in
      rw (n, new-before i k (omega arith) (omega arith))

  -- the same by the place that the code has
  place_same : {s t : List ℕ} {place : ℕ} → s ≡ t → place ≡ place_of s → get_or firsts place 0 ≡ get_or firsts (place_of t) 0
  place_same e q = ap (λ (x : ℕ). get_or firsts x 0) (q ∙ ap place_of e)

  pub new_told :
      (i : Item) (k : ℕ) {s : List ℕ} {place : ℕ} →
      s ≡ attribute_of area i →
      place ≡ place_of s →
      k ≤ length w / item_width →
      k ≤ get_or firsts place 0 →
      is_new area (back_to w k) i ≡ true
  new_told i k e q p r = new-before i k p (rw (place_same e q) at r)

  pub named-told :
      (name : List ℕ) (k : ℕ) {place : ℕ} →
      place ≡ place_of name →
      k ≤ length w / item_width →
      k ≤ get_or firsts place 0 →
      named_in area name (items_of w) ≡ rest_from area name w k
  named-told name k q p r = let e : name ≡ name = refl in named-from name k p (rw (place_same e q) at r)

  -- the same of what is kept at the name's place, which may be past all items
  pub named_kept : (name : List ℕ) {place : ℕ} → place ≡ place_of name → named_in area name (items_of w) ≡ rest_from area name w (get_or firsts place 0)
  named_kept name {place} q = go (ltb (length w / item_width) (get_or firsts place 0)) refl
    where
      go :
          (b : Bool) →
          ltb (length w / item_width) (get_or firsts place 0) ≡ b →
          named_in area name (items_of w) ≡ rest_from area name w (get_or firsts place 0)
      go true e =
          let past = ltb-true (length w / item_width) (get_or firsts place 0) e in
          named-told name (length w / item_width) q (omega arith) (omega (arith, past))
          ∙ rest_end area name w (length w / item_width) (omega arith)
          ∙ sym (rest_end area name w (get_or firsts place 0) (omega (arith, past)))
      go false e =
          let within = ltb-false (length w / item_width) (get_or firsts place 0) e in
          named-told name (get_or firsts place 0) q within (omega arith)

-- ---- the first item of a name

-- no item before k is of the name
abbrev pub named_from : List ℕ → List ℕ → List ℕ → ℕ → Type 0
named_from area name w k = named_in area name (items_of w) ≡ rest_from area name w k

module _ (area name w : List ℕ) (k : ℕ) where
  pub first-here :
      {b : Bool} →
      k < length w / item_width →
      b ≡ eq_bytes (attribute_of area (item_at w k)) name →
      b ≡ true →
      named_from area name w k →
      FirstNamed area name w k
  first-here p e t s =
      record { fits = omega arith; here = λ q. eq_bytes-true (attribute_of area (item_at w k)) name (sym e ∙ t); all = s }

  pub first_next :
      {b : Bool} →
      k < length w / item_width →
      b ≡ eq_bytes (attribute_of area (item_at w k)) name →
      b ≡ false →
      named_from area name w k →
      named_from area name w (k + 1)
  first_next p e t s = s ∙ rest-skip area name w k p (sym e ∙ t)

  pub first-end : length w / item_width ≤ k → named_from area name w k → FirstNamed area name w (length w / item_width)
  first-end q s =
      record {
        fits = omega arith;
        here = λ r. absurd (let y : ⊥ = omega arith in y);
        all = s ∙ rest_end area name w k q ∙ sym (rest_end area name w (length w / item_width) (omega arith));
      }

-- ---- where its items end

-- all items from `first` up to k have its attribute
abbrev pub same_to : List ℕ → List ℕ → ℕ → ℕ → Type 0
same_to area w first k = (j : ℕ) → first ≤ j → j < k → attribute_of area (item_at w j) ≡ attribute_of area (item_at w first)

module _ (area w : List ℕ) (first : ℕ) where
  pub same_first : same_to area w first (first + 1)
  same_first j p q = let e : j ≡ first = omega arith in ap (λ (x : ℕ). attribute_of area (item_at w x)) e

  pub same_next :
      (k : ℕ) {i head : Item} {b : Bool} →
      i ≡ item_at w k →
      head ≡ item_at w first →
      b ≡ same_attribute area i head →
      b ≡ true →
      same_to area w first k →
      same_to area w first (k + 1)
  same_next k {i} {head} {b} e h q t s j p r = go (eqb j k) refl
    where
      go : (c : Bool) → eqb j k ≡ c → attribute_of area (item_at w j) ≡ attribute_of area (item_at w first)
      go true z =
          let a : j ≡ k = eqb-true j k z in
          let m = eq_bytes-true (attribute_of area i) (attribute_of area head) (sym q ∙ t) in
          ap (λ (x : ℕ). attribute_of area (item_at w x)) a ∙ ap (attribute_of area) (sym e) ∙ m ∙ ap (attribute_of area) h
      go false z = s j p (lt (eqb-false j k z))
        where
          lt : (j ≡ k → ⊥) → j < k
          lt n = omega arith

  pub end-here :
      (k : ℕ) {i head : Item} {b : Bool} →
      first < k →
      k < length w / item_width →
      i ≡ item_at w k →
      head ≡ item_at w first →
      b ≡ same_attribute area i head →
      b ≡ false →
      same_to area w first k →
      EndOf area w first k
  end-here k {i} {head} {b} p l e h q t s =
      let m = eq_bytes-false (attribute_of area i) (attribute_of area head) (sym q ∙ t) in
      record {
        fits = omega arith;
        behind = p;
        same = s;
        other = λ r z. m (ap (attribute_of area) e ∙ z ∙ ap (attribute_of area) (sym h));
      }

  pub end-last :
      (k : ℕ) →
      first < k →
      k ≤ length w / item_width →
      length w / item_width ≤ k →
      same_to area w first k →
      EndOf area w first (length w / item_width)
  end-last k p l q s =
      let e : length w / item_width ≡ k = omega arith in
      rw e (record { fits = l; behind = p; same = s; other = λ r. absurd (let y : ⊥ = omega arith in y) })

-- ---- all items of a name

module _ (area name w : List ℕ) where
  none_named :
      (m k : ℕ) →
      ((j : ℕ) → k ≤ j → j < k + m → attribute_of area (item_at w j) ≡ name → ⊥) →
      named_in area name (items_from w k m) ≡ []
  unfolding named_in items_from
  none_named zero k h = refl
  none_named (suc m) k h =
      let n = eq_bytes-not (attribute_of area (item_at w k)) name (h k (omega arith) (omega arith)) in
      rw n (none_named m (suc k) (λ j p q. h j (omega arith) (omega arith)))

  all_named :
      (n k m : ℕ) →
      ((j : ℕ) → k ≤ j → j < k + n → attribute_of area (item_at w j) ≡ name) →
      named_in area name (items_from w (k + n) m) ≡ [] →
      named_in area name (items_from w k (n + m)) ≡ items_from w k n
  unfolding named_in items_from
  all_named zero k m h e =
      let s : k ≡ k + 0 = omega arith in
      let z : 0 + m ≡ m = omega arith in
      rw z (ap (λ (x : ℕ). named_in area name (items_from w x m)) s ∙ e)
  all_named (suc n) k m h e =
      let s : k + suc n ≡ suc k + n = omega arith in
      let a : attribute_of area (item_at w k) ≡ name = h k (omega arith) (omega arith) in
      let b : eq_bytes (attribute_of area (item_at w k)) name ≡ true = rw a (eq_bytes-refl name) in
      let z : suc n + m ≡ suc (n + m) = omega arith in
      rw (z, b) (ap (λ (x : List Item). item_at w k ∷ x) (all_named n (suc k) m (λ j p q. h j (omega arith) (omega arith)) (rw s at e)))

  pub run_none :
      {first : ℕ} {r : Run} →
      FirstNamed area name w first →
      length w / item_width ≤ first →
      r.end ≤ r.first →
      r.end ≤ length w / item_width →
      RunOf area name w r
  run_none {first} {r} f p q l =
      record { fits = l; all = f.all ∙ rest_end area name w first p ∙ sym (run_end w r.first r.end q) }

  pub run-all :
      {first : ℕ} {r : Run} →
      table_of area w ≡ (Ok tt) →
      FirstNamed area name w first →
      first < length w / item_width →
      r.first ≡ first →
      EndOf area w first r.end →
      RunOf area name w r
  run-all {first} {r} good f p q e =
      let a = e.fits in
      let b = e.behind in
      let n : length w / item_width - first ≡ (r.end - first) + (length w / item_width - r.end) = omega arith in
      let s : first + (r.end - first) ≡ r.end = omega arith in
      let none = none_named (length w / item_width - r.end) (first + (r.end - first)) (λ j l m. behind j (omega arith) (omega arith)) in
      let all = all_named (r.end - first) first (length w / item_width - r.end) (λ j l m. e.same j l (omega arith) ∙ f.here p) none in
      record { fits = e.fits; all = f.all ∙ ap (λ (x : ℕ). named_in area name (items_from w first x)) n ∙ all ∙ ap (λ (x : ℕ). items_from w x (r.end - x)) (sym q) }
    where
      behind : (j : ℕ) → r.end ≤ j → j < length w / item_width → attribute_of area (item_at w j) ≡ name → ⊥
      behind j l m z =
          let o = e.behind in
          let t = together area w good j first m (omega arith) (f.here p ∙ sym z) in
          e.other (omega arith) (t.all r.end (omega arith) l ∙ z ∙ sym (f.here p))

-- ---- names at one place

pub same_parts : (area : List ℕ) (i j : Item) → (eqb i.attribute j.attribute && eqb i.attribute_len j.attribute_len) ≡ true
    → true ≡ same_attribute area i j
same_parts area i j e =
    let p = both_true (eqb i.attribute j.attribute) (eqb i.attribute_len j.attribute_len) e in
    let start = eqb-true i.attribute j.attribute p.0 in
    let len = eqb-true i.attribute_len j.attribute_len p.1 in
    sym (ap (λ (k : ℕ). eq_bytes (part_in area k i.attribute_len) (attribute_of area j)) start
    ∙ ap (λ (k : ℕ). eq_bytes (part_in area j.attribute k) (attribute_of area j)) len
    ∙ eq_bytes-refl (attribute_of area j))
