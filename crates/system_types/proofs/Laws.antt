-- Laws of the rule of specs/Names.antt, for this crate and those above. No contract cites this file.
-- In order: what a good entry is (`isGood-..`); the table entry by entry (`namesFrom-..`); good names rise (`rising-of-good`); a
-- name that is found lies in the area, is not empty and is ASCII (`system_name-of-good`).
use Rattle.std.specs.Prelude.{Some, None, Result, Ok, Err}
use Rattle.std.proofs.Common.{◌≡◌, ℕ, zero, suc, ◌+◌, ◌*◌, ◌<◌, ◌≤◌, Bool, true, false, cond, not, ◌&&◌, eqb, ltb, leb, List, [], ◌∷◌}
use Rattle.std.proofs.Common.{length, get_or, take, drop, sym, refl, ap, ◌∙◌, add-one, arith, drop-cons, ltb-true, lt-ltb, eq-eqb}
use Rattle.std.proofs.Common.{eqb-true, le-leb, leb-true}
use borrow.Author.Tests.{not-true, not-false}
use Rattle.system_types.specs.Names.{Lent, top_byte, is_good, names_from, names_of, Rising, name_by_id, system_name}
use Rattle.utf.specs.Plain.{is_ascii}
use Rattle.utf.proofs.Tables.{both_true}
use Rattle.utf.proofs.Ascii.{is_ascii-drop, is_ascii-take}

-- ---- a good entry

pub record GoodEntry (area : List ℕ) (last id start n : ℕ) : Type 0 where
  pub rises : last < id
  pub top : top_byte id ≡ 1
  pub some : 1 ≤ n
  pub fits : start + n ≤ length area
  pub ascii : is_ascii (take n (drop start area)) ≡ true

module _ (area : List ℕ) (last id start n : ℕ) where
  pub is_good-parts : is_good area last id start n ≡ true → GoodEntry area last id start n
  unfolding is_good
  is_good-parts e =
      let ascii = is_ascii (take n (drop start area)) in
      let a = both_true (ltb last id) (eqb (top_byte id) 1 && (leb 1 n && (leb (start + n) (length area) && ascii))) e in
      let b = both_true (eqb (top_byte id) 1) (leb 1 n && (leb (start + n) (length area) && ascii)) a.1 in
      let d = both_true (leb 1 n) (leb (start + n) (length area) && ascii) b.1 in
      let f = both_true (leb (start + n) (length area)) ascii d.1 in
      record {
        rises = ltb-true last id a.0;
        top = eqb-true (top_byte id) 1 b.0;
        some = leb-true 1 n d.0;
        fits = leb-true (start + n) (length area) f.0;
        ascii = f.1;
      }

  pub is_good-ascii
      : last < id
      → top_byte id ≡ 1
      → 1 ≤ n
      → start + n ≤ length area
      → is_good area last id start n ≡ is_ascii (take n (drop start area))
  unfolding is_good
  is_good-ascii p q r t = rw (lt-ltb last id p, eq-eqb (top_byte id) 1 q, le-leb 1 n r, le-leb (start + n) (length area) t)

  -- an area that is ASCII as a whole
  pub is_good-plain
      : is_ascii area ≡ true
      → last < id
      → top_byte id ≡ 1
      → 1 ≤ n
      → start + n ≤ length area
      → is_good area last id start n ≡ true
  is_good-plain e p q r t = is_good-ascii p q r t ∙ is_ascii-take n (drop start area) (is_ascii-drop start area e)

-- ---- the table, entry by entry

-- entry k of the words w, and those behind it
drop-entry
    : (w : List ℕ) (k : ℕ)
    → 3 * k + 3 ≤ length w
    → drop (3 * k) w ≡ get_or w (3 * k) 0 ∷ get_or w (3 * k + 1) 0 ∷ get_or w (3 * k + 2) 0 ∷ drop (3 * (k + 1)) w
drop-entry w k h =
    let e : 3 * (k + 1) ≡ suc (3 * k + 2) = omega arith in
    let f : 3 * k + 2 ≡ suc (3 * k + 1) = omega arith in
    let a : drop (3 * k + 2) w ≡ get_or w (3 * k + 2) 0 ∷ drop (3 * (k + 1)) w = rw e (drop-cons w (3 * k + 2) 0 (omega arith)) in
    let b : drop (3 * k + 1) w ≡ get_or w (3 * k + 1) 0 ∷ drop (3 * k + 2) w = rw f (drop-cons w (3 * k + 1) 0 (omega arith)) in
    let d : drop (3 * k) w ≡ get_or w (3 * k) 0 ∷ drop (3 * k + 1) w = rw add-one (drop-cons w (3 * k) 0 (omega arith)) in
    rw (d, b, a)

module _ (area : List ℕ) (last : ℕ) (w : List ℕ) (k : ℕ) (h : 3 * k + 3 ≤ length w) where
  pub names_from-step
      : is_good area last (get_or w (3 * k) 0) (get_or w (3 * k + 1) 0) (get_or w (3 * k + 2) 0) ≡ true
      → names_from area last k (drop (3 * k) w) ≡ names_from area (get_or w (3 * k) 0) (k + 1) (drop (3 * (k + 1)) w)
  unfolding names_from
  names_from-step e = rw (drop-entry w k h, e)

  pub names_from-bad
      : is_good area last (get_or w (3 * k) 0) (get_or w (3 * k + 1) 0) (get_or w (3 * k + 2) 0) ≡ false
      → names_from area last k (drop (3 * k) w) ≡ Err k
  unfolding names_from
  names_from-bad e = rw (drop-entry w k h, e)

  -- the entry was looked at, and r said whether it is good; o is what all the entries say
  module _ (r : Bool) (o : Result (Unit {0}) ℕ) (is : r ≡ is_good area last (get_or w (3 * k) 0) (get_or w (3 * k + 1) 0) (get_or w (3 * k + 2) 0)) where
    pub names_from-refused : not r ≡ true → names_from area last k (drop (3 * k) w) ≡ o → Err k ≡ o
    names_from-refused t e = sym (names_from-bad (sym is ∙ not-true r t)) ∙ e

    pub names_from-passed
        : not r ≡ false
        → names_from area last k (drop (3 * k) w) ≡ o
        → names_from area (get_or w (3 * k) 0) (k + 1) (drop (3 * (k + 1)) w) ≡ o
    names_from-passed t e = sym (names_from-step (sym is ∙ not-false r t)) ∙ e

-- no word is left
pub names_from-stop : (area : List ℕ) (last k : ℕ) (w : List ℕ) → length w ≡ 0 → names_from area last k w ≡ Ok tt
unfolding names_from
names_from-stop area last k [] h = refl
names_from-stop area last k (x ∷ w) h = absurd (let y : ⊥ = omega arith in y)

-- one or two words are left
pub names_from-left : (area : List ℕ) (last k : ℕ) (w : List ℕ) → 1 ≤ length w → length w < 3 → names_from area last k w ≡ Err k
unfolding names_from
names_from-left area last k [] h p = absurd (let y : ⊥ = omega arith in y)
names_from-left area last k (x ∷ []) h p = refl
names_from-left area last k (x ∷ y ∷ []) h p = refl
names_from-left area last k (x ∷ y ∷ z ∷ w) h p = absurd (let a : ⊥ = omega arith in a)

-- ---- good names rise

-- the id of each whole entry is above x
abbrev Above : ℕ → List ℕ → Type 0
Above x w = (i : ℕ) → 3 * i + 3 ≤ length w → x < get_or w (3 * i) 0

-- an entry more in front moves each entry by three words
pub get_d-behind : (x y z : ℕ) (w : List ℕ) (i : ℕ) → get_or (x ∷ y ∷ z ∷ w) (3 * suc i) 0 ≡ get_or w (3 * i) 0
get_d-behind x y z w i = let e : 3 * suc i ≡ suc (suc (suc (3 * i))) = omega arith in rw e

above_more : (x id start n : ℕ) (w : List ℕ) → x < id → Above id w → Above x (id ∷ start ∷ n ∷ w)
above_more x id start n w p a zero h = p
above_more x id start n w p a (suc i) h = rw get_d-behind (let q = a i (omega arith) in omega arith)

rising-more : (id start n : ℕ) (w : List ℕ) → Above id w → Rising w → Rising (id ∷ start ∷ n ∷ w)
rising-more id start n w a r = record { rises = go }
  where
    go : (i j : ℕ) → i < j → 3 * j + 3 ≤ length (id ∷ start ∷ n ∷ w) → get_or (id ∷ start ∷ n ∷ w) (3 * i) 0 < get_or (id ∷ start ∷ n ∷ w) (3 * j) 0
    go i zero p h = absurd (let y : ⊥ = omega arith in y)
    go zero (suc j) p h = rw (get_d-behind id start n w j) (a j (omega arith))
    go (suc i) (suc j) p h = rw (get_d-behind id start n w i, get_d-behind id start n w j) (r.rises i j (omega arith) (omega arith))

record Rises (last : ℕ) (w : List ℕ) : Type 0 where
  above : Above last w
  rising : Rising w

names_from-rises : (area : List ℕ) (last k : ℕ) (w : List ℕ) → names_from area last k w ≡ Ok tt → Rises last w
unfolding names_from
names_from-rises area last k [] e =
    record {
      above = λ i h. absurd (let y : ⊥ = omega arith in y);
      rising = record { rises = λ i j p h. absurd (let y : ⊥ = omega arith in y) };
    }
names_from-rises area last k (x ∷ []) e = let z : ◌≡◌ {A = ℕ} 0 1 = cc in absurd (let y : ⊥ = omega arith in y)
names_from-rises area last k (x ∷ y ∷ []) e = let z : ◌≡◌ {A = ℕ} 0 1 = cc in absurd (let a : ⊥ = omega arith in a)
names_from-rises area last k (id ∷ start ∷ n ∷ w) e = go (is_good area last id start n) refl e (names_from-rises area id (k + 1) w)
  where
    go
        : (b : Bool)
        → is_good area last id start n ≡ b
        → cond b (names_from area id (k + 1) w) (Err k) ≡ Ok tt
        → (names_from area id (k + 1) w ≡ Ok tt → Rises id w)
        → Rises last (id ∷ start ∷ n ∷ w)
    go true t f more =
        let r = more f in
        let p = is_good-parts area last id start n t in
        record { above = above_more last id start n w p.rises r.above; rising = rising-more id start n w r.above r.rising }
    go false t f more = let z : ◌≡◌ {A = ℕ} 0 1 = cc in absurd (let y : ⊥ = omega arith in y)

pub rising-of-good : (lent : Lent) → names_of lent ≡ Ok tt → Rising lent.names
rising-of-good lent e = (names_from-rises lent.area 0 0 lent.names e).rising

-- ---- a name that is found

name_of-of-good
    : (area : List ℕ) (last k : ℕ) (w : List ℕ) (id s n : ℕ)
    → names_from area last k w ≡ Ok tt
    → name_by_id id w ≡ Some (s, n)
    → (s + n ≤ length area) × (1 ≤ n) × (is_ascii (take n (drop s area)) ≡ true)
unfolding names_from name_by_id
name_of-of-good area last k [] id s n e f = let z : ◌≡◌ {A = ℕ} 0 1 = cc in absurd (let y : ⊥ = omega arith in y)
name_of-of-good area last k (x ∷ []) id s n e f = let z : ◌≡◌ {A = ℕ} 0 1 = cc in absurd (let y : ⊥ = omega arith in y)
name_of-of-good area last k (x ∷ y ∷ []) id s n e f = let z : ◌≡◌ {A = ℕ} 0 1 = cc in absurd (let a : ⊥ = omega arith in a)
name_of-of-good area last k (x ∷ start ∷ m ∷ w) id s n e f =
    go (is_good area last x start m) refl e (eqb x id) f (name_of-of-good area x (k + 1) w id s n)
  where
    go
        : (b : Bool)
        → is_good area last x start m ≡ b
        → cond b (names_from area x (k + 1) w) (Err k) ≡ Ok tt
        → (d : Bool)
        → cond d (Some (start, m)) (name_by_id id w) ≡ Some (s, n)
        → (names_from area x (k + 1) w ≡ Ok tt
        → name_by_id id w ≡ Some (s, n)
        → (s + n ≤ length area) × (1 ≤ n) × (is_ascii (take n (drop s area)) ≡ true))
        → (s + n ≤ length area) × (1 ≤ n) × (is_ascii (take n (drop s area)) ≡ true)
    go false t g d f more = let z : ◌≡◌ {A = ℕ} 0 1 = cc in absurd (let y : ⊥ = omega arith in y)
    go true t g true f more =
        let p = is_good-parts area last x start m t in
        let both : ◌≡◌ {A = ℕ × ℕ} (start, m) (s, n) = cc in
        let a : start ≡ s = ap (λ (pair : ℕ × ℕ). pair.0) both in
        let b : m ≡ n = ap (λ (pair : ℕ × ℕ). pair.1) both in
        rw (← a, ← b) (p.fits, p.some, p.ascii)
    go true t g false f more = more g f

pub system_name-of-good
    : (lent : Lent) (id s n : ℕ)
    → names_of lent ≡ Ok tt
    → system_name id lent.names ≡ Some (s, n)
    → (s + n ≤ length lent.area) × (1 ≤ n) × (is_ascii (take n (drop s lent.area)) ≡ true)
system_name-of-good lent id s n e f = go (eqb (top_byte id) 1) f
  where
    go
        : (b : Bool)
        → cond b (name_by_id id lent.names) None ≡ Some (s, n)
        → (s + n ≤ length lent.area) × (1 ≤ n) × (is_ascii (take n (drop s lent.area)) ≡ true)
    go true g = name_of-of-good lent.area 0 0 lent.names id s n e g
    go false g = let z : ◌≡◌ {A = ℕ} 0 1 = cc in absurd (let y : ⊥ = omega arith in y)
