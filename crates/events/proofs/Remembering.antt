-- Laws of specs/Inner/Remembered.antt: a look told apart again (`look-state`, `look-step`); nothing is remembered at first (`remembers-none`), one
-- index more (`remembers-more`), and one long string more (`remembers-long`). No contract cites this file.
use Prim.Native.Nat.{ℕ, zero, suc, ◌+◌, ◌*◌, ◌/◌, ◌%◌, ◌≤◌, ◌<◌}
use native.Mathlib.Omega.{arith}
use mathlib.Core.Path.{◌≡◌, refl, sym, ◌∙◌, ap}
use mathlib.Core.Bool.{Bool, true, false, ◌&&◌, true≢false}
use mathlib.Core.List.{List}
use borrow.Author.Tests.{eqb-true, eqb-false, eq-eqb, ne_eqb, lt-ltb, le-ltb}
use lib.ListN.{length, get_or, set, replicate, take, drop, length-set}
use lib.Seq.{get_or-set_same, get_or-set_other}
use lib.Dec.{eqb, ltb}
use Rattle.utf.specs.Text.{Damage, whole, replaced, unpaired, cut as cut_text, state_number}
use Rattle.system_types.specs.Names.{Lent}
use Rattle.text.specs.Content.{Content, none, cut, some, content_of, damage_in, is_name, valid_by, state_in}
use Rattle.text.specs.Inner.Found.{whole_name}
use Rattle.text.specs.declared.Head.{Head}
use Rattle.text.specs.declared.NameState.{NameState}
use Rattle.text.specs.declared.NameState.TheVariants.{NoText, Invalid, Valid}
use Rattle.anomaly.specs.declared.ResAnomaly.TheVariants.{InvalidElementName, DamagedElementName}
use Rattle.events.specs.declared.Event.TheVariants.{Note}
use Rattle.events.specs.declared.Phase.TheVariants.{AtNamed, AtOpen}
use Rattle.events.specs.declared.Cursor.{Cursor}
use Rattle.events.specs.Inner.Steps.{to_step, open_step, name_step}
use Rattle.events.specs.Inner.Remembered.{look_by, look_of, state_by, look_step, mark_of, place_of, look_place, length_place, strings, words, Remembers}

-- ---- a look

pub state-most : (d : Damage) → state_number d ≤ 3
state-most whole = omega arith
state-most (replaced n) = omega arith
state-most unpaired = omega arith
state-most cut_text = omega arith

pub look-most : (d : ℕ) (s : NameState) → d ≤ 3 → look_by d s ≤ 8
look-most d NoText l = omega arith
look-most d Invalid l = omega (arith, l)
look-most d Valid l = omega (arith, l)

pub look_of-most : (k : Content) → look_of k ≤ 8
look_of-most k = look-most (state_number (damage_in k)) (state_in k) (state-most (damage_in k))

-- the sort of name is told by the look
pub look-state : (d : ℕ) (s : NameState) → d ≤ 3 → state_by (look_by d s) ≡ s
look-state d NoText l = refl
look-state d Invalid l =
    let a : eqb (2 * d) 8 ≡ false = ne_eqb (2 * d) 8 (λ e. let z : ⊥ = omega (arith, e, l) in z) in
    let b : eqb (2 * d % 2) 1 ≡ false = ne_eqb (2 * d % 2) 1 (λ e. let z : ⊥ = omega (arith, e) in z) in
    rw (a, b)
look-state d Valid l =
    let a : eqb (2 * d + 1) 8 ≡ false = ne_eqb (2 * d + 1) 8 (λ e. let z : ⊥ = omega (arith, e) in z) in
    let b : eqb ((2 * d + 1) % 2) 1 ≡ true = eq-eqb ((2 * d + 1) % 2) 1 (omega arith) in
    rw (a, b)

-- the step at a name, by the case of the look, and as the look tells it
module _ (c : Cursor) where
  pub look-step : (k : Content) → look_step c (look_of k) ≡ name_step c (state_number (damage_in k)) (state_in k)
  look-step none = refl
  look-step cut = refl
  look-step (some w s) = go (state_number (damage_in (some w s))) (is_name (some w s)) (state-most (damage_in (some w s)))
    where
      go : (d : ℕ) (b : Bool) → d ≤ 3 → look_step c (look_by d (valid_by b)) ≡ name_step c d (valid_by b)
      go zero true m = refl
      go zero false m = refl
      go (suc d) true m =
          let a : eqb (2 * suc d + 1) 1 ≡ false = ne_eqb (2 * suc d + 1) 1 (λ e. let z : ⊥ = omega (arith, e) in z) in
          let b : eqb (2 * suc d + 1) 8 ≡ false = ne_eqb (2 * suc d + 1) 8 (λ e. let z : ⊥ = omega (arith, e) in z) in
          let l : ltb (2 * suc d + 1) 2 ≡ false = le-ltb (2 * suc d + 1) 2 (omega arith) in
          let h : (2 * suc d + 1) / 2 ≡ suc d = omega arith in
          let n : eqb (suc d) 0 ≡ false = ne_eqb (suc d) 0 (λ e. let z : ⊥ = omega (arith, e) in z) in
          rw (a, b, l, h, n)
      go (suc d) false m =
          let a : eqb (2 * suc d) 1 ≡ false = ne_eqb (2 * suc d) 1 (λ e. let z : ⊥ = omega (arith, e) in z) in
          let b : eqb (2 * suc d) 8 ≡ false = ne_eqb (2 * suc d) 8 (λ e. let z : ⊥ = omega (arith, e, m) in z) in
          let l : ltb (2 * suc d) 2 ≡ false = le-ltb (2 * suc d) 2 (omega arith) in
          let h : 2 * suc d / 2 ≡ suc d = omega arith in
          let n : eqb (suc d) 0 ≡ false = ne_eqb (suc d) 0 (λ e. let z : ⊥ = omega (arith, e) in z) in
          rw (a, b, l, h, n)

-- a valid name that is whole
pub look-whole : (k : Content) → whole_name k ≡ true → look_of k ≡ 1
look-whole none e = absurd (true≢false (sym e))
look-whole cut e = absurd (true≢false (sym e))
look-whole (some w s) e = go (state_number (damage_in (some w s))) (is_name (some w s)) e
  where
    go : (d : ℕ) (b : Bool) → (b && eqb d 0) ≡ true → look_by d (valid_by b) ≡ 1
    go d true e = ap (λ (x : ℕ). look_by x Valid) (eqb-true d 0 e)
    go d false e = absurd (true≢false (sym e))

-- ---- what is remembered

get_d-zeros : (n j : ℕ) → ◌≡◌ {A = ℕ} (get_or (replicate n 0) j 0) 0
get_d-zeros zero j = refl
get_d-zeros (suc n) zero = refl
get_d-zeros (suc n) (suc j) = get_d-zeros n j

-- the memory with a long string more: what stands in its two words, and elsewhere
abbrev with_long : List ℕ → ℕ → ℕ → ℕ → ℕ → List ℕ
with_long m p at n look = set (set m (look_place p) (16 * at + look)) (length_place p) n

module _ (m : List ℕ) (p at n look : ℕ) where
  long-other : (j : ℕ) → (j ≡ look_place p → ⊥) → (j ≡ length_place p → ⊥) → get_or (with_long m p at n look) j 0 ≡ get_or m j 0
  long-other j a b = get_or-set_other (set m (look_place p) (16 * at + look)) (length_place p) j n 0 b ∙ get_or-set_other m (look_place p) j (16 * at + look) 0 a

  long-first : p < strings → length m ≡ words → get_or (with_long m p at n look) (look_place p) 0 ≡ 16 * at + look
  long-first l r =
      get_or-set_other (set m (look_place p) (16 * at + look)) (length_place p) (look_place p) n 0 (λ z. let w : ⊥ = omega (arith, z) in w)
      ∙ get_or-set_same m (look_place p) (16 * at + look) 0 (omega (arith, l, r))

  pub long-there : p < strings → length m ≡ words → length_place p < length (set m (look_place p) (16 * at + look))
  long-there l r = rw (length-set m (look_place p) (16 * at + look)) (omega (arith, l, r))

  long-second : p < strings → length m ≡ words → get_or (with_long m p at n look) (length_place p) 0 ≡ n
  long-second l r = get_or-set_same (set m (look_place p) (16 * at + look)) (length_place p) n 0 (long-there l r)

module _ (h : Head) (t : List ℕ) (lent : Lent) where
  pub remembers-none : (n : ℕ) → n ≡ words → length (replicate {A = ℕ} n 0) ≡ n → Remembers h t lent (replicate n 0)
  remembers-none n e l = record {
    room = l ∙ e;
    tells = λ i q. absurd (let z : ⊥ = omega (arith, get_d-zeros n (place_of i), q) in z);
    longs = λ p at k b m a q. absurd (let z : ⊥ = omega (arith, get_d-zeros n (length_place p), m, q) in z);
  }

  -- an index more
  pub remembers-more : (m : List ℕ) (i look : ℕ) → look ≡ look_of (content_of h t lent i) → Remembers h t lent m
      → Remembers h t lent (set m (place_of i) (mark_of i look))
  remembers-more m i look e r = record {
    room = length-set m (place_of i) (mark_of i look) ∙ r.room;
    tells = λ k q. go k (eqb (place_of k) (place_of i)) refl q;
    longs = λ p at n b l a q.
        let first = other (look_place p) (omega arith) in
        let second = other (length_place p) (omega arith) in
        ap (λ (x : ℕ). x % 16) first ∙ r.longs p at n b l (ap (λ (x : ℕ). x / 16) (sym first) ∙ a) (sym second ∙ q);
  }
    where
      bound : look ≤ 8
      bound = rw e (look_of-most (content_of h t lent i))

      other : (j : ℕ) → 1024 ≤ j → get_or (set m (place_of i) (mark_of i look)) j 0 ≡ get_or m j 0
      other j l = get_or-set_other m (place_of i) j (mark_of i look) 0 (λ q. let z : ⊥ = omega (arith, q, l) in z)

      mine : (k : ℕ) → place_of k ≡ place_of i → get_or (set m (place_of i) (mark_of i look)) (place_of k) 0 ≡ mark_of i look
      mine k q =
          ap (λ (y : ℕ). get_or (set m (place_of i) (mark_of i look)) y 0) q ∙ get_or-set_same m (place_of i) (mark_of i look) 0 (omega (arith, r.room))

      go : (k : ℕ) (b : Bool) → eqb (place_of k) (place_of i) ≡ b → get_or (set m (place_of i) (mark_of i look)) (place_of k) 0 / 16 ≡ k / 1024 + 1
          → get_or (set m (place_of i) (mark_of i look)) (place_of k) 0 % 16 ≡ look_of (content_of h t lent k)
      go k true b q =
          let p : place_of k ≡ place_of i = eqb-true (place_of k) (place_of i) b in
          let same : i ≡ k = omega (arith, mine k p, p, q, bound) in
          let low : get_or (set m (place_of i) (mark_of i look)) (place_of k) 0 % 16 ≡ look = omega (arith, mine k p, bound) in
          low ∙ e ∙ ap (λ (y : ℕ). look_of (content_of h t lent y)) same
      go k false b q =
          let kept = get_or-set_other m (place_of i) (place_of k) (mark_of i look) 0 (eqb-false (place_of k) (place_of i) b) in
          ap (λ (x : ℕ). x % 16) kept ∙ r.tells k (ap (λ (x : ℕ). x / 16) (sym kept) ∙ q)

  -- a long string more
  pub remembers-long : (m : List ℕ) (p at n look : ℕ) → p < strings → look ≡ look_of (some h.utf16 (take n (drop at t))) → Remembers h t lent m
      → Remembers h t lent (with_long m p at n look)
  remembers-long m p at n look l e r = record {
    room = length-set (set m (look_place p) (16 * at + look)) (length_place p) n ∙ length-set m (look_place p) (16 * at + look) ∙ r.room;
    tells = λ i q.
        let kept = long-other m p at n look (place_of i) (λ z. let w : ⊥ = omega (arith, z) in w) (λ z. let w : ⊥ = omega (arith, z) in w) in
        ap (λ (x : ℕ). x % 16) kept ∙ r.tells i (ap (λ (x : ℕ). x / 16) (sym kept) ∙ q);
    longs = λ q a k b i x y. go q a k b i (eqb q p) refl x y;
  }
    where
      bound : look ≤ 8
      bound = rw e (look_of-most (some h.utf16 (take n (drop at t))))

      go : (q a k : ℕ) → q < strings → 1 ≤ k → (b : Bool) → eqb q p ≡ b → get_or (with_long m p at n look) (look_place q) 0 / 16 ≡ a
          → get_or (with_long m p at n look) (length_place q) 0 ≡ k
          → get_or (with_long m p at n look) (look_place q) 0 % 16 ≡ look_of (some h.utf16 (take k (drop a t)))
      go q a k f i true b x y =
          let part : q ≡ p = eqb-true q p b in
          let mine = ap (λ (j : ℕ). get_or (with_long m p at n look) (look_place j) 0) part ∙ long-first m p at n look l r.room in
          let count = ap (λ (j : ℕ). get_or (with_long m p at n look) (length_place j) 0) part ∙ long-second m p at n look l r.room in
          let here : at ≡ a = omega (arith, mine, x, bound) in
          let much : n ≡ k = omega (arith, count, y) in
          let low : get_or (with_long m p at n look) (look_place q) 0 % 16 ≡ look = omega (arith, mine, bound) in
          low ∙ e ∙ ap (λ (z : ℕ). look_of (some h.utf16 (take z (drop at t)))) much ∙ ap (λ (z : ℕ). look_of (some h.utf16 (take k (drop z t)))) here
      go q a k f i false b x y =
          let apart : q ≡ p → ⊥ = eqb-false q p b in
          let first = long-other m p at n look (look_place q) (λ z. apart (omega (arith, z))) (λ z. let w : ⊥ = omega (arith, z, f) in w) in
          let second = long-other m p at n look (length_place q) (λ z. let w : ⊥ = omega (arith, z, l) in w) (λ z. apart (omega (arith, z))) in
          ap (λ (z : ℕ). z % 16) first ∙ r.longs q a k f i (ap (λ (z : ℕ). z / 16) (sym first) ∙ x) (sym second ∙ y)
