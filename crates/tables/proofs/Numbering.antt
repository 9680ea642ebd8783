-- Laws of specs/Inner/Numbered.antt: equal texts are an equivalence (`same_back`, `same-on`); nothing is known at first (`numbered-none`); what is told of
-- two indices (`told_same`, `told-other`, `told_as`); which index stands for a text (`first-met`, `first-own`); and one index more
-- (`numbered_more`). No contract cites this file.
use Prim.Native.Nat.{ℕ, zero, suc, ◌+◌, ◌-◌, ◌/◌, ◌%◌, ◌<◌}
use native.Mathlib.Omega.{arith}
use mathlib.Core.Path.{◌≡◌, refl, sym, ◌∙◌, ap}
use mathlib.Core.Bool.{Bool, true, false, ◌&&◌, true≢false}
use mathlib.Core.List.{List}
use borrow.Author.Tests.{eqb-true, eqb-false, eq-eqb, ne_eqb}
use lib.ListN.{length, get_or, set, replicate, length-set}
use lib.Seq.{get_or-set_same, get_or-set_other}
use lib.Dec.{eqb}
use Rattle.utf.specs.Text.{eq_bytes}
use Rattle.utf.proofs.Tables.{both_true}
use Rattle.utf.proofs.Equal.{eq_bytes-refl, eq_bytes-true}
use Rattle.system_types.specs.Names.{Lent}
use Rattle.text.specs.Content.{Content, content_of, has_text, text_in, same_text, same_name}
use Rattle.text.specs.declared.Head.{Head}
use Rattle.text.specs.declared.Found.{Found}
use Rattle.text.specs.Inner.Found.{part_of, Finds, is_found}
use Rattle.text.proofs.Read.{same_text-self, is_found-text}
use Rattle.tables.specs.Inner.Keys.{hash_in}
use Rattle.tables.specs.Inner.Numbered.{place_count, word_count, seen_at, first_at, number_at, mark_of, Numbered, met_at, FirstOf}
use Rattle.tables.proofs.Hashes.{hash_in-same}

-- ---- equal texts

pub record Equal (a b : Content) : Type 0 where
  pub left : has_text a ≡ true
  pub right : has_text b ≡ true
  pub texts : text_in a ≡ text_in b

equal_of : (a b : Content) → same_text a b ≡ true → Equal a b
equal_of a b e =
    let p = both_true (has_text a) (has_text b && eq_bytes (text_in a) (text_in b)) e in
    let q = both_true (has_text b) (eq_bytes (text_in a) (text_in b)) p.1 in
    record { left = p.0; right = q.0; texts = eq_bytes-true (text_in a) (text_in b) q.1 }

of-equal : (a b : Content) → Equal a b → same_text a b ≡ true
of-equal a b e =
    ap (λ (x : Bool). x && (has_text b && eq_bytes (text_in a) (text_in b))) e.left
    ∙ ap (λ (x : Bool). x && eq_bytes (text_in a) (text_in b)) e.right
    ∙ ap (λ (x : List ℕ). eq_bytes x (text_in b)) e.texts
    ∙ eq_bytes-refl (text_in b)

pub same_text-back : (a b : Content) → same_text a b ≡ true → same_text b a ≡ true
same_text-back a b e = let q = equal_of a b e in of-equal b a record { left = q.right; right = q.left; texts = sym q.texts }

pub same_text-on : (a b c : Content) → same_text a b ≡ true → same_text b c ≡ true → same_text a c ≡ true
same_text-on a b c e f =
    let p = equal_of a b e in
    let q = equal_of b c f in
    of-equal a c record { left = p.left; right = q.right; texts = p.texts ∙ q.texts }

false-by : (b : Bool) → (b ≡ true → ⊥) → b ≡ false
false-by true n = absurd (n refl)
false-by false n = refl

-- what the code compares is what two indices stand for: both found, and one of them known to be the other
module _ (h : Head) (t : List ℕ) (lent : Lent) (i j : ℕ) where
  pub same_parts : (f g : Found) {r : Bool} → Finds t lent h i f → Finds t lent h j g
      → r ≡ same_text (part_of h.utf16 t lent.area f) (part_of h.utf16 t lent.area g) → r ≡ same_name h t lent i j
  same_parts f g x y e =
      e ∙ ap (λ (k : Content). same_text k (part_of h.utf16 t lent.area g)) x.same ∙ ap (λ (k : Content). same_text (content_of h t lent i) k) y.same

  pub same-own : {r : Bool} → r ≡ has_text (content_of h t lent i) → i ≡ j → r ≡ same_name h t lent i j
  same-own e q = e ∙ sym (same_text-self (content_of h t lent i)) ∙ ap (λ (k : ℕ). same_name h t lent i k) q

  pub found-own : (g : Found) {r : Bool} → Finds t lent h j g → r ≡ is_found g → i ≡ j → r ≡ same_name h t lent i j
  found-own g y e q =
      same-own (e ∙ is_found-text h.utf16 t lent.area g ∙ ap has_text y.same ∙ ap (λ (k : ℕ). has_text (content_of h t lent k)) (sym q)) q

-- one place more that has another text
pub more-false : (f : ℕ → Bool) (q : ℕ) → ((k : ℕ) → k < q → f k ≡ false) → f q ≡ false → (k : ℕ) → k < q + 1 → f k ≡ false
more-false f q all here k l = go (eqb k q) refl
  where
    go : (z : Bool) → eqb k q ≡ z → f k ≡ false
    go true z = ap f (eqb-true k q z) ∙ here
    go false z = let n = eqb-false k q z in all k (omega (arith, l, n))

-- ---- what is known

get_d-zeros : (n j : ℕ) → ◌≡◌ {A = ℕ} (get_or (replicate n 0) j 0) 0
get_d-zeros zero j = refl
get_d-zeros (suc n) zero = refl
get_d-zeros (suc n) (suc j) = get_d-zeros n j

module _ (h : Head) (t : List ℕ) (lent : Lent) where
  pub numbered-none : (n : ℕ) → n ≡ word_count → length (replicate {A = ℕ} n 0) ≡ n → Numbered h t lent (replicate n 0)
  numbered-none n e l = record {
    room = l ∙ e;
    number = λ j i p q. absurd (never j i q);
    first = λ j i p q. absurd (never j i q);
    alike = λ j k a b p q r s d. absurd (never j a r);
  }
    where
      never : (j i : ℕ) → seen_at (replicate n 0) j ≡ i + 1 → ⊥
      never j i q = let z : ⊥ = omega (arith, get_d-zeros n j, q) in z

  module _ (m : List ℕ) (k : Numbered h t lent m) where
    -- of the words a and b at two places
    pub told_same : (i j p q : ℕ) → p < place_count → q < place_count → seen_at m p ≡ i + 1 → seen_at m q ≡ j + 1 → first_at m p ≡ first_at m q
        → same_name h t lent i j ≡ true
    told_same i j p q a b e f g =
        let x : same_name h t lent i (first_at m q) ≡ true = ap (λ (n : ℕ). same_name h t lent i n) (sym g) ∙ k.first p i a e in
        same_text-on (content_of h t lent i) (content_of h t lent (first_at m q)) (content_of h t lent j) x
        (same_text-back (content_of h t lent j) (content_of h t lent (first_at m q)) (k.first q j b f))

    pub told-other : (i j p q : ℕ) → p < place_count → q < place_count → seen_at m p ≡ i + 1 → seen_at m q ≡ j + 1 → (first_at m p ≡ first_at m q → ⊥)
        → same_name h t lent i j ≡ false
    told-other i j p q a b e f g = false-by (same_name h t lent i j) (λ s. g (k.alike p q i j a b e f s))

    -- what the code answers: whether one index stands for both
    pub told_as : (i j p q : ℕ) → p < place_count → q < place_count → seen_at m p ≡ i + 1 → seen_at m q ≡ j + 1
        → eqb (first_at m p) (first_at m q) ≡ same_name h t lent i j
    told_as i j p q a b e f = go (eqb (first_at m p) (first_at m q)) refl
      where
        go : (z : Bool) → eqb (first_at m p) (first_at m q) ≡ z → eqb (first_at m p) (first_at m q) ≡ same_name h t lent i j
        go true z = z ∙ sym (told_same i j p q a b e f (eqb-true (first_at m p) (first_at m q) z))
        go false z = z ∙ sym (told-other i j p q a b e f (eqb-false (first_at m p) (first_at m q) z))

    -- ---- which index stands for a text

    pub met-none : (i q : ℕ) → seen_at m q ≡ 0 → false ≡ met_at (same_name h t lent) m i q
    met-none i q e = rw (eq-eqb (seen_at m q) 0 e)

    met_some : (i q : ℕ) → (seen_at m q ≡ 0 → ⊥) → met_at (same_name h t lent) m i q ≡ same_name h t lent i (seen_at m q - 1)
    met_some i q n = rw (ne_eqb (seen_at m q) 0 n)

    pub met-other : (i q number : ℕ) → q < place_count → (seen_at m q ≡ 0 → ⊥) → (number_at m q ≡ number → ⊥)
        → number ≡ hash_in 0 (content_of h t lent i) → false ≡ met_at (same_name h t lent) m i q
    met-other i q number p n d e =
        let seen : seen_at m q ≡ seen_at m q - 1 + 1 = omega (arith, n) in
        let other : same_name h t lent i (seen_at m q - 1) ≡ false =
        false-by (same_name h t lent i (seen_at m q - 1))
        (λ s. d (k.number q (seen_at m q - 1) p seen ∙ sym (hash_in-same 0 (content_of h t lent i) (content_of h t lent (seen_at m q - 1)) s) ∙ sym e)) in
        sym (met_some i q n ∙ other)

    -- at a place that has the same text
    pub first-met : (i q : ℕ) {r : Bool} → q < place_count → r ≡ met_at (same_name h t lent) m i q → r ≡ true → FirstOf (same_name h t lent) m i (first_at m q)
    first-met i q p e s = go (eqb (seen_at m q) 0) refl
      where
        go : (z : Bool) → eqb (seen_at m q) 0 ≡ z → FirstOf (same_name h t lent) m i (first_at m q)
        go true z = absurd (true≢false (sym s ∙ e ∙ sym (met-none i q (eqb-true (seen_at m q) 0 z))))
        go false z =
            let n : seen_at m q ≡ 0 → ⊥ = eqb-false (seen_at m q) 0 z in
            let seen : seen_at m q ≡ seen_at m q - 1 + 1 = omega (arith, n) in
            let same : same_name h t lent i (seen_at m q - 1) ≡ true = sym (met_some i q n) ∙ sym e ∙ s in
            let at = content_of h t lent in record {
              small = omega arith;
              own = same_text-on (at i) (at (seen_at m q - 1)) (at (first_at m q)) same (k.first q (seen_at m q - 1) p seen);
              others = λ l b lt f g. k.alike q l (seen_at m q - 1) b p lt seen f
                  (same_text-on (at (seen_at m q - 1)) (at i) (at b) (same_text-back (at i) (at (seen_at m q - 1)) same) g);
            }

    -- where no place has
    pub first-own : (i : ℕ) → i < 4294967295 → has_text (content_of h t lent i) ≡ true → ((q : ℕ) → q < place_count → met_at (same_name h t lent) m i q ≡ false)
        → FirstOf (same_name h t lent) m i i
    first-own i lt x none = record {
      small = omega (arith, lt);
      own = same_text-self (content_of h t lent i) ∙ x;
      others = λ l b below f g. absurd (true≢false (sym g ∙ sym (at_place l b f) ∙ none l below));
    }
      where
        at_place : (l b : ℕ) → seen_at m l ≡ b + 1 → met_at (same_name h t lent) m i l ≡ same_name h t lent i b
        at_place l b f =
            let n : seen_at m l ≡ 0 → ⊥ = λ z. (let y : ⊥ = omega (arith, f, z) in y) in
            let back : seen_at m l - 1 ≡ b = omega (arith, f) in
            met_some i l n ∙ ap (λ (y : ℕ). same_name h t lent i y) back

    -- ---- one index more

    module _ (p i first number : ℕ) (l : p < place_count) (f : FirstOf (same_name h t lent) m i first) (e : number ≡ hash_in 0 (content_of h t lent i))
      where
        abbrev marked : List ℕ
        marked = set m p (mark_of i first)

        abbrev more : List ℕ
        more = set marked (p + place_count) number

        room-marked : length marked ≡ word_count
        room-marked = length-set m p (mark_of i first) ∙ k.room

        word-own : get_or more p 0 ≡ mark_of i first
        word-own =
            get_or-set_other marked (p + place_count) p number 0 (λ z. (let y : ⊥ = omega (arith, z) in y))
            ∙ get_or-set_same m p (mark_of i first) 0 (omega (arith, l, k.room))

        word-other : (j : ℕ) → j < place_count → (j ≡ p → ⊥) → get_or more j 0 ≡ get_or m j 0
        word-other j b n =
            get_or-set_other marked (p + place_count) j number 0 (λ z. (let y : ⊥ = omega (arith, z, b) in y)) ∙ get_or-set_other m p j (mark_of i first) 0 n

        number-own : number_at more p ≡ number
        number-own = get_or-set_same marked (p + place_count) number 0 (omega (arith, l, room-marked))

        number-other : (j : ℕ) → j < place_count → (j ≡ p → ⊥) → number_at more j ≡ number_at m j
        number-other j b n =
            get_or-set_other marked (p + place_count) (j + place_count) number 0 (λ z. n (omega (arith, z)))
            ∙ get_or-set_other m p (j + place_count) (mark_of i first) 0 (λ z. (let y : ⊥ = omega (arith, z, l) in y))

        seen-own : seen_at more p ≡ i + 1
        seen-own = omega (arith, word-own, f.small)

        first-own-at : first_at more p ≡ first
        first-own-at = omega (arith, word-own, f.small)

        seen_other : (j : ℕ) → j < place_count → (j ≡ p → ⊥) → seen_at more j ≡ seen_at m j
        seen_other j b n = ap (λ (x : ℕ). x / 4294967296) (word-other j b n)

        first-other : (j : ℕ) → j < place_count → (j ≡ p → ⊥) → first_at more j ≡ first_at m j
        first-other j b n = ap (λ (x : ℕ). x % 4294967296) (word-other j b n)

        -- the index at the place p is i
        own_is : (j a : ℕ) → j ≡ p → seen_at more j ≡ a + 1 → i ≡ a
        own_is j a z q = let y : seen_at more p ≡ a + 1 = ap (λ (x : ℕ). seen_at more x) (sym z) ∙ q in omega (arith, y, seen-own)

        number-at : (j a : ℕ) → j < place_count → seen_at more j ≡ a + 1 → number_at more j ≡ hash_in 0 (content_of h t lent a)
        number-at j a b q = go (eqb j p) refl
          where
            go : (z : Bool) → eqb j p ≡ z → number_at more j ≡ hash_in 0 (content_of h t lent a)
            go true z =
                ap (λ (x : ℕ). number_at more x) (eqb-true j p z) ∙ number-own ∙ e
                ∙ ap (λ (x : ℕ). hash_in 0 (content_of h t lent x)) (own_is j a (eqb-true j p z) q)
            go false z = number-other j b (eqb-false j p z) ∙ k.number j a b (sym (seen_other j b (eqb-false j p z)) ∙ q)

        first-at : (j a : ℕ) → j < place_count → seen_at more j ≡ a + 1 → same_name h t lent a (first_at more j) ≡ true
        first-at j a b q = go (eqb j p) refl
          where
            go : (z : Bool) → eqb j p ≡ z → same_name h t lent a (first_at more j) ≡ true
            go true z =
                ap (λ (x : ℕ). same_name h t lent x (first_at more j)) (sym (own_is j a (eqb-true j p z) q))
                ∙ ap (λ (x : ℕ). same_name h t lent i x) (ap (λ (x : ℕ). first_at more x) (eqb-true j p z) ∙ first-own-at) ∙ f.own
            go false z =
                ap (λ (x : ℕ). same_name h t lent a x) (first-other j b (eqb-false j p z)) ∙ k.first j a b (sym (seen_other j b (eqb-false j p z)) ∙ q)

        -- the place p beside another
        beside : (j b : ℕ) → j < place_count → (j ≡ p → ⊥) → seen_at more j ≡ b + 1 → same_name h t lent i b ≡ true → first ≡ first_at more j
        beside j b lt n q s = f.others j b lt (sym (seen_other j lt n) ∙ q) s ∙ sym (first-other j lt n)

        alike_at : (x y a b : ℕ) → x < place_count → y < place_count → seen_at more x ≡ a + 1 → seen_at more y ≡ b + 1 → same_name h t lent a b ≡ true
            → first_at more x ≡ first_at more y
        alike_at x y a b u v q r s = go (eqb x p) (eqb y p) refl refl
          where
            own_first : (j : ℕ) → j ≡ p → first_at more j ≡ first
            own_first j z = ap (λ (n : ℕ). first_at more n) z ∙ first-own-at

            go : (z w : Bool) → eqb x p ≡ z → eqb y p ≡ w → first_at more x ≡ first_at more y
            go true true z w = own_first x (eqb-true x p z) ∙ sym (own_first y (eqb-true y p w))
            go true false z w =
                let is : same_name h t lent i b ≡ true = ap (λ (n : ℕ). same_name h t lent n b) (own_is x a (eqb-true x p z) q) ∙ s in
                own_first x (eqb-true x p z) ∙ beside y b v (eqb-false y p w) r is
            go false true z w =
                let back : same_name h t lent b a ≡ true = same_text-back (content_of h t lent a) (content_of h t lent b) s in
                let is : same_name h t lent i a ≡ true = ap (λ (n : ℕ). same_name h t lent n a) (own_is y b (eqb-true y p w) r) ∙ back in
                sym (own_first y (eqb-true y p w) ∙ beside x a u (eqb-false x p z) q is)
            go false false z w =
                first-other x u (eqb-false x p z)
                ∙ k.alike x y a b u v (sym (seen_other x u (eqb-false x p z)) ∙ q) (sym (seen_other y v (eqb-false y p w)) ∙ r) s
                ∙ sym (first-other y v (eqb-false y p w))

        numbered-set : Numbered h t lent more
        numbered-set = record {
          room = length-set marked (p + place_count) number ∙ room-marked;
          number = number-at;
          first = first-at;
          alike = alike_at;
        }

        pub numbered_more : {after : List ℕ} → after ≡ more → Numbered h t lent after
        numbered_more q = rw q numbered-set
