-- Laws of the links: the search goes the way of the key, and a record more hangs at its end. No contract cites this file.
-- In order: one of the records or none (`repeat-at`, `repeat-never`), records in two parts (`repeat_split`), the search (`Walks`), a way one step
-- longer (`way_on`), a record more (`hung-first`, `hung-more`), and keys that agree (`hung-as`).
use Rattle.std.specs.Prelude.{Some, None}
use Prim.Native.Nat.{ℕ, zero, suc, ◌+◌, ◌-◌, ◌*◌, ◌/◌, ◌%◌, ◌≤◌, ◌<◌}
use mathlib.Core.Path.{◌≡◌, refl, sym, ap, subst, ◌∙◌}
use mathlib.Core.Logic.{◌⊎◌, inl, inr}
use mathlib.Core.Bool.{Bool, true, false, ◌&&◌, ◌||◌, true≢false}
use mathlib.Core.List.{List}
use native.Mathlib.Omega.{arith}
use lib.Dec.{eqb, ltb}
use lib.ListN.{length, take, drop, get_or, set, length-set, length-drop}
use lib.Seq.{get_or-set_same, get_or-set_other, drop_at, drop-drop, length-take-le, take-add, take-take}
use borrow.Author.Tests.{eqb-true, eqb-false, eq-eqb, ltb-true, ltb-false}
use Rattle.records.specs.Words.{attribute_width, attribute_words}
use Rattle.records.specs.Repeats.{Rule, by_prefix, repeats_one, is_repeat}
use Rattle.tables.specs.Inner.Keys.{Key, keys_of}
use Rattle.tables.specs.Inner.Ways.{link_width, link_key, child_of, Leads, there, down, Reached, Hung, Ends, same_at, Sought}
use Rattle.tables.proofs.Keys.{by_prefix-at}

-- ---- one of the records, none of the records

or_left : (a b : Bool) → a ≡ true → (a || b) ≡ true
or_left a b e = rw e

or_right : (a : Bool) {b : Bool} → b ≡ true → (a || b) ≡ true
or_right true f = refl
or_right false f = f

or-none : (a : Bool) {b : Bool} → (a ≡ true → ⊥) → b ≡ false → (a || b) ≡ false
or-none true n f = absurd (n refl)
or-none false n f = f

or_assoc : (x y z : Bool) → (x || (y || z)) ≡ ((x || y) || z)
or_assoc true y z = refl
or_assoc false y z = refl

pub drop-take : (a m : ℕ) (w : List ℕ) → a ≤ m → a ≤ length w → drop a (take m w) ≡ take (m - a) (drop a w)
drop-take a m w h l =
    let e : m ≡ a + (m - a) = omega arith in
    ap (λ (k : ℕ). drop a (take k w)) e ∙ ap (drop a) (take-add a (m - a) w) ∙ drop_at (take a w) (take (m - a) (drop a w)) a (length-take-le a w l)

module _ (rule : Rule) (new : List ℕ) where
  -- record j + 1 is record j of those behind the first
  at_next : (j : ℕ) (w : List ℕ) → rule new (take attribute_width (drop (attribute_width * suc j) w))
      ≡ rule new (take attribute_width (drop (attribute_width * j) (drop attribute_width w)))
  at_next j w =
      let q : attribute_width * suc j ≡ attribute_width + attribute_width * j = omega arith in
      ap (λ (k : ℕ). rule new (take attribute_width (drop k w))) q
      ∙ ap (λ (l : List ℕ). rule new (take attribute_width l)) (sym (drop-drop (attribute_width * j) attribute_width w))

  one_at : (n j : ℕ) (w : List ℕ) → j < n → rule new (take attribute_width (drop (attribute_width * j) w)) ≡ true → repeats_one rule new n w ≡ true
  unfolding repeats_one
  one_at zero j w l e = absurd (let z : ⊥ = omega arith in z)
  one_at (suc n) zero w l e = or_left (rule new (take attribute_width w)) (repeats_one rule new n (drop attribute_width w)) e
  one_at (suc n) (suc j) w l e = or_right (rule new (take attribute_width w)) (one_at n j (drop attribute_width w) (omega arith) (sym (at_next j w) ∙ e))

  never : (n : ℕ) (w : List ℕ) → ((j : ℕ) → j < n → rule new (take attribute_width (drop (attribute_width * j) w)) ≡ true → ⊥)
      → repeats_one rule new n w ≡ false
  unfolding repeats_one
  never zero w h = refl
  never (suc n) w h =
      or-none (rule new (take attribute_width w)) (h 0 (omega arith)) (never n (drop attribute_width w) (λ j l e. h (suc j) (omega arith) (at_next j w ∙ e)))

module _ (same : ℕ → ℕ → Bool) (owner p n kind value ns : ℕ) (w : List ℕ) where
  abbrev new : List ℕ
  new = attribute_words owner p n kind value ns

  pub repeat-at : (j : ℕ) → j < length w / attribute_width → same_at same p n ns w (attribute_width * j) ≡ true → is_repeat (by_prefix same) new w ≡ true
  repeat-at j l e = one_at (by_prefix same) new (length w / attribute_width) j w l (by_prefix-at same owner p n kind value ns w (attribute_width * j) ∙ e)

  pub repeat-never : ((j : ℕ) → j < length w / attribute_width → same_at same p n ns w (attribute_width * j) ≡ true → ⊥)
      → is_repeat (by_prefix same) new w ≡ false
  repeat-never h =
      never (by_prefix same) new (length w / attribute_width) w
      (λ j l e. h j l (sym (by_prefix-at same owner p n kind value ns w (attribute_width * j)) ∙ e))

-- ---- records in two parts

module _ (rule : Rule) (new : List ℕ) where
  split-more : (a b : ℕ) (w : List ℕ) → repeats_one rule new (a + b) w ≡ (repeats_one rule new a w || repeats_one rule new b (drop (attribute_width * a) w))
  unfolding repeats_one
  split-more zero b w = let q : 0 + b ≡ b = omega arith in rw q
  split-more (suc a) b w =
      let sum : suc a + b ≡ suc (a + b) = omega arith in
      let q : attribute_width + attribute_width * a ≡ attribute_width * suc a = omega arith in
      let places : drop (attribute_width * a) (drop attribute_width w) ≡ drop (attribute_width * suc a) w =
      drop-drop (attribute_width * a) attribute_width w ∙ ap (λ (k : ℕ). drop k w) q in
      ap (λ (m : ℕ). repeats_one rule new m w) sum
      ∙ ap (λ (r : Bool). rule new (take attribute_width w) || r)
      (split-more a b (drop attribute_width w) ∙ ap (λ (l : List ℕ). repeats_one rule new a (drop attribute_width w) || repeats_one rule new b l) places)
      ∙ or_assoc (rule new (take attribute_width w)) (repeats_one rule new a (drop attribute_width w))
      (repeats_one rule new b (drop (attribute_width * suc a) w))

  front_same : (a m : ℕ) (w : List ℕ) → attribute_width * a ≤ m → attribute_width * a ≤ length w → repeats_one rule new a (take m w) ≡ repeats_one rule new a w
  unfolding repeats_one
  front_same zero m w h l = refl
  front_same (suc a) m w h l =
      let d : length (drop attribute_width w) ≡ length w - attribute_width = length-drop attribute_width w in
      let first : take attribute_width (take m w) ≡ take attribute_width w = take-take attribute_width m w (omega arith) in
      let rest : repeats_one rule new a (drop attribute_width (take m w)) ≡ repeats_one rule new a (drop attribute_width w) =
      ap (repeats_one rule new a) (drop-take attribute_width m w (omega arith) (omega arith))
      ∙ front_same a (m - attribute_width) (drop attribute_width w) (omega arith) (omega arith) in
      ap (λ (x : List ℕ). rule new x || repeats_one rule new a (drop attribute_width (take m w))) first
      ∙ ap (λ (r : Bool). rule new (take attribute_width w) || r) rest

  -- one of the front
  pub repeat-front : (k : ℕ) (w f : List ℕ) → attribute_width * k ≤ length w → f ≡ take (attribute_width * k) w → is_repeat rule new f ≡ true
      → is_repeat rule new w ≡ true
  repeat-front k w f h e some =
      let n : length w / attribute_width ≡ k + (length w - attribute_width * k) / attribute_width = omega arith in
      let lf : length f ≡ attribute_width * k = ap length e ∙ length-take-le (attribute_width * k) w h in
      let nf : length f / attribute_width ≡ k = omega arith in
      let front : repeats_one rule new k w ≡ true =
      sym (front_same k (attribute_width * k) w (omega arith) h) ∙ ap (repeats_one rule new k) (sym e)
      ∙ ap (λ (m : ℕ). repeats_one rule new m f) (sym nf) ∙ some in
      ap (λ (m : ℕ). repeats_one rule new m w) n ∙ split-more k _ w
      ∙ or_left (repeats_one rule new k w) (repeats_one rule new ((length w - attribute_width * k) / attribute_width) (drop (attribute_width * k) w)) front

  -- the front f, and the records behind it
  pub repeat_split : (k : ℕ) (w f : List ℕ) → attribute_width * k ≤ length w → f ≡ take (attribute_width * k) w → is_repeat rule new f ≡ false
      → is_repeat rule new w ≡ is_repeat rule new (drop (attribute_width * k) w)
  repeat_split k w f h e none =
      let n : length w / attribute_width ≡ k + (length w - attribute_width * k) / attribute_width = omega arith in
      let lf : length f ≡ attribute_width * k = ap length e ∙ length-take-le (attribute_width * k) w h in
      let nf : length f / attribute_width ≡ k = omega arith in
      let front : repeats_one rule new k w ≡ false =
      sym (front_same k (attribute_width * k) w (omega arith) h) ∙ ap (repeats_one rule new k) (sym e)
      ∙ ap (λ (m : ℕ). repeats_one rule new m f) (sym nf) ∙ none in
      ap (λ (m : ℕ). repeats_one rule new m w) n ∙ split-more k _ w
      ∙ ap (λ (r : Bool). r || repeats_one rule new ((length w - attribute_width * k) / attribute_width) (drop (attribute_width * k) w)) front
      ∙ ap (λ (m : ℕ). repeats_one rule new (m / attribute_width) (drop (attribute_width * k) w)) (sym (length-drop (attribute_width * k) w))

-- ---- the search

below_of : (n : ℕ) (s : List ℕ) (j f i g : ℕ) → (i ≡ j → ⊥) → Leads n s j f i g
    → (i < child_of s i g) × (child_of s i g < n) × Reached n s j (child_of s i g) (g / 2)
below_of n s j f i g d (there e q) = absurd (d e)
below_of n s j f i g d (down l m r) = (l, m, (f, r))

pub way_on : (n : ℕ) (s : List ℕ) (e f i g : ℕ) → Leads n s e f i g → e < child_of s e f → child_of s e f < n → Leads n s (child_of s e f) (f / 2) i g
way_on n s e f i g (there p q) l m =
    let c : child_of s i g ≡ child_of s e f = rw (p, q) in
    down {i = i} {g = g} (omega (arith, l, c, p)) (omega (arith, m, c)) (there c (ap (λ (x : ℕ). x / 2) q))
way_on n s e f i g (down a b r) l m = down a b (way_on n s e f (child_of s i g) (g / 2) r l m)

-- record i is on the way, and what is repeated is on the way from here
pub record Walks (key : Key) (same : ℕ → ℕ → Bool) (w s : List ℕ) (k p n ns i g : ℕ) : Type 0 where
  pub below : i < length w / attribute_width
  pub way : Leads (length w / attribute_width) s i g 0 k
  pub all : Hung (keys_of key w) s (length w / attribute_width) → k ≡ key p n ns → (j : ℕ) → j < length w / attribute_width
      → same_at same p n ns w (attribute_width * j) ≡ true → Reached (length w / attribute_width) s j i g

module _ (key : Key) (same : ℕ → ℕ → Bool) (w s : List ℕ) (k p n ns : ℕ) (agree : (j : ℕ) → same_at same p n ns w
    (attribute_width * j) ≡ true → keys_of key w j ≡ key p n ns) where
  abbrev N : ℕ
  N = length w / attribute_width

  -- no record at all
  pub sought-none : N ≡ 0 → Sought key same w s k p n ns (Some (record { at = 0; left = k }))
  sought-none z = record {
    answer = λ _ _ owner kind value. sym (repeat-never same owner p n kind value ns w (λ j l e. let y : ⊥ = omega arith in y));
    ends = λ l. absurd (let y : ⊥ = omega arith in y);
  }

  pub walks-first : 0 < N → Walks key same w s k p n ns 0 k
  walks-first some = record {
    below = some;
    way = there refl refl;
    all = λ hung ek j l e. subst (λ (m : ℕ). Reached N s j 0 m) (agree j e ∙ sym ek) (hung.reach j l);
  }

  module _ (i g : ℕ) (a : Walks key same w s k p n ns i g) where
    abbrev hit : Bool
    hit = eqb (get_or s (link_width * i + link_key) 0) k && same_at same p n ns w (attribute_width * i)

    pub walks-found : (r : Bool) → r ≡ hit → r ≡ true → Sought key same w s k p n ns None
    walks-found r e f = record {
      answer = λ _ _ owner kind value. sym (repeat-at same owner p n kind value ns w i a.below (here (eqb (get_or s (link_width * i + link_key) 0) k)
          (sym e ∙ f)));
      ends = tt;
    }
      where
        here : (b : Bool) → (b && same_at same p n ns w (attribute_width * i)) ≡ true → same_at same p n ns w (attribute_width * i) ≡ true
        here true q = q
        here false q = absurd (true≢false (sym q))

    module _ (r : Bool) (e : r ≡ hit) (f : r ≡ false) where
      not-here : Hung (keys_of key w) s N → k ≡ key p n ns → (j : ℕ) → same_at same p n ns w (attribute_width * j) ≡ true → i ≡ j → ⊥
      not-here hung ek j q d =
          let at_i : same_at same p n ns w (attribute_width * i) ≡ true = ap (λ (x : ℕ). same_at same p n ns w (attribute_width * x)) d ∙ q in
          let word : get_or s (link_width * i + link_key) 0 ≡ k = hung.told i a.below ∙ agree i at_i ∙ sym ek in
          let both : hit ≡ true = rw (eq-eqb _ _ word) at_i in
          true≢false (sym both ∙ sym e ∙ f)

      pub walks_next : (c : ℕ) → c ≡ child_of s i g → i < c → c < N → Walks key same w s k p n ns c (g / 2)
      walks_next c q l m =
          let l' : i < child_of s i g = omega (arith, q) in
          let m' : child_of s i g < N = omega (arith, q) in
          record {
            below = m;
            way = subst (λ (x : ℕ). Leads N s x (g / 2) 0 k) (sym q) (way_on N s i g 0 k a.way l' m');
            all = λ hung ek j o u.
                let r = a.all hung ek j o u in
                subst (λ (x : ℕ). Reached N s j x (g / 2)) (sym q) (below_of N s j r.0 i g (not-here hung ek j u) r.1).2;
          }

      pub walks-none : (c : ℕ) → c ≡ child_of s i g → ((c ≤ i) ⊎ (N ≤ c)) → Sought key same w s k p n ns (Some (record { at = i; left = g }))
      walks-none c q o = record {
        answer = λ hung ek owner kind value. sym (repeat-never same owner p n kind value ns w (λ j l u. over hung ek j l u o));
        ends = λ _. record { below = a.below; way = a.way; last = subst (λ (x : ℕ). (x ≤ i) ⊎ (N ≤ x)) q o };
      }
        where
          over : Hung (keys_of key w) s N → k ≡ key p n ns → (j : ℕ) → j < N → same_at same p n ns w (attribute_width * j) ≡ true → ((c ≤ i) ⊎ (N ≤ c)) → ⊥
          over hung ek j l u (inl x) =
              let r = a.all hung ek j l u in
              let b = below_of N s j r.0 i g (not-here hung ek j u) r.1 in
              omega (arith, b.0, q, x)
          over hung ek j l u (inr x) =
              let r = a.all hung ek j l u in
              let b = below_of N s j r.0 i g (not-here hung ek j u) r.1 in
              omega (arith, b.1, q, x)

-- ---- a record more

frame : (n : ℕ) (s s' : List ℕ) → ((i g : ℕ) → i < n → i < child_of s i g → child_of s i g < n → child_of s' i g ≡ child_of s i g)
    → (e f i g : ℕ) → i < n → Leads n s e f i g → Leads (n + 1) s' e f i g
frame n s s' same e f i g l (there p q) = there p q
frame n s s' same e f i g l (down a b r) =
    let c : child_of s' i g ≡ child_of s i g = same i g l a b in
    down {i = i} {g = g} (omega (arith, a, c)) (omega (arith, b, c))
    (subst (λ (x : ℕ). Leads (n + 1) s' e f x (g / 2)) (sym c) (frame n s s' same e f (child_of s i g) (g / 2) b r))

-- the words of the record's own links, before it is hung
abbrev pub put : List ℕ → ℕ → ℕ → List ℕ
put s n k = set (set (set s (link_width * n) 0) (link_width * n + 1) 0) (link_width * n + link_key) k

module _ (s : List ℕ) (n k : ℕ) where
  put-length : length (put s n k) ≡ length s
  put-length =
      length-set (set (set s (link_width * n) 0) (link_width * n + 1) 0) (link_width * n + link_key) k ∙ length-set (set s (link_width * n) 0)
      (link_width * n + 1) 0 ∙ length-set s (link_width * n) 0

  put-below : (j : ℕ) → j < link_width * n → get_or (put s n k) j 0 ≡ get_or s j 0
  put-below j l =
      get_or-set_other (set (set s (link_width * n) 0) (link_width * n + 1) 0) (link_width * n + link_key) j k 0 (λ e. omega arith)
      ∙ get_or-set_other (set s (link_width * n) 0) (link_width * n + 1) j 0 0 (λ e. omega arith)
      ∙ get_or-set_other s (link_width * n) j 0 0 (λ e. omega arith)

  module _ (room : link_width * n + link_width ≤ length s) where
    put-key : get_or (put s n k) (link_width * n + link_key) 0 ≡ k
    put-key =
        get_or-set_same (set (set s (link_width * n) 0) (link_width * n + 1) 0) (link_width * n + link_key) k 0
        (rw (length-set (set s (link_width * n) 0) (link_width * n + 1) 0, length-set s (link_width * n) 0) (omega arith))

    -- the first has no way
    pub hung-first : n ≡ 0 → (keys : ℕ → ℕ) → keys n ≡ k → Hung keys (put s n k) (n + 1)
    hung-first z keys e = record {
      told = λ i l. (let q : i ≡ n = omega arith in rw q (put-key ∙ sym e));
      reach = λ i l. (let q : i ≡ 0 = omega arith in (keys i, there (sym q) refl));
    }

    module _ (e f : ℕ) (x : Ends n s k e f) where
      abbrev more : List ℕ
      more = set (put s n k) (link_width * e + f % 2) n

      word : (j : ℕ) → j < link_width * n → (j ≡ link_width * e + f % 2 → ⊥) → get_or more j 0 ≡ get_or s j 0
      word j l d = get_or-set_other (put s n k) (link_width * e + f % 2) j n 0 d ∙ put-below j l

      child-last : child_of more e f ≡ n
      child-last = get_or-set_same (put s n k) (link_width * e + f % 2) n 0 (rw put-length (omega (arith, x.below)))

      child-same : (i g : ℕ) → i < n → i < child_of s i g → child_of s i g < n → child_of more i g ≡ child_of s i g
      child-same i g l a b = go (eqb (link_width * i + g % 2) (link_width * e + f % 2)) refl
        where
          taken : link_width * i + g % 2 ≡ link_width * e + f % 2 → (child_of s e f ≤ e) ⊎ (n ≤ child_of s e f) → ⊥
          taken q (inl y) =
              let c : child_of s i g ≡ child_of s e f = ap (λ (j : ℕ). get_or s j 0) q in
              let d : i ≡ e = omega (arith, q) in
              omega (arith, a, c, d, y)
          taken q (inr y) =
              let c : child_of s i g ≡ child_of s e f = ap (λ (j : ℕ). get_or s j 0) q in
              omega (arith, b, c, y)

          go : (t : Bool) → eqb (link_width * i + g % 2) (link_width * e + f % 2) ≡ t → child_of more i g ≡ child_of s i g
          go true q = absurd (taken (eqb-true _ _ q) x.last)
          go false q = word (link_width * i + g % 2) (omega arith) (eqb-false _ _ q)

      kept : (j o g : ℕ) → Leads n s j o 0 g → Leads (n + 1) more j o 0 g
      kept j o g r = frame n s more child-same j o 0 g (omega (arith, x.below)) r

      pub hung-more : (keys : ℕ → ℕ) → keys n ≡ k → Hung keys s n → Hung keys more (n + 1)
      hung-more keys ek u = record { told = λ i l. told-by i l (ltb i n) refl; reach = λ i l. reach-by i l (ltb i n) refl }
        where
          told-by : (i : ℕ) → i < n + 1 → (t : Bool) → ltb i n ≡ t → get_or more (link_width * i + link_key) 0 ≡ keys i
          told-by i l true q =
              let m : i < n = ltb-true i n q in
              word (link_width * i + link_key) (omega arith) (λ z. omega arith) ∙ u.told i m
          told-by i l false q =
              let z : i ≡ n = omega (arith, ltb-false i n q) in
              rw z (get_or-set_other (put s n k) (link_width * e + f % 2) (link_width * n + link_key) n 0 (λ y. omega (arith, x.below)) ∙ put-key ∙ sym ek)

          reach-by : (i : ℕ) → i < n + 1 → (t : Bool) → ltb i n ≡ t → Reached (n + 1) more i 0 (keys i)
          reach-by i l true q = let r = u.reach i (ltb-true i n q) in (r.0, kept i r.0 (keys i) r.1)
          reach-by i l false q =
              let z : i ≡ n = omega (arith, ltb-false i n q) in
              let r : Leads (n + 1) more (child_of more e f) (f / 2) 0 k =
              way_on (n + 1) more e f 0 k (kept e f k x.way) (omega (arith, child-last, x.below)) (omega (arith, child-last)) in
              rw (z, ek) (f / 2, subst (λ (c : ℕ). Leads (n + 1) more c (f / 2) 0 k) child-last r)

-- ---- no record, and keys that agree

pub hung-none : (keys : ℕ → ℕ) (s : List ℕ) (n : ℕ) → n ≡ 0 → Hung keys s n
hung-none keys s n z = record { told = λ i l. absurd (let y : ⊥ = omega arith in y); reach = λ i l. absurd (let y : ⊥ = omega arith in y) }

pub hung-as : (keys others : ℕ → ℕ) (s : List ℕ) (n : ℕ) → ((i : ℕ) → i < n → keys i ≡ others i) → Hung keys s n → Hung others s n
hung-as keys others s n same u = record {
  told = λ i l. u.told i l ∙ same i l;
  reach = λ i l. subst (λ (g : ℕ). Reached n s i 0 g) (same i l) (u.reach i l);
}
