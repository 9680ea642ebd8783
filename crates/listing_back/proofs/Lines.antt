-- A line by its form: what is printed is taken, and what is taken is what is printed. No contract cites this file.
-- In order: keys, a field, the fields of a line. `fill` puts numbers into a line in place of those that it has.
use Prim.Native.Nat.{ℕ, suc, ◌<◌, ◌^◌}
use mathlib.Core.Path.{◌≡◌, refl, sym, ap, ◌∙◌}
use mathlib.Core.Bool.{Bool, true, false, cond, not, ◌&&◌, ◌||◌}
use mathlib.Core.List.{List, [], ◌∷◌, ◌++◌, append_assoc}
use native.Mathlib.Omega.{arith}
use borrow.Author.Tests.{eq-eqb, eqb-true, ltb-false, not-true}
use lib.Dec.{eqb}
use lib.ListN.{length}
use Rattle.digits.specs.Digits.{decimal}
use Rattle.listing_text.specs.Listing.{Field, Line, field, field_text, line_text}
use Rattle.listing_back.specs.Forms.{Number, nothing, number, is_digit, number_at_front, form_text, Front, lost, front, numbered, next, held}
use Rattle.listing_back.specs.Due.{is_over, any_over}
use Rattle.listing_back.proofs.Numerals.{both, number-taken, number-printed}

-- ---- numbers of 32 bits

pub neither : (a b : Bool) → (a || b) ≡ false → (a ≡ false) × (b ≡ false)
neither true b h = absurd (let z : ◌≡◌ {A = ℕ} 0 1 = cc in let y : ⊥ = omega arith in y)
neither false b h = (refl, h)

pub any_over-first : (n : ℕ) (ns : List ℕ) → any_over (n ∷ ns) ≡ false → n < 4294967296
unfolding any_over
any_over-first n ns h = let p = ltb-false 4294967295 n (neither (is_over n) (any_over ns) h).0 in omega arith

pub any_over-others : (n : ℕ) (ns : List ℕ) → any_over (n ∷ ns) ≡ false → any_over ns ≡ false
unfolding any_over
any_over-others n ns h = (neither (is_over n) (any_over ns) h).1

-- ---- a lost line

pub held-lost : (form : List ℕ) → held form lost ≡ lost
unfolding held
held-lost [] = refl
held-lost (c ∷ form) = held-lost form

never : (form ms r : List ℕ) {A : Type 0} → held form lost ≡ front ms r → A
never form ms r e = let f : lost ≡ front ms r = sym (held-lost form) ∙ e in absurd (let z : ◌≡◌ {A = ℕ} 0 1 = cc in let y : ⊥ = omega arith in y)

-- ---- a key: no byte of it is `=`

unfoldable pub plain_key : List ℕ → Bool
plain_key [] = true
plain_key (b ∷ key) = not (eqb b 61) && plain_key key

next-same : (b : ℕ) (ns s : List ℕ) → eqb b 61 ≡ false → next b (front ns (b ∷ s)) ≡ front ns s
next-same b ns s h = rw (eq-eqb b b refl, h)

key-taken : (key form ns s : List ℕ) → plain_key key ≡ true → held (key ++ form) (front ns (key ++ s)) ≡ held form (front ns s)
unfolding held plain_key
key-taken [] form ns s h = refl
key-taken (b ∷ key) form ns s h =
    let p = both (not (eqb b 61)) (plain_key key) h in
    ap (λ (x : Front). held (key ++ form) x) (next-same b ns (key ++ s) (not-true (eqb b 61) p.0)) ∙ key-taken key form ns s p.1

record Keyed (key form ns s ms r : List ℕ) : Type 0 where
  rest : List ℕ
  stands : s ≡ key ++ rest
  on : held form (front ns rest) ≡ front ms r

key_back : (key form ns s : List ℕ) {ms r : List ℕ} → plain_key key ≡ true → held (key ++ form) (front ns s) ≡ front ms r → Keyed key form ns s ms r
unfolding held plain_key
key_back [] form ns s h e = record { rest = s; stands = refl; on = e }
key_back (b ∷ key) form ns [] {ms} {r} h e = never (key ++ form) ms r e
key_back (b ∷ key) form ns (c ∷ s) {ms} {r} h e =
    go (eqb c b) refl (λ f. key_back key form ns s (both (not (eqb b 61)) (plain_key key) h).1 f) e where
      go :
          (t : Bool) → eqb c b ≡ t → (held (key ++ form) (front ns s) ≡ front ms r → Keyed key form ns s ms r) →
          held (key ++ form) (cond t (cond (eqb b 61) (numbered ns (number_at_front s)) (front ns s)) lost) ≡ front ms r → Keyed (b ∷ key) form ns (c ∷ s) ms r
      go true q i f =
          let k = i (rw (not-true (eqb b 61) (both (not (eqb b 61)) (plain_key key) h).0) at f) in
          let x : c ≡ b = eqb-true c b q in
          let y : s ≡ key ++ k.rest = k.stands in
          record { rest = k.rest; stands = cc; on = k.on }
      go false q i f = never (key ++ form) ms r f

-- ---- `=`, a number and the byte behind it

equals-taken :
    (n e : ℕ) (form ns r : List ℕ) → n < 10 ^ 20 → is_digit e ≡ false → eqb e 61 ≡ false →
    held (61 ∷ e ∷ form) (front ns (61 ∷ (decimal n ++ (e ∷ r)))) ≡ held form (front (ns ++ (n ∷ [])) r)
unfolding held
equals-taken n e form ns r h i j = rw (number-taken n e r h i, eq-eqb e e refl, j)

record Equalled (e : ℕ) (form ns t ms r : List ℕ) : Type 0 where
  value : ℕ
  rest : List ℕ
  stands : value < 10 ^ 20 → t ≡ 61 ∷ (decimal value ++ (e ∷ rest))
  on : held form (front (ns ++ (value ∷ [])) rest) ≡ front ms r

equals-stands : (c d e n : ℕ) (s u : List ℕ) → c ≡ 61 → d ≡ e → number_at_front s ≡ number n (d ∷ u) → n < 10 ^ 20 → c ∷ s ≡ 61 ∷ (decimal n ++ (e ∷ u))
equals-stands c d e n s u p q g h = rw (p, ← q) (ap (λ (x : List ℕ). 61 ∷ x) (number-printed s h g))

equals-back : (e : ℕ) (form ns t : List ℕ) {ms r : List ℕ} → eqb e 61 ≡ false → held (61 ∷ e ∷ form) (front ns t) ≡ front ms r → Equalled e form ns t ms r
unfolding held
equals-back e form ns [] {ms} {r} h f = never form ms r f
equals-back e form ns (c ∷ s) {ms} {r} h f = at-equals (eqb c 61) refl (number_at_front s) refl f where
  behind :
      (d n : ℕ) (u : List ℕ) (t : Bool) → c ≡ 61 → number_at_front s ≡ number n (d ∷ u) → eqb d e ≡ t →
      held form (cond t (cond (eqb e 61) (numbered (ns ++ (n ∷ [])) (number_at_front u)) (front (ns ++ (n ∷ [])) u)) lost) ≡ front ms r → Equalled e form ns (c ∷ s) ms r
  behind d n u true p g q k =
      record { value = n; rest = u; stands = λ b. equals-stands c d e n s u p (eqb-true d e q) g b; on = rw h at k }
  behind d n u false p g q k = never form ms r k

  at-equals :
      (t : Bool) → eqb c 61 ≡ t → (x : Number) → number_at_front s ≡ x → held form (next e (cond t (numbered ns x) lost)) ≡ front ms r →
      Equalled e form ns (c ∷ s) ms r
  at-equals false q x g k = never form ms r k
  at-equals true q nothing g k = never form ms r k
  at-equals true q (number n []) g k = never form ms r k
  at-equals true q (number n (d ∷ u)) g k = behind d n u (eqb d e) (eqb-true c 61 q) g refl k

-- ---- a line

unfoldable pub numbers_in : Line → List ℕ
numbers_in [] = []
numbers_in (f ∷ fs) = f.number ∷ numbers_in fs

unfoldable pub plain_keys : Line → Bool
unfolding plain_key
plain_keys [] = true
plain_keys (f ∷ fs) = plain_key f.key && plain_keys fs

unfoldable pub fill : Line → List ℕ → Line
fill [] vs = []
fill (f ∷ fs) [] = []
fill (f ∷ fs) (v ∷ vs) = field f.key v ∷ fill fs vs

field-text : (key : List ℕ) (n e : ℕ) (x r : List ℕ) → ((key ++ (61 ∷ decimal n)) ++ (e ∷ x)) ++ r ≡ key ++ (61 ∷ (decimal n ++ (e ∷ (x ++ r))))
field-text key n e x r = simp append_assoc

field-taken :
    (key : List ℕ) (n e : ℕ) (form ns x r : List ℕ) → plain_key key ≡ true → n < 4294967296 → is_digit e ≡ false → eqb e 61 ≡ false →
    held (key ++ (61 ∷ e ∷ form)) (front ns (((key ++ (61 ∷ decimal n)) ++ (e ∷ x)) ++ r)) ≡ held form (front (ns ++ (n ∷ [])) (x ++ r))
field-taken key n e form ns x r p h i j =
    ap (λ (t : List ℕ). held (key ++ (61 ∷ e ∷ form)) (front ns t)) (field-text key n e x r) ∙
    (key-taken key (61 ∷ e ∷ form) ns (61 ∷ (decimal n ++ (e ∷ (x ++ r)))) p ∙ equals-taken n e form ns (x ++ r) (omega arith) i j)

pub line_taken :
    (f : Field) (fs : Line) (ns r : List ℕ) → plain_keys (f ∷ fs) ≡ true → any_over (numbers_in (f ∷ fs)) ≡ false →
    held (form_text (f ∷ fs)) (front ns (line_text (f ∷ fs) ++ r)) ≡ front (ns ++ numbers_in (f ∷ fs)) r
unfolding form_text line_text field_text numbers_in plain_keys held
line_taken f [] ns r p q =
    let a = both (plain_key f.key) (plain_keys []) p in
    field-taken f.key f.number 10 [] ns [] r a.0 (any_over-first f.number [] q) refl refl
line_taken f (g ∷ fs) ns r p q =
    let a = both (plain_key f.key) (plain_keys (g ∷ fs)) p in
    let h = any_over-first f.number (numbers_in (g ∷ fs)) q in
    let o = any_over-others f.number (numbers_in (g ∷ fs)) q in
    field-taken f.key f.number 32 (form_text (g ∷ fs)) ns (line_text (g ∷ fs)) r a.0 h refl refl ∙
    (line_taken g fs (ns ++ (f.number ∷ [])) r a.1 o ∙ ap (λ (x : List ℕ). front x r) (append_assoc ns (f.number ∷ []) (numbers_in (g ∷ fs))))

line_text-cons : (f : Field) (gs : Line) → 0 < length gs → line_text (f ∷ gs) ≡ field_text f ++ (32 ∷ line_text gs)
unfolding line_text
line_text-cons f [] h = absurd (let z : ⊥ = omega arith in z)
line_text-cons f (g ∷ gs) h = refl

length-fill : (fs : Line) (vs : List ℕ) → length vs ≡ length fs → length (fill fs vs) ≡ length fs
unfolding fill
length-fill [] vs h = refl
length-fill (f ∷ fs) [] h = absurd (let z : ⊥ = omega arith in z)
length-fill (f ∷ fs) (v ∷ vs) h = ap suc (length-fill fs vs (omega arith))

pub record Lined (fs : Line) (ns s ms r : List ℕ) : Type 0 where
  pub values : List ℕ
  pub all : ms ≡ ns ++ values
  pub many : length values ≡ length fs
  pub printed : any_over values ≡ false → s ≡ line_text (fill fs values) ++ r

last-printed :
    (key : List ℕ) (n : ℕ) {s t u r : List ℕ} → s ≡ key ++ t → t ≡ 61 ∷ (decimal n ++ (10 ∷ u)) → u ≡ r → s ≡ ((key ++ (61 ∷ decimal n)) ++ (10 ∷ [])) ++ r
last-printed key n {s} {t} {u} {r} a b c = a ∙ (ap (λ (x : List ℕ). key ++ x) b ∙ (ap (λ (x : List ℕ). key ++ (61 ∷ (decimal n ++ (10 ∷ x)))) c ∙ sym (field-text key n 10 [] r)))

more-printed :
    (key : List ℕ) (n : ℕ) (l r : List ℕ) {s t u : List ℕ} → s ≡ key ++ t → t ≡ 61 ∷ (decimal n ++ (32 ∷ u)) → u ≡ l ++ r → s ≡ ((key ++ (61 ∷ decimal n)) ++ (32 ∷ l)) ++ r
more-printed key n l r a b c = a ∙ (ap (λ (x : List ℕ). key ++ x) b ∙ (ap (λ (x : List ℕ). key ++ (61 ∷ (decimal n ++ (32 ∷ x)))) c ∙ sym (field-text key n 32 l r)))

pub line-back :
    (f : Field) (fs : Line) (ns s : List ℕ) {ms r : List ℕ} → plain_keys (f ∷ fs) ≡ true → held (form_text (f ∷ fs)) (front ns s) ≡ front ms r →
    Lined (f ∷ fs) ns s ms r
unfolding form_text line_text field_text plain_keys fill held
line-back f [] ns s {ms} {r} p e =
    let a = both (plain_key f.key) (plain_keys []) p in
    let k = key_back f.key (61 ∷ 10 ∷ []) ns s a.0 e in
    let q = equals-back 10 [] ns k.rest refl k.on in
    let x : ns ++ (q.value ∷ []) ≡ ms = let g = q.on in cc in
    let y : q.rest ≡ r = let g = q.on in cc in
    record {
      values = q.value ∷ [];
      all = sym x;
      many = refl;
      printed = λ o. last-printed f.key q.value k.stands (q.stands (let h = any_over-first q.value [] o in omega arith)) y;
    }
line-back f (g ∷ fs) ns s {ms} {r} p e =
    let a = both (plain_key f.key) (plain_keys (g ∷ fs)) p in
    let k = key_back f.key (61 ∷ 32 ∷ form_text (g ∷ fs)) ns s a.0 e in
    let q = equals-back 32 (form_text (g ∷ fs)) ns k.rest refl k.on in
    let l = line-back g fs (ns ++ (q.value ∷ [])) q.rest a.1 q.on in
    record {
      values = q.value ∷ l.values;
      all = l.all ∙ append_assoc ns (q.value ∷ []) l.values;
      many = ap suc l.many;
      printed = λ o. more-printed f.key q.value (line_text (fill (g ∷ fs) l.values)) r k.stands (q.stands (let h = any_over-first q.value l.values o in omega arith))
          (l.printed (any_over-others q.value l.values o)) ∙
          ap (λ (x : List ℕ). x ++ r) (sym (line_text-cons (field f.key q.value) (fill (g ∷ fs) l.values) (rw (length-fill (g ∷ fs) l.values l.many) (omega arith))));
    }
