-- A line that is not due, and the tests of the head's numbers, as the code looks at them. No contract cites this file.
use Rattle.std.specs.Prelude.{Some, None}
use Prim.Native.Nat.{ℕ, suc, ◌+◌, ◌≤◌, ◌<◌, min}
use mathlib.Core.Path.{◌≡◌, refl, sym, ap, ◌∙◌}
use mathlib.Core.Bool.{Bool, true, false, cond}
use mathlib.Core.List.{List, [], ◌∷◌, ◌++◌}
use native.Mathlib.Omega.{arith}
use native.Mathlib.Nat.{add-zero}
use native.Mathlib.Numerals.{add-one}
use borrow.Author.Tests.{eq-eqb, ne_eqb, le-leb, lt-leb, ltb-true, ltb-false}
use lib.Dec.{eqb, ltb, leb}
use lib.ListN.{length, drop, drop_of_length-le, length-append}
use lib.Seq.{drop-cons}
use Rattle.listing_back.specs.Forms.{Number, nothing, number, number_at_front, Front, lost, front, numbered, held, taken, forms_of, forms}
use Rattle.listing_back.specs.Due.{any_over, stray_by, stray_in, stray}
use Rattle.listing_back.specs.Back.{is_listed}
use Rattle.listing_back.specs.Inner.Stands.{HoldsFront, Holds, form_at}
use Rattle.listing_back.specs.Inner.Steps.{equals_in, TakesAlone, test_by}
use Rattle.listing_back.specs.declared.stepping.Kind.{Kind}
use Rattle.listing_back.specs.declared.stepping.Kind.TheVariants.{Any, Zero, Code}
use Rattle.listing_back.specs.declared.taking.Taking.{Taking}
use Rattle.listing_back.proofs.Lines.{held-lost}

-- ---- what was taken, by what the code tells

pub lost-of : (text : List ℕ) (i : ℕ) (before now : List ℕ) (x : Front) → Holds text i before now None x → x ≡ lost
lost-of text i before now lost h = refl
lost-of text i before now (front ns s) h = absurd h

pub record FrontOf (text : List ℕ) (i : ℕ) (before now : List ℕ) (t : Taking) (x : Front) : Type 0 where
  pub numbers : List ℕ
  pub rest : List ℕ
  pub is : x ≡ front numbers rest
  pub holds : HoldsFront text i before now t numbers rest

pub front_of : {text : List ℕ} {i : ℕ} {before now : List ℕ} {t : Taking} (x : Front) → Holds text i before now (Some t) x → FrontOf text i before now t x
front_of lost h = absurd h
front_of (front ns s) h = record { numbers = ns; rest = s; is = refl; holds = h }

-- ---- how many numbers a form has

many-on : (form ns s : List ℕ) {ms r : List ℕ} → held form (front ns s) ≡ front ms r → length ms ≡ length ns + equals_in form
unfolding held equals_in
many-on [] ns s {ms} {r} e = let a : ns ≡ ms = cc in rw (← a) (sym (add-zero (length ns)))
many-on (c ∷ form) ns [] {ms} {r} e = never form ms r e where
  never : (form ms r : List ℕ) {A : Type 0} → held form lost ≡ front ms r → A
  never form ms r e = let f : lost ≡ front ms r = sym (held-lost form) ∙ e in absurd (let z : ◌≡◌ {A = ℕ} 0 1 = cc in let y : ⊥ = omega arith in y)
many-on (c ∷ form) ns (b ∷ s) {ms} {r} e = go (eqb b c) (eqb c 61) (number_at_front s) (λ ns s e. many-on form ns s e) e where
  never : {A : Type 0} → held form lost ≡ front ms r → A
  never e = let f : lost ≡ front ms r = sym (held-lost form) ∙ e in absurd (let z : ◌≡◌ {A = ℕ} 0 1 = cc in let y : ⊥ = omega arith in y)

  go :
      (t u : Bool) (x : Number) → ((ns s : List ℕ) → held form (front ns s) ≡ front ms r → length ms ≡ length ns + equals_in form) →
      held form (cond t (cond u (numbered ns x) (front ns s)) lost) ≡ front ms r → length ms ≡ length ns + cond u (suc (equals_in form)) (equals_in form)
  go false u x i f = never f
  go true false x i f = i ns s f
  go true true nothing i f = never f
  go true true (number v z) i f =
      let a = i (ns ++ (v ∷ [])) z f in
      let b = length-append ns (v ∷ []) in
      omega arith

pub taken-many : (form s : List ℕ) {ms r : List ℕ} → taken form s ≡ front ms r → length ms ≡ equals_in form
taken-many form s e = many-on form [] s e ∙ (let z : 0 + equals_in form ≡ equals_in form = omega arith in z)

-- ---- a line of any form

pub stray-none : {text : List ℕ} (x : Front) → TakesAlone text None x → 0 ≡ stray_by x 0
stray-none {text} x k = rw (lost-of text 1 k.before k.after x k.holds)

module _ {text : List ℕ} {t : Taking} (x : Front) (k : TakesAlone text (Some t) x) where
  stray-found : (b : Bool) → t.over ≡ b → stray_by x 0 ≡ cond b 25 26
  stray-found b o =
      let f = front_of x k.holds in
      ap (λ (y : Front). stray_by y 0) f.is ∙ ap (λ (y : Bool). cond y 25 26) (sym f.holds.over ∙ o)

  pub stray-over : t.over ≡ true → 25 ≡ stray_by x 0
  stray-over o = sym (stray-found true o)

  pub stray-fine : t.over ≡ false → 26 ≡ stray_by x 0
  stray-fine o = sym (stray-found false o)

pub stray-start : (text : List ℕ) (at : ℕ) → at < length text → stray (drop at text) ≡ stray_in (drop 0 forms) (drop at text)
unfolding stray
stray-start text at h = rw (drop-cons text at 0 h)

pub stray-ends : (text : List ℕ) (at : ℕ) → length text ≤ at → stray (drop at text) ≡ 26
unfolding stray
stray-ends text at h = rw (drop_of_length-le text h)

form-drop : (n : ℕ) → n < 10 → drop n forms ≡ form_at n ∷ drop (n + 1) forms
unfolding form_at forms_of
form-drop n h = rw (add-one n) (drop-cons forms n [] h)

stray_in-drop : (n : ℕ) (s : List ℕ) → n < 10 → stray_in (drop n forms) s ≡ stray_by (taken (form_at n) s) (stray_in (drop (n + 1) forms) s)
unfolding stray_in
stray_in-drop n s h = rw (form-drop n h)

none-on : (x : Front) (m : ℕ) → stray_by x 0 ≡ 0 → stray_by x m ≡ m
none-on lost m e = refl
none-on (front ns s) m e = absurd (go (any_over ns) e) where
  go : (b : Bool) → ◌≡◌ {A = ℕ} (cond b 25 26) 0 → ⊥
  go true f = omega arith
  go false f = omega arith

some-on : (x : Front) (m : ℕ) → (stray_by x 0 ≡ 0 → ⊥) → stray_by x m ≡ stray_by x 0
some-on lost m f = absurd (f refl)
some-on (front ns s) m f = refl

pub stray-on : (n v : ℕ) (s : List ℕ) → n < 10 → v ≡ stray_by (taken (form_at n) s) 0 → v ≡ 0 → stray_in (drop n forms) s ≡ stray_in (drop (n + 1) forms) s
stray-on n v s h e z = stray_in-drop n s h ∙ none-on (taken (form_at n) s) (stray_in (drop (n + 1) forms) s) (sym e ∙ z)

pub stray-here : (n v : ℕ) (s : List ℕ) → n < 10 → v ≡ stray_by (taken (form_at n) s) 0 → (v ≡ 0 → ⊥) → stray_in (drop n forms) s ≡ v
stray-here n v s h e z =
    stray_in-drop n s h ∙ (some-on (taken (form_at n) s) (stray_in (drop (n + 1) forms) s) (λ q. z (e ∙ q)) ∙ sym e)

forms-ten : length forms ≡ 10
unfolding forms_of
forms-ten = refl

pub stray-last : (n : ℕ) (s : List ℕ) → 10 ≤ n → stray_in (drop n forms) s ≡ 24
unfolding stray_in
stray-last n s h = rw (drop_of_length-le forms (let e = forms-ten in let z : length forms ≤ n = omega arith in z))

stray_in-ge : (fs : List (List ℕ)) (s : List ℕ) → 24 ≤ stray_in fs s
unfolding stray_in
stray_in-ge [] s = omega arith
stray_in-ge (form ∷ fs) s = go (taken form s) (stray_in-ge fs s) where
  by : (b : Bool) → 24 ≤ cond b 25 26
  by true = omega arith
  by false = omega arith

  go : (x : Front) → 24 ≤ stray_in fs s → 24 ≤ stray_by x (stray_in fs s)
  go lost h = h
  go (front ns r) h = by (any_over ns)

pub stray-ge : (s : List ℕ) → 24 ≤ stray s
unfolding stray
stray-ge [] = omega arith
stray-ge (b ∷ s) = stray_in-ge forms (b ∷ s)

-- ---- tests

module _ (n : ℕ) where
  pub listed-low : n ≤ 3 → true ≡ is_listed n
  listed-low h = rw (le-leb n 3 h)

  pub listed-six : 3 < n → n ≡ 6 → true ≡ is_listed n
  listed-six h e = rw (lt-leb n 3 h, eq-eqb n 6 e)

  pub listed-none : 3 < n → (n ≡ 6 → ⊥) → n < 41 → false ≡ is_listed n
  listed-none h e l = let m : n < 51 = omega arith in rw (lt-leb n 3 h, ne_eqb n 6 e, lt-leb 41 n l, lt-leb 51 n m)

  pub listed-pool : 3 < n → (n ≡ 6 → ⊥) → 41 ≤ n → n ≤ 45 → true ≡ is_listed n
  listed-pool h e l u = rw (lt-leb n 3 h, ne_eqb n 6 e, le-leb 41 n l, le-leb n 45 u)

  pub listed-gap : 3 < n → (n ≡ 6 → ⊥) → 41 ≤ n → 45 < n → n < 51 → false ≡ is_listed n
  listed-gap h e l u m = rw (lt-leb n 3 h, ne_eqb n 6 e, le-leb 41 n l, lt-leb n 45 u, lt-leb 51 n m)

  pub listed-map : 3 < n → (n ≡ 6 → ⊥) → 41 ≤ n → 45 < n → 51 ≤ n → leb n 52 ≡ is_listed n
  listed-map h e l u m = rw (lt-leb n 3 h, ne_eqb n 6 e, le-leb 41 n l, lt-leb n 45 u, le-leb 51 n m)

  pub listed-over : 4294967296 ≤ n → is_listed n ≡ false
  listed-over h =
      let a : 3 < n = omega arith in
      let b : n ≡ 6 → ⊥ = λ e. let z : ⊥ = omega arith in z in
      let c : 41 ≤ n = omega arith in
      let d : 45 < n = omega arith in
      let e : 51 ≤ n = omega arith in
      let f : 52 < n = omega arith in
      sym (listed-map a b c d e) ∙ lt-leb n 52 f

-- a number over 32 bits is told as 2 ^ 32, which passes the same tests
pub test-capped : (kind : Kind) (v w : ℕ) → w ≡ min v 4294967296 → test_by kind w ≡ test_by kind v
test-capped kind v w e = go (ltb v 4294967296) refl where
  over : (kind : Kind) → 4294967296 ≤ v → 4294967296 ≤ w → test_by kind w ≡ test_by kind v
  over Any h a = refl
  over Zero h a = rw (ne_eqb w 0 (λ z. let y : ⊥ = omega arith in y), ne_eqb v 0 (λ z. let y : ⊥ = omega arith in y))
  over Code h a = rw (listed-over w a, listed-over v h)

  go : (t : Bool) → ltb v 4294967296 ≡ t → test_by kind w ≡ test_by kind v
  go true q = let h = ltb-true v 4294967296 q in let z : w ≡ v = omega arith in ap (test_by kind) z
  go false q = let h = ltb-false v 4294967296 q in over kind h (omega arith)
