-- Laws of specs/Activities.antt on children and of specs/Inner/Pass.antt on the pass over the nodes. No contract cites this file.
-- In order: the children from a record on (`rest-..`); tests and numbers of them (`any-..`, `flat-..`); what was passed over (`within-..`);
-- a filter (`filtering-..`), an activity (`seeking-..`); attributes (`from-..`).
use Rattle.std.specs.Prelude.{Option, Some, None}
use Prim.Native.Nat.{ℕ, zero, suc, ◌+◌, ◌-◌, ◌≤◌, ◌<◌}
use native.Mathlib.Omega.{arith}
use mathlib.Core.Path.{◌≡◌, refl, sym, ap, ◌∙◌}
use mathlib.Core.Bool.{Bool, true, false, cond, not, ◌&&◌, ◌||◌}
use mathlib.Core.List.{List, [], ◌∷◌, ◌++◌, flat_map}
use borrow.Author.Tests.{lt-ltb, le-ltb, eq-eqb, ne_eqb}
use lib.Dec.{ltb, eqb}
use Rattle.value_text.specs.Value.{false_text, attribute_value}
use Rattle.value_text.specs.declared.Attribute.{Attribute}
use Rattle.many_texts.specs.Many.{attribute_at}
use Rattle.main_activities.specs.Activities.{Tree, parent_of, children_from, children_of, any_of, tagged, named, attribute_from, filter_tag}
use Rattle.main_activities.specs.Activities.{is_main, is_launcher, is_filter, is_activity, is_enabled, starts, says, says_by, shown_as}
use Rattle.main_activities.specs.Activities.{attribute_of, action_tag, category_tag, name_name, main_text, launcher_text, info_text, enabled_name}
use Rattle.main_activities.specs.Inner.Pass.{rest, Within, Filtering, Seeking}

-- ---- the children from a record on

module _ (w : Tree) (p k : ℕ) where
  pub rest_end : w.count ≤ k → rest w p k ≡ []
  unfolding children_from
  rest_end q = let e : w.count - k ≡ 0 = omega arith in rw e

  pub rest-step :
      k < w.count →
      rest w p k
      ≡ cond (ltb (parent_of w.nodes k) p) [] (cond (eqb (parent_of w.nodes k) p) (k ∷ rest w p (k + 1)) (rest w p (k + 1)))
  unfolding children_from
  rest-step q = let e : w.count - k ≡ suc (w.count - (k + 1)) = omega arith in rw e

  pub rest_out : k < w.count → parent_of w.nodes k < p → rest w p k ≡ []
  rest_out q l = rest-step q ∙ rw (lt-ltb (parent_of w.nodes k) p l)

  pub rest-past : k < w.count → p < parent_of w.nodes k → rest w p k ≡ rest w p (k + 1)
  rest-past q l =
      let m : p ≤ parent_of w.nodes k = omega arith in
      let d : parent_of w.nodes k ≡ p → ⊥ = λ e. (let z : ⊥ = omega arith in z) in
      rest-step q ∙ rw (le-ltb (parent_of w.nodes k) p m, ne_eqb (parent_of w.nodes k) p d)

  rest-here :
      k < w.count →
      p ≤ parent_of w.nodes k →
      rest w p k ≡ cond (eqb (parent_of w.nodes k) p) (k ∷ rest w p (k + 1)) (rest w p (k + 1))
  rest-here q l = rest-step q ∙ rw (le-ltb (parent_of w.nodes k) p l)

-- ---- tests and numbers of them

any-cond : (test : ℕ → Bool) (k : ℕ) (r : List ℕ) (b : Bool) → any_of test (cond b (k ∷ r) r) ≡ ((b && test k) || any_of test r)
unfolding any_of
any-cond test k r true = refl
any-cond test k r false = refl

flat-cond : (f : ℕ → List ℕ) (k : ℕ) (r : List ℕ) (b : Bool) → flat_map f (cond b (k ∷ r) r) ≡ cond b (f k) [] ++ flat_map f r
unfolding flat_map
flat-cond f k r true = refl
flat-cond f k r false = refl

any_none : (test : ℕ → Bool) {r : List ℕ} → r ≡ [] → any_of test r ≡ false
unfolding any_of
any_none test e = rw e

pub flat-none : (f : ℕ → List ℕ) {r : List ℕ} → r ≡ [] → flat_map f r ≡ []
unfolding flat_map
flat-none f e = rw e

module _ (w : Tree) (p k : ℕ) (q : k < w.count) (l : p ≤ parent_of w.nodes k) where
  pub any_step :
      (test : ℕ → Bool) → any_of test (rest w p k) ≡ ((eqb (parent_of w.nodes k) p && test k) || any_of test (rest w p (k + 1)))
  any_step test = ap (any_of test) (rest-here w p k q l) ∙ any-cond test k (rest w p (k + 1)) (eqb (parent_of w.nodes k) p)

  pub flat_step :
      (f : ℕ → List ℕ) → flat_map f (rest w p k) ≡ cond (eqb (parent_of w.nodes k) p) (f k) [] ++ flat_map f (rest w p (k + 1))
  flat_step f = ap (flat_map f) (rest-here w p k q l) ∙ flat-cond f k (rest w p (k + 1)) (eqb (parent_of w.nodes k) p)

-- ---- what was passed over

module _ (w : Tree) (a : ℕ) where
  pub within-start : a < w.count → Within w a (a + 1)
  within-start q = record { later = omega arith; fits = omega arith; same = λ p l. refl }

  pub within-over : {k next : ℕ} → k < w.count → a ≤ parent_of w.nodes k → Within w a k → Within w k next → Within w a next
  within-over {k} {next} q l i o =
      let b = i.later in
      let c = o.later in
      record {
        later = omega arith;
        fits = o.fits;
        same = λ p m. i.same p m ∙ rest-past w p k q (omega arith) ∙ o.same p (omega arith);
      }

-- ---- a filter

or_assoc : (a b c : Bool) → (a || (b || c)) ≡ ((a || b) || c)
or_assoc true b c = refl
or_assoc false b c = refl

or-false : (a : Bool) → (a || false) ≡ a
or-false true = refl
or-false false = refl

-- one test more
or-more : (a b c : Bool) {x y d : Bool} → x ≡ (a || y) → y ≡ (b || c) → d ≡ b → x ≡ ((a || d) || c)
or-more a b c e f g = e ∙ ap (λ (z : Bool). a || z) f ∙ or_assoc a b c ∙ ap (λ (z : Bool). (a || z) || c) (sym g)

or-end : (a : Bool) {x y : Bool} → x ≡ (a || y) → y ≡ false → a ≡ x
or-end a e f = sym (e ∙ ap (λ (z : Bool). a || z) f ∙ or-false a)

module _ (w : Tree) (a : ℕ) where
  pub filtering-start : a < w.count → Filtering w a (a + 1) false false
  filtering-start q = record { within = within-start w a q; mains = refl; launchers = refl }

  pub filtering-step :
      {k : ℕ} {m l m' l' : Bool} →
      k < w.count →
      a ≤ parent_of w.nodes k →
      m' ≡ (eqb (parent_of w.nodes k) a && is_main w k) →
      l' ≡ (eqb (parent_of w.nodes k) a && is_launcher w k) →
      Filtering w a k m l →
      Filtering w a (k + 1) (m || m') (l || l')
  filtering-step {k} {m} {l} q p e f i =
      record {
        within = within-over w a q p i.within (within-start w k q);
        mains = or-more m (eqb (parent_of w.nodes k) a && is_main w k) (any_of (is_main w) (rest w a (k + 1))) i.mains
            (any_step w a k q p (is_main w)) e;
        launchers = or-more l (eqb (parent_of w.nodes k) a && is_launcher w k) (any_of (is_launcher w) (rest w a (k + 1))) i.launchers
            (any_step w a k q p (is_launcher w)) f;
      }

  pub filtering-end :
      {k : ℕ} {m l : Bool} →
      rest w a k ≡ [] →
      Filtering w a k m l →
      Within w a k × ((m && l) ≡ (any_of (is_main w) (children_of w a) && any_of (is_launcher w) (children_of w a)))
  filtering-end {k} {m} {l} e i =
      let f = or-end m i.mains (any_none (is_main w) e) in
      let g = or-end l i.launchers (any_none (is_launcher w) e) in
      (i.within, ap (λ (z : Bool). z && l) f ∙ ap (λ (z : Bool). any_of (is_main w) (children_of w a) && z) g)

-- node k of a node a, with a test that begins with another
module _ (w : Tree) (a k : ℕ) where
  pub child-other : (c : Bool) → (parent_of w.nodes k ≡ a → ⊥) → false ≡ (eqb (parent_of w.nodes k) a && c)
  child-other c d = rw (ne_eqb (parent_of w.nodes k) a d)

  pub child-here : (c : Bool) {r : Bool} → parent_of w.nodes k ≡ a → r ≡ c → r ≡ (eqb (parent_of w.nodes k) a && c)
  child-here c e g = rw (eq-eqb (parent_of w.nodes k) a e) g

pub filter-no : (w : Tree) (k : ℕ) → tagged w filter_tag k ≡ false → false ≡ is_filter w k
unfolding is_filter
filter-no w k e = rw e

pub filter-yes :
    (w : Tree) (k : ℕ) {r : Bool} →
    tagged w filter_tag k ≡ true →
    r ≡ (any_of (is_main w) (children_of w k) && any_of (is_launcher w) (children_of w k)) →
    r ≡ is_filter w k
unfolding is_filter
filter-yes w k e g = rw e g

pub starts-no : (w : Tree) (k : ℕ) → is_enabled w k ≡ false → false ≡ starts w k
unfolding starts
starts-no w k e = rw e

pub starts-yes : (w : Tree) (k : ℕ) {r : Bool} → is_enabled w k ≡ true → r ≡ any_of (is_filter w) (children_of w k) → r ≡ starts w k
unfolding starts
starts-yes w k e g = rw e g

-- one of two tests
pub or_left : (y : Bool) {x r : Bool} → r ≡ x → r ≡ true → true ≡ (x || y)
or_left y {x} e t = ap (λ (z : Bool). z || y) (sym (sym e ∙ t))

pub or_right : {x y r q : Bool} → r ≡ x → r ≡ false → q ≡ y → q ≡ (x || y)
or_right {x} {y} e t g = g ∙ ap (λ (z : Bool). z || y) (sym (sym e ∙ t))

module _ (w : Tree) (k : ℕ) where
  pub main-no : tagged w action_tag k ≡ false → false ≡ is_main w k
  unfolding is_main
  main-no e = rw e

  pub main-yes : {r : Bool} → tagged w action_tag k ≡ true → r ≡ says w name_name main_text k → r ≡ is_main w k
  unfolding is_main
  main-yes e g = rw e g

  pub launcher-no : tagged w category_tag k ≡ false → false ≡ is_launcher w k
  unfolding is_launcher
  launcher-no e = rw e

  pub launcher-yes :
      {r : Bool} → tagged w category_tag k ≡ true → r ≡ (says w name_name launcher_text k || says w name_name info_text k) → r ≡ is_launcher w k
  unfolding is_launcher
  launcher-yes e g = rw e g

  pub enabled-no : is_activity w k ≡ false → false ≡ is_enabled w k
  unfolding is_enabled
  enabled-no e = rw e

  pub enabled-yes : {r : Bool} → is_activity w k ≡ true → r ≡ says w enabled_name false_text k → not r ≡ is_enabled w k
  unfolding is_enabled
  enabled-yes e g = rw e (ap not g)

-- ---- an activity

or_no : {x y a : Bool} → x ≡ (a || y) → a ≡ false → x ≡ y
or_no {y = y} e f = e ∙ ap (λ (z : Bool). z || y) f

or_yes : (y : Bool) {x a : Bool} → x ≡ (a || y) → a ≡ true → a ≡ x
or_yes y e f = f ∙ sym (e ∙ ap (λ (z : Bool). z || y) f)

module _ (w : Tree) (a : ℕ) where
  pub seeking-start : a < w.count → Seeking w a (a + 1)
  seeking-start q = record { within = within-start w a q; filters = refl }

  pub seeking-out : {k : ℕ} → rest w a k ≡ [] → Seeking w a k → Within w a k × (false ≡ any_of (is_filter w) (children_of w a))
  seeking-out {k} e i = (i.within, sym (i.filters ∙ any_none (is_filter w) e))

  module _ {k next : ℕ} {yes : Bool} (q : k < w.count) (p : a ≤ parent_of w.nodes k) (i : Seeking w a k)
      (o : Within w k next) (e : yes ≡ (eqb (parent_of w.nodes k) a && is_filter w k)) where
    step : any_of (is_filter w) (children_of w a) ≡ (yes || any_of (is_filter w) (rest w a next))
    step =
        let b = i.within.later in
        let s = any_step w a k q p (is_filter w) in
        i.filters ∙ s ∙ ap (λ (z : Bool). z || any_of (is_filter w) (rest w a (k + 1))) (sym e)
        ∙ ap (λ (z : List ℕ). yes || any_of (is_filter w) z) (o.same a b)

    pub seeking-found : yes ≡ true → Within w a next × (yes ≡ any_of (is_filter w) (children_of w a))
    seeking-found t = (within-over w a q p i.within o, or_yes (any_of (is_filter w) (rest w a next)) step t)

    pub seeking-next : yes ≡ false → Seeking w a next
    seeking-next t = record { within = within-over w a q p i.within o; filters = or_no step t }

-- ---- attributes

module _ (w : Tree) (name : List ℕ) (first n i : ℕ) where
  pub from_end : n ≤ i → attribute_from w name (first + i) (n - i) ≡ None
  unfolding attribute_from
  from_end q = let e : n - i ≡ 0 = omega arith in rw e

  from_step :
      i < n →
      attribute_from w name (first + i) (n - i)
      ≡ cond (named w name (first + i)) (Some (first + i)) (attribute_from w name (first + (i + 1)) (n - (i + 1)))
  unfolding attribute_from
  from_step q =
      let e : n - i ≡ suc (n - (i + 1)) = omega arith in
      let g : first + i + 1 ≡ first + (i + 1) = omega arith in
      rw (e, g)

  pub from_found : {b : Bool} → i < n → b ≡ named w name (first + i) → b ≡ true → attribute_from w name (first + i) (n - i) ≡ Some (first + i)
  from_found q e t = from_step q ∙ rw (← e, t)

  pub from_next :
      {b : Bool} → i < n → b ≡ named w name (first + i) → b ≡ false
      → attribute_from w name (first + i) (n - i) ≡ attribute_from w name (first + (i + 1)) (n - (i + 1))
  from_next q e t = from_step q ∙ rw (← e, t)

-- the number that is found is one of them
pub from-below : (w : Tree) (name : List ℕ) (j n : ℕ) {i : ℕ} → attribute_from w name j n ≡ Some i → i < j + n
unfolding attribute_from
from-below w name j zero e = let z : ◌≡◌ {A = ℕ} 0 1 = cc in absurd (let y : ⊥ = omega arith in y)
from-below w name j (suc n) {i} e = go (named w name j) e (λ g. from-below w name (j + 1) n g)
  where
    go : (b : Bool) → cond b (Some j) (attribute_from w name (j + 1) n) ≡ Some i → (attribute_from w name (j + 1) n ≡ Some i → i < j + 1 + n) → i < j + suc n
    go true g h = let f : j ≡ i = cc in omega arith
    go false g h = let f = h g in omega arith

module _ (w : Tree) (name s : List ℕ) (k : ℕ) {x : Option ℕ} (e : x ≡ attribute_of w name k) where
  pub saying :
      {j : ℕ} {a : Attribute} {r : Bool} →
      x ≡ Some j →
      a ≡ attribute_at w.attributes j →
      r ≡ shown_as s (attribute_value w.head w.bytes w.lent w.items w.item_area a) →
      r ≡ says w name s k
  unfolding says
  saying f g h =
      let h' = rw g at h in
      h' ∙ sym (ap (says_by w s) (sym e ∙ f))

  pub saying-none : x ≡ None → false ≡ says w name s k
  unfolding says
  saying-none f = sym (ap (says_by w s) (sym e ∙ f))
