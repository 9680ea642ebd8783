-- Laws of the lent list of specs/Inner/Pass.antt, and of what stands in it. No contract cites this file.
-- In order: one number more (`put-..`); an application (`listing-..`), all of them (`all-..`); what is answered (`gives-..`).
use Rattle.std.specs.Prelude.{Option, Some, None, Result, Ok, Err}
use Prim.Native.Nat.{ℕ, suc, ◌+◌, ◌-◌, ◌≤◌, ◌<◌}
use native.Mathlib.Omega.{arith}
use mathlib.Core.Path.{◌≡◌, refl, sym, ap, ◌∙◌}
use mathlib.Core.Bool.{Bool, true, false, cond, ◌&&◌}
use mathlib.Core.List.{List, [], ◌∷◌, ◌++◌, flat_map, append-nil, append_assoc}
use borrow.Author.Tests.{eq-eqb, ne_eqb, le-leb, lt-leb, ltb-true, ltb-false}
use lib.ListN.{length, take, set, replicate, length-append, length-set}
use lib.Seq.{length-take-le, take-suc-set, append_snoc}
use lib.Dec.{ltb, eqb}
use Rattle.errors.specs.declared.Refusal.TheVariants.{ListFull}
use Rattle.main_activities.specs.Activities.{Tree, parent_of, children_of, tagged, number_by, attribute_of, name_name, application_tag}
use Rattle.main_activities.specs.Activities.{starts, given, in_application, main_activities}
use Rattle.main_activities.specs.Inner.Pass.{rest, Within, Holds, Gives}
use Rattle.main_activities.proofs.Laws.{flat_step, flat-none, within-start, within-over}
use Rattle.errors.specs.declared.Refusal.{Refusal}

-- ---- one number more

holds_same : {z x y l : List ℕ} {n : ℕ} → x ≡ y → Holds z x l n → Holds z y l n
holds_same e h = rw (← e) h

pub put-room : {z after l : List ℕ} {n j : ℕ} → n < length l → Holds z (j ∷ after) l n → Holds z after (set l n j) (n + 1)
put-room {z} {after} {l} {n} {j} q h =
    let long : length (set l n j) ≡ length l = length-set l n j in
    let one : n + 1 ≡ suc n = omega arith in
    let front : take (n + 1) (set l n j) ≡ take n l ++ (j ∷ []) = rw one (take-suc-set l n j q) in
    record {
      kept = λ p. h.kept (omega arith) ∙ sym (append_snoc (take n l) j after) ∙ ap (λ (x : List ℕ). x ++ after) (sym front);
      full = λ p. absurd (let y : ⊥ = omega arith in y);
    }

pub put_full : {z after l : List ℕ} {n j : ℕ} → length l ≤ n → Holds z (j ∷ after) l n → Holds z after l (length l + 1)
put_full {z} {after} {l} {n} {j} q h =
    record {
      kept = λ p. absurd (let y : ⊥ = omega arith in y);
      full = λ p. go (ltb (length l) n) refl;
    }
  where
    go : (b : Bool) → ltb (length l) n ≡ b → length l < length z
    go true e = h.full (ltb-true (length l) n e)
    go false e =
        let m = ltb-false (length l) n e in
        let a = ap length (h.kept m) ∙ length-append (take n l) (j ∷ after) in
        let b = length-take-le n l m in
        omega (arith, a, b, q)

-- ---- an application

cond-and : (b c : Bool) (x : List ℕ) → cond b (cond c x []) [] ≡ cond (b && c) x []
cond-and true c x = refl
cond-and false c x = refl

given_by : (w : Tree) (k : ℕ) (b : Bool) {yes : Bool} → yes ≡ (b && starts w k) → cond b (given w k) [] ≡ cond yes
    (number_by (attribute_of w name_name k)) []
unfolding given
given_by w k b e = cond-and b (starts w k) (number_by (attribute_of w name_name k)) ∙ ap
    (λ (x : Bool). cond x (number_by (attribute_of w name_name k)) []) (sym e)

module _ (w : Tree) (k : ℕ) {yes : Bool} {x : Option ℕ} {z after l : List ℕ} {n : ℕ} (e : yes ≡ true) (f : x ≡ attribute_of w name_name k) where
  pub given-at : {j : ℕ} → x ≡ Some j → Holds z (cond yes (number_by (attribute_of w name_name k)) [] ++ after) l n → Holds z (j ∷ after) l n
  given-at {j} g h =
      holds_same (ap (λ (b : Bool). cond b (number_by (attribute_of w name_name k)) [] ++ after) e ∙ ap
      (λ (y : Option ℕ). number_by y ++ after) (sym f ∙ g)) h

  pub given-none : x ≡ None → Holds z (cond yes (number_by (attribute_of w name_name k)) [] ++ after) l n → Holds z after l n
  given-none g h =
      holds_same (ap (λ (b : Bool). cond b (number_by (attribute_of w name_name k)) [] ++ after) e ∙ ap
      (λ (y : Option ℕ). number_by y ++ after) (sym f ∙ g)) h

-- an application p, listed up to k, behind what the list l₀ with n₀ numbers in it held before
pub record Listing (w : Tree) (p k : ℕ) (l₀ : List ℕ) (n₀ : ℕ) (l : List ℕ) (n : ℕ) : Type 0 where
  pub within : Within w p k
  pub holds : (z after : List ℕ) → Holds z (flat_map (given w) (children_of w p) ++ after) l₀ n₀ → Holds z (flat_map (given w) (rest w p k) ++ after) l n

pub listing_start : (w : Tree) (p : ℕ) {l : List ℕ} {n : ℕ} → p < w.count → Listing w p (p + 1) l n l n
listing_start w p q = record { within = within-start w p q; holds = λ z after h. h }

pub listing_step :
    (w : Tree) (p k : ℕ) {next : ℕ} {yes : Bool} {l₀ : List ℕ} {n₀ : ℕ} (l : List ℕ) (n : ℕ) (l' : List ℕ) (n' : ℕ) →
    k < w.count →
    p ≤ parent_of w.nodes k →
    Within w k next →
    yes ≡ (eqb (parent_of w.nodes k) p && starts w k) →
    ((z after : List ℕ) → Holds z (cond yes (number_by (attribute_of w name_name k)) [] ++ after) l n → Holds z after l' n') →
    Listing w p k l₀ n₀ l n →
    Listing w p next l₀ n₀ l' n'
listing_step w p k {next} {yes} l n l' n' q m o e g i =
    record {
      within = within-over w p q m i.within o;
      holds = λ z after h. g z (flat_map (given w) (rest w p next) ++ after) (holds_same (same after) (i.holds z after h));
    }
  where
    same : (after : List ℕ) → flat_map (given w) (rest w p k) ++ after
        ≡ cond yes (number_by (attribute_of w name_name k)) [] ++ (flat_map (given w) (rest w p next) ++ after)
    same after =
        let b = i.within.later in
        let x = cond yes (number_by (attribute_of w name_name k)) [] in
        ap (λ (y : List ℕ). y ++ after)
        (flat_step w p k q m (given w)
        ∙ ap (λ (y : List ℕ). y ++ flat_map (given w) (rest w p (k + 1))) (given_by w k (eqb (parent_of w.nodes k) p) e)
        ∙ ap (λ (y : List ℕ). x ++ flat_map (given w) y) (o.same p b))
        ∙ append_assoc x (flat_map (given w) (rest w p next)) after

pub listing-end :
    (w : Tree) (p k : ℕ) {l₀ : List ℕ} {n₀ : ℕ} {l : List ℕ} {n : ℕ} →
    rest w p k ≡ [] →
    Listing w p k l₀ n₀ l n →
    Within w p k × ((z after : List ℕ) → Holds z (flat_map (given w) (children_of w p) ++ after) l₀ n₀ → Holds z after l n)
listing-end w p k e i =
    (i.within, λ z after h. holds_same (ap (λ (y : List ℕ). y ++ after) (flat-none (given w) e)) (i.holds z after h))

-- ---- all applications

untagged : (w : Tree) (k : ℕ) → tagged w application_tag k ≡ false → in_application w k ≡ []
unfolding in_application
untagged w k e = rw e

listed : (w : Tree) (k : ℕ) → tagged w application_tag k ≡ true → in_application w k ≡ flat_map (given w) (children_of w k)
unfolding in_application
listed w k e = rw e

module _ (w : Tree) (k : ℕ) {l : List ℕ} {n : ℕ} (z after : List ℕ) where
  pub child-none :
      (parent_of w.nodes k ≡ 0 → ⊥) →
      Holds z (cond (eqb (parent_of w.nodes k) 0) (in_application w k) [] ++ after) l n →
      Holds z after l n
  child-none d h = rw (ne_eqb (parent_of w.nodes k) 0 d) at h

  pub child-untagged :
      parent_of w.nodes k ≡ 0 →
      tagged w application_tag k ≡ false →
      Holds z (cond (eqb (parent_of w.nodes k) 0) (in_application w k) [] ++ after) l n →
      Holds z after l n
  child-untagged e f h = rw (eq-eqb (parent_of w.nodes k) 0 e, untagged w k f) at h

  pub child-application :
      parent_of w.nodes k ≡ 0 →
      tagged w application_tag k ≡ true →
      Holds z (cond (eqb (parent_of w.nodes k) 0) (in_application w k) [] ++ after) l n →
      Holds z (flat_map (given w) (children_of w k) ++ after) l n
  child-application e f h = rw (eq-eqb (parent_of w.nodes k) 0 e, listed w k f) at h

-- all applications, listed up to k
pub record AllListed (w : Tree) (k : ℕ) (l : List ℕ) (n : ℕ) : Type 0 where
  pub later : 0 < k
  pub holds : Holds (main_activities w) (flat_map (in_application w) (rest w 0 k)) l n

pub all_start : (w : Tree) (l : List ℕ) → AllListed w 1 l 0
unfolding main_activities
all_start w l = record { later = omega arith; holds = record { kept = λ p. refl; full = λ p. absurd (let y : ⊥ = omega arith in y) } }

pub all-step :
    (w : Tree) (k : ℕ) {next : ℕ} (l : List ℕ) (n : ℕ) (l' : List ℕ) (n' : ℕ) →
    k < w.count →
    Within w k next →
    ((z after : List ℕ) → Holds z (cond (eqb (parent_of w.nodes k) 0) (in_application w k) [] ++ after) l n → Holds z after l' n') →
    AllListed w k l n →
    AllListed w next l' n'
all-step w k {next} l n l' n' q o g i =
    let b = i.later in
    let c = o.later in
    record {
      later = omega arith;
      holds = g (main_activities w) (flat_map (in_application w) (rest w 0 next))
          (holds_same (flat_step w 0 k q (omega arith) (in_application w)
          ∙ ap (λ (y : List ℕ). cond (eqb (parent_of w.nodes k) 0) (in_application w k) [] ++ flat_map (in_application w) y) (o.same 0 b)) i.holds);
    }

pub all_end : (w : Tree) (k : ℕ) {l : List ℕ} {n : ℕ} → rest w 0 k ≡ [] → AllListed w k l n → Holds (main_activities w) [] l n
all_end w k e i = holds_same (flat-none (in_application w) e) i.holds

-- ---- what is answered

module _ {z l : List ℕ} {n : ℕ} (h : Holds z [] l n) where
  pub gives-full :
      {r : Result ℕ Refusal} (ys : List ℕ) →
      length l < n →
      (r ≡ Err (ListFull (length l))) × (ys ≡ replicate (length l) 0) →
      Gives (length l) z r ys
  gives-full ys q g = let e = lt-leb (length z) (length l) (h.full q) in record { same = g.0 ∙ rw e; list = g.1 ∙ rw e }

  pub gives-list :
      (ys : List ℕ) →
      n ≤ length l →
      ys ≡ take n l ++ replicate (length l - n) 0 →
      Gives (length l) z (Ok n) ys
  gives-list ys q g =
      let e : z ≡ take n l = h.kept q ∙ append-nil (take n l) in
      let m : length z ≡ n = ap length e ∙ length-take-le n l q in
      let t = le-leb (length z) (length l) (omega arith) in
      record { same = rw (t, m); list = rw (t, m) (g ∙ ap (λ (x : List ℕ). x ++ replicate (length l - n) 0) (sym e)) }
