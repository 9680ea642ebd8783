-- Laws of a value's text against a given one: `shown_as` of specs/Activities.antt, `said_is` of specs/Inner/Pass.antt. No contract cites this file.
-- In order: a text in a buffer (`front-..`); a string of the pool (`string-is`); by the type (`plain-..`); behind the items (`named-..`); the
-- value (`value-..`).
use Rattle.std.specs.Prelude.{Some, None, is_some}
use Prim.Native.Nat.{ℕ, ◌≤◌, ◌<◌}
use native.Mathlib.Omega.{arith}
use mathlib.Core.Path.{◌≡◌, refl, sym, ap, ◌∙◌}
use mathlib.Core.Bool.{Bool, true, false, not}
use mathlib.Core.List.{List}
use borrow.Author.Tests.{eq-eqb, ne_eqb}
use lib.ListN.{length, take}
use Rattle.utf.specs.Text.{eq_bytes}
use Rattle.utf.proofs.Equal.{eq_bytes-length, eq_bytes-some}
use Rattle.common.specs.ValueType.{value_type_of}
use Rattle.common.specs.declared.value.ResourceValueType.{ResourceValueType}
use Rattle.system_types.specs.Names.{Lent}
use Rattle.text.specs.declared.Head.{Head}
use Rattle.text.specs.declared.Found.{Found}
use Rattle.text.specs.declared.Found.TheVariants.{Nothing, Cut, System, Pool as PoolString}
use Rattle.text.specs.Content.{Content, none, cut, some, content_of, string_of, text_in, is_text, android_uri}
use Rattle.text.specs.Inner.Found.{part_of, is_found}
use Rattle.items.specs.Items.{items_of, named_in}
use Rattle.items.specs.Values.{Text, nothing, says, is_said, said, attr_text, uncovered_of}
use Rattle.items.specs.Inner.Turns.{run_items, RunOf, Spoken}
use Rattle.items.specs.declared.Run.{Run}
use Rattle.errors.specs.declared.TextState.{TextState}
use Rattle.items.specs.declared.Said.{Said}
use Rattle.value_text.specs.declared.Attribute.{Attribute}
use Rattle.value_text.specs.declared.plain.Form.{Form}
use Rattle.value_text.specs.declared.plain.Form.TheVariants.{Reference, Attribute as AttributeForm, Pool, Number, Word, Truth, Color, Other}
use Rattle.value_text.specs.Value.{or_plain, plain_by, plain_state, named_value, value_by, attribute_value}
use Rattle.value_text.specs.Inner.Leads.{Leads}
use Rattle.value_text.specs.Inner.Forms.{form_of, form_text, is_other, is_pool}
use Rattle.value_text.proofs.Front.{form-said, form-other, leads-wrote}
use Rattle.main_activities.specs.Activities.{shown_as}
use Rattle.main_activities.specs.Inner.Pass.{Fits, said_is}

-- ---- a text in a buffer

module _ {s l out expected : List ℕ} {n : ℕ} (a : Leads s l n out) (f : Fits expected out) where
  pub front_long : length out < n → false ≡ eq_bytes s expected
  front_long q =
      let c = a.count in
      let b = f.fits in
      sym (eq_bytes-length s expected (λ e. (let z : ⊥ = omega arith in z)))

  pub front_same : {r : Bool} → n ≤ length out → r ≡ eq_bytes (take n out) expected → r ≡ eq_bytes s expected
  front_same {r} q g =
      let c = a.count in
      let b = a.long in
      let e : take n out ≡ s = rw c (a.front (omega arith)) in
      g ∙ ap (λ (x : List ℕ). eq_bytes x expected) e

-- ---- a string of the pool

text-is : (c : Content) (s : List ℕ) → 0 < length s → is_text c s ≡ eq_bytes (text_in c) s
text-is none s q = sym (eq_bytes-some s q).1
text-is cut s q = refl
text-is (some w x) s q = refl

pub string-is : {c d : Content} (s : List ℕ) {r : Bool} → 0 < length s → c ≡ d → r ≡ is_text c s → r ≡ eq_bytes (text_in d) s
string-is {c} {d} s q e g = g ∙ ap (λ (x : Content). is_text x s) e ∙ text-is d s q

-- ---- by the type

said-no : (s : List ℕ) (a : Text) → is_said a ≡ false → false ≡ said_is s a
said-no s nothing e = refl
said-no s (says x) e = let z : ◌≡◌ {A = ℕ} 0 1 = cc in absurd (let y : ⊥ = omega arith in y)

said-yes : (s : List ℕ) (a : Text) → is_said a ≡ true → eq_bytes (said a) s ≡ said_is s a
said-yes s nothing e = let z : ◌≡◌ {A = ℕ} 0 1 = cc in absurd (let y : ⊥ = omega arith in y)
said-yes s (says x) e = refl

pool-text : (h : Head) (t : List ℕ) (lent : Lent) (v : ℕ) (form : Form) → is_pool form ≡ true → form_text h t lent v form ≡ text_in (string_of h t v)
unfolding form_text
pool-text h t lent v Reference e = let z : ◌≡◌ {A = ℕ} 0 1 = cc in absurd (let y : ⊥ = omega arith in y)
pool-text h t lent v AttributeForm e = let z : ◌≡◌ {A = ℕ} 0 1 = cc in absurd (let y : ⊥ = omega arith in y)
pool-text h t lent v Pool e = refl
pool-text h t lent v Number e = let z : ◌≡◌ {A = ℕ} 0 1 = cc in absurd (let y : ⊥ = omega arith in y)
pool-text h t lent v Word e = let z : ◌≡◌ {A = ℕ} 0 1 = cc in absurd (let y : ⊥ = omega arith in y)
pool-text h t lent v Truth e = let z : ◌≡◌ {A = ℕ} 0 1 = cc in absurd (let y : ⊥ = omega arith in y)
pool-text h t lent v Color e = let z : ◌≡◌ {A = ℕ} 0 1 = cc in absurd (let y : ⊥ = omega arith in y)
pool-text h t lent v Other e = let z : ◌≡◌ {A = ℕ} 0 1 = cc in absurd (let y : ⊥ = omega arith in y)

-- form is the form of the type y
module _ (h : Head) (t : List ℕ) (lent : Lent) (v : ℕ) (y : ResourceValueType) (s : List ℕ) {form : Form} (i : form ≡ form_of y) where
  pub plain_other : is_other form ≡ true → false ≡ said_is s (plain_by h t lent v y)
  plain_other e = said-no s (plain_by h t lent v y) (form-other h t lent v y ∙ ap not (ap is_other (sym i) ∙ e))

  pub plain_form : {r : Bool} → is_other form ≡ false → r ≡ eq_bytes (form_text h t lent v form) s → r ≡ said_is s (plain_by h t lent v y)
  plain_form e g =
      let q : is_said (plain_by h t lent v y) ≡ true = form-other h t lent v y ∙ ap not (ap is_other (sym i) ∙ e) in
      let x : form_text h t lent v form ≡ said (plain_by h t lent v y) = ap (form_text h t lent v) i ∙ sym (form-said h t lent v y) in
      g ∙ ap (λ (z : List ℕ). eq_bytes z s) x ∙ said-yes s (plain_by h t lent v y) q

  pub plain-pool :
      {r : Bool} → is_other form ≡ false → is_pool form ≡ true → r ≡ eq_bytes (text_in (string_of h t v)) s → r ≡ said_is s (plain_by h t lent v y)
  plain-pool e p g = plain_form e (g ∙ ap (λ (z : List ℕ). eq_bytes z s) (sym (pool-text h t lent v form p)))

-- ---- behind the items

shown-said : (s : List ℕ) (u : ℕ) (d : TextState) (a p : Text) → is_said a ≡ true → eq_bytes (said a) s ≡ shown_as s (or_plain u d a p)
shown-said s u d nothing p e = let z : ◌≡◌ {A = ℕ} 0 1 = cc in absurd (let y : ⊥ = omega arith in y)
shown-said s u d (says x) p e = refl

plain-shown : (s : List ℕ) (u : ℕ) (d : TextState) (p : Text) → said_is s p ≡ shown_as s (or_plain u d nothing p)
plain-shown s u d nothing = refl
plain-shown s u d (says x) = refl

shown-plain : (s : List ℕ) (u : ℕ) (d : TextState) (a p : Text) → is_said a ≡ false → said_is s p ≡ shown_as s (or_plain u d a p)
shown-plain s u d nothing p e = plain-shown s u d p
shown-plain s u d (says x) p e = let z : ◌≡◌ {A = ℕ} 0 1 = cc in absurd (let y : ⊥ = omega arith in y)

-- the items that a name has, as a run
module _ (h : Head) (t : List ℕ) (lent : Lent) (items area name : List ℕ) (kind v : ℕ) (run : Run) (found : RunOf area name items run)
    (s : List ℕ) {r : Bool} where
  pub named-said :
      {l k : List ℕ} {x : Said} {n : ℕ} →
      Spoken area v (run_items items run) l x k →
      x.length ≡ Some n →
      ((y m : List ℕ) → Leads y m n k → r ≡ eq_bytes y s) →
      r ≡ shown_as s (named_value h t lent items area name kind v)
  unfolding named_value
  named-said {l} {k} {x} {n} a e g =
      let b = rw (sym found.all) at a in
      let is = named_in area name (items_of items) in
      let w = rw e at b.text in
      g (said (attr_text area v is)) l (leads-wrote w)
      ∙ shown-said s (uncovered_of v is) (plain_state h t v (value_type_of kind)) (attr_text area v is) (plain_by h t lent v (value_type_of kind)) (sym b.some ∙ ap is_some e)

  pub named-plain :
      {l m : List ℕ} {x : Said} →
      Spoken area v (run_items items run) l x m →
      x.length ≡ None →
      r ≡ said_is s (plain_by h t lent v (value_type_of kind)) →
      r ≡ shown_as s (named_value h t lent items area name kind v)
  unfolding named_value
  named-plain {l} {m} {x} a e g =
      let b = rw (sym found.all) at a in
      let is = named_in area name (items_of items) in
      g
      ∙ shown-plain s (uncovered_of v is) (plain_state h t v (value_type_of kind)) (attr_text area v is) (plain_by h t lent v (value_type_of kind)) (sym b.some ∙ ap is_some e)

-- ---- the value

module _ (h : Head) (t : List ℕ) (lent : Lent) (items area : List ℕ) (a : Attribute) (s : List ℕ) {r : Bool} where
  pub value-uri : a.prefix ≡ 2 → r ≡ eq_bytes android_uri s → r ≡ shown_as s (attribute_value h t lent items area a)
  unfolding attribute_value
  value-uri e g = rw (eq-eqb a.prefix 2 e) g

  value-by :
      {c : Content} →
      (a.prefix ≡ 2 → ⊥) →
      c ≡ content_of h t lent a.name.0 →
      r ≡ shown_as s (value_by h t lent items area c a.kind a.«data») →
      r ≡ shown_as s (attribute_value h t lent items area a)
  unfolding attribute_value
  value-by p e g = rw (ne_eqb a.prefix 2 p, ← e) g

  pub value_none :
      (f : Found) →
      (a.prefix ≡ 2 → ⊥) →
      part_of h.utf16 t lent.area f ≡ content_of h t lent a.name.0 →
      is_found f ≡ false →
      r ≡ false →
      r ≡ shown_as s (attribute_value h t lent items area a)
  value_none Nothing p e q n = value-by p e n
  value_none Cut p e q n = let z : ◌≡◌ {A = ℕ} 0 1 = cc in absurd (let y : ⊥ = omega arith in y)
  value_none (System at i) p e q n = let z : ◌≡◌ {A = ℕ} 0 1 = cc in absurd (let y : ⊥ = omega arith in y)
  value_none (PoolString at i) p e q n = let z : ◌≡◌ {A = ℕ} 0 1 = cc in absurd (let y : ⊥ = omega arith in y)

  pub value-named :
      (f : Found) →
      (a.prefix ≡ 2 → ⊥) →
      part_of h.utf16 t lent.area f ≡ content_of h t lent a.name.0 →
      is_found f ≡ true →
      r ≡ shown_as s (named_value h t lent items area (text_in (part_of h.utf16 t lent.area f)) a.kind a.«data») →
      r ≡ shown_as s (attribute_value h t lent items area a)
  value-named Nothing p e q g = let z : ◌≡◌ {A = ℕ} 0 1 = cc in absurd (let y : ⊥ = omega arith in y)
  value-named Cut p e q g = value-by p e g
  value-named (System at i) p e q g = value-by p e g
  value-named (PoolString at i) p e q g = value-by p e g
