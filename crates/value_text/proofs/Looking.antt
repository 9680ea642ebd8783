-- Laws of finding the items of an attribute's name, and of its value. No contract cites this file.
-- In order: what is no `Some` (`none_by`); an item against a text (`is-item`); a name in a buffer (`name-held`); no names lent (`pool-..`); the value (`value-..`).
use Rattle.std.specs.Prelude.{Option, Some, None, Ok}
use Prim.Native.Nat.{ℕ, ◌-◌, ◌/◌, ◌≤◌, ◌<◌}
use mathlib.Core.Path.{◌≡◌, refl, sym, ap, ◌∙◌}
use mathlib.Core.List.{List, []}
use mathlib.Core.Bool.{Bool, true, false, cond}
use native.Mathlib.Omega.{arith}
use borrow.Author.Tests.{eq-eqb, ne_eqb}
use lib.ListN.{length, take, drop}
use lib.Seq.{take-append_seam}
use lib.Dec.{eqb, ltb}
use Rattle.utf.specs.Text.{text_of, eq_bytes}
use Rattle.utf.specs.Plain.{is_ascii, is_plain, Known}
use Rattle.utf.proofs.Equal.{eq_bytes-refl, eq_bytes-true, eq_bytes-false, eq_bytes-not}
use Rattle.utf.proofs.Laws.{text_of-ascii}
use Rattle.utf.proofs.Ascii.{is_ascii-at}
use Rattle.utf.proofs.Filled.{put_text-whole}
use Rattle.system_types.specs.Names.{Lent, lends, top_byte, system_name, name_by_id, names_from}
use Rattle.resource_map.specs.Map.{id_of}
use Rattle.text.specs.declared.Head.{Head}
use Rattle.text.specs.declared.Found.{Found}
use Rattle.text.specs.declared.Found.TheVariants.{Nothing, Cut, System, Pool}
use Rattle.text.specs.Content.{Content, none, cut, some, named_by, system_of, string_of, content_of, or_else, text_in, has_text, is_text, android_uri}
use Rattle.text.specs.Inner.Found.{Asks, part_of, is_found, Wrote as Put}
use Rattle.records.specs.Words.{item_width}
use Rattle.items.specs.Items.{item_at, attribute_of, table_of}
use Rattle.items.specs.Inner.Turns.{FirstNamed}
use Rattle.items.specs.declared.Item.{Item}
use Rattle.items.proofs.Together.{good-ascii}
use Rattle.value_text.specs.declared.Attribute.{Attribute}
use Rattle.value_text.specs.declared.Told.{Told}
use Rattle.value_text.specs.declared.Told.TheVariants.{NoName}
use Rattle.errors.specs.declared.TextState.TheVariants.{Whole}
use Rattle.value_text.specs.Value.{shows, named_value, value_by, attribute_value}
use Rattle.value_text.specs.Inner.Leads.{Tells}

-- ---- the `else` of a `let Some(..) = .. else`

pub none_by : {T : Type 0} (o : Option T) → ((x : T) → o ≡ Some x → ⊥) → o ≡ None
none_by None n = refl
none_by (Some x) n = absurd (n x refl)

-- ---- an item against a text

eq_bytes-sym : (x y : List ℕ) → eq_bytes x y ≡ eq_bytes y x
eq_bytes-sym x y = go (eq_bytes y x) refl
  where
    go : (b : Bool) → eq_bytes y x ≡ b → eq_bytes x y ≡ b
    go true e = rw (eq_bytes-true y x e) (eq_bytes-refl x)
    go false e = eq_bytes-not x y (λ f. eq_bytes-false y x e (sym f))

pub part-text : (w : Bool) (t area : List ℕ) (f : Found) → is_found f ≡ true → has_text (part_of w t area f) ≡ true
part-text w t area Nothing e = e
part-text w t area Cut e = refl
part-text w t area (System at n) e = refl
part-text w t area (Pool at n) e = refl

pub is-item :
    (w : Bool) (t area : List ℕ) (f : Found) {r : Bool} {s a : List ℕ} →
    is_found f ≡ true →
    s ≡ a →
    is_ascii a ≡ true →
    r ≡ is_text (part_of w t area f) (text_of false s) →
    r ≡ eq_bytes a (text_in (part_of w t area f))
is-item w t area f {r} {s} {a} e q i h =
    let x = text_in (part_of w t area f) in
    let p : text_of false a ≡ a = text_of-ascii a (is_ascii-at a i) in
    h ∙ rw (part-text w t area f e, q, p) (eq_bytes-sym x a)

-- the bytes of a good item's attribute are plain
pub plain-item :
    (area w : List ℕ) (k : ℕ) {i : Item} {s : List ℕ} →
    table_of area w ≡ (Ok tt) →
    k < length w / item_width →
    i ≡ item_at w k →
    s ≡ attribute_of area i →
    is_ascii s ≡ true
plain-item area w k g p q e = rw (e, q) (good-ascii area w g k p)

pub known-plain : (s : List ℕ) → is_ascii s ≡ true → Known true (is_plain false s)
known-plain s e = record { holds = λ h. e }

-- ---- a text held in a buffer

-- a text of n bytes at the front of a buffer that holds it; the part from its front on, as the code takes it
pub name-held : {s l k : List ℕ} {n : ℕ} → Put s l k n → n ≤ length l → take (n - 0) (drop 0 k) ≡ s
name-held {s} {l} {k} {n} w p =
    let c = w.count in
    let f : length s ≤ length l = omega arith in
    let z : n - 0 ≡ length s = omega arith in
    ap (λ (x : ℕ). take x k) z ∙ rw (w.bytes, put_text-whole s l f, take-append_seam)

pub first_of : (area w : List ℕ) {s name : List ℕ} {r : ℕ} → s ≡ name → FirstNamed area s w r → FirstNamed area name w r
first_of area w e f = rw (← e) f

-- ---- no names lent: the pool alone

module _ (h : Head) (t : List ℕ) (lent : Lent) where
  pub pool-asks : Asks t lent h → Asks t (lends [] lent.area) h
  unfolding names_from
  pool-asks a = record { fits = a.fits; good = refl }

  no_name_lem : (id : ℕ) → system_name id [] ≡ None
  unfolding name_by_id
  no_name_lem id = go (eqb (top_byte id) 1)
    where
      go : (b : Bool) → cond b (name_by_id id []) None ≡ None
      go true = refl
      go false = refl

  pub pool-content : (area : List ℕ) (i : ℕ) → content_of h t (lends [] area) i ≡ string_of h t i
  unfolding content_of system_of
  pool-content area i = go (ltb i h.ids)
    where
      go : (b : Bool) → or_else (cond b (named_by area (system_name (id_of (drop h.map t) i) [])) none) (string_of h t i) ≡ string_of h t i
      go true = rw (no_name_lem (id_of (drop h.map t) i))
      go false = refl

-- ---- the value

module _ (h : Head) (t : List ℕ) (lent : Lent) (items area : List ℕ) (a : Attribute) {l k : List ℕ} {r : Told} where
  pub value-uri : a.prefix ≡ 2 → Tells (shows android_uri 0 Whole) l r k → Tells (attribute_value h t lent items area a) l r k
  unfolding attribute_value
  value-uri e g = rw (eq-eqb a.prefix 2 e) g

  value-by :
      {c : Content} →
      (a.prefix ≡ 2 → ⊥) →
      c ≡ content_of h t lent a.name.0 →
      Tells (value_by h t lent items area c a.kind a.«data») l r k →
      Tells (attribute_value h t lent items area a) l r k
  unfolding attribute_value
  value-by p e g = rw (ne_eqb a.prefix 2 p, ← e) g

  pub value_none :
      (f : Found) →
      (a.prefix ≡ 2 → ⊥) →
      part_of h.utf16 t lent.area f ≡ content_of h t lent a.name.0 →
      is_found f ≡ false →
      r ≡ NoName →
      k ≡ l →
      Tells (attribute_value h t lent items area a) l r k
  value_none Nothing p e q n m = value-by p e (record { told = n; long = ap length m; front = λ z. refl })
  value_none Cut p e q n m = let z : ◌≡◌ {A = ℕ} 0 1 = cc in absurd (let y : ⊥ = omega arith in y)
  value_none (System at i) p e q n m = let z : ◌≡◌ {A = ℕ} 0 1 = cc in absurd (let y : ⊥ = omega arith in y)
  value_none (Pool at i) p e q n m = let z : ◌≡◌ {A = ℕ} 0 1 = cc in absurd (let y : ⊥ = omega arith in y)

  pub value-named :
      (f : Found) →
      (a.prefix ≡ 2 → ⊥) →
      part_of h.utf16 t lent.area f ≡ content_of h t lent a.name.0 →
      is_found f ≡ true →
      Tells (named_value h t lent items area (text_in (part_of h.utf16 t lent.area f)) a.kind a.«data») l r k →
      Tells (attribute_value h t lent items area a) l r k
  value-named Nothing p e q g = let z : ◌≡◌ {A = ℕ} 0 1 = cc in absurd (let y : ⊥ = omega arith in y)
  value-named Cut p e q g = value-by p e g
  value-named (System at i) p e q g = value-by p e g
  value-named (Pool at i) p e q g = value-by p e g

  -- by what the name's index stands for
  pub value-no-name :
      (a.prefix ≡ 2 → ⊥) → content_of h t lent a.name.0 ≡ none → r ≡ NoName → k ≡ l → Tells (attribute_value h t lent items area a) l r k
  value-no-name p e n m = value-by p (sym e) (record { told = n; long = ap length m; front = λ z. refl })

  pub value-run :
      (a.prefix ≡ 2 → ⊥) →
      has_text (content_of h t lent a.name.0) ≡ true →
      Tells (named_value h t lent items area (text_in (content_of h t lent a.name.0)) a.kind a.«data») l r k →
      Tells (attribute_value h t lent items area a) l r k
  value-run p e g = go (content_of h t lent a.name.0) refl e g
    where
      go :
          (c : Content) →
          c ≡ content_of h t lent a.name.0 →
          has_text c ≡ true →
          Tells (named_value h t lent items area (text_in c) a.kind a.«data») l r k →
          Tells (attribute_value h t lent items area a) l r k
      go none q e' g' = let z : ◌≡◌ {A = ℕ} 0 1 = cc in absurd (let y : ⊥ = omega arith in y)
      go cut q e' g' = value-by p q g'
      go (some w s) q e' g' = value-by p q g'
