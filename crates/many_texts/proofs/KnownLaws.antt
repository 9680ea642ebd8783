-- Laws of specs/Inner/Known.antt: nothing is known at first (`knows-none`), a name more (`knows_more`), and what is looked up (`looks-..`). No
-- contract cites this file.
use Rattle.std.specs.Prelude.{Option}
use Prim.Native.Nat.{ℕ, zero, suc, ◌+◌, ◌-◌, ◌<◌}
use native.Mathlib.Omega.{arith}
use mathlib.Core.Path.{◌≡◌, refl, sym, ◌∙◌}
use mathlib.Core.Bool.{Bool, true, false}
use mathlib.Core.List.{List}
use borrow.Author.Tests.{eqb-true, eqb-false}
use lib.ListN.{get_or, set, replicate, length-set}
use lib.Seq.{get_or-set_same, get_or-set_other}
use lib.Dec.{eqb}
use Rattle.text.specs.declared.Head.{Head}
use Rattle.text.specs.declared.Found.{Found}
use Rattle.text.specs.declared.Found.TheVariants.{Nothing, Cut, System, Pool}
use Rattle.text.specs.Content.{none, content_of, text_in}
use Rattle.text.specs.Inner.Found.{part_of, is_found}
use Rattle.system_types.specs.Names.{Lent}
use Rattle.items.specs.declared.Run.{Run}
use Rattle.items.specs.Inner.Turns.{RunOf}
use Rattle.value_text.proofs.Looking.{part-text}
use Rattle.many_texts.specs.Inner.Known.{known_count, HasRun, Looks, Knows}

get_d-zeros : (n j : ℕ) → ◌≡◌ {A = ℕ} (get_or (replicate n 0) j 0) 0
get_d-zeros zero j = refl
get_d-zeros (suc n) zero = refl
get_d-zeros (suc n) (suc j) = get_d-zeros n j

module _ (h : Head) (t : List ℕ) (lent : Lent) (items area : List ℕ) where
  pub knows-none : Knows h t lent items area (replicate known_count 0) (replicate known_count 0)
  knows-none =
      record { first = refl; last = refl; right = λ i p. absurd (let z : ⊥ = omega (arith, get_d-zeros known_count i) in z) }

  pub knows_more :
      (starts ends : List ℕ) (place : ℕ) (r : Run) →
      place < known_count →
      HasRun h t lent items area place r →
      Knows h t lent items area starts ends →
      Knows h t lent items area (set starts place r.first) (set ends place (r.end + 1))
  knows_more starts ends place r p g k =
      record { first = length-set starts place r.first ∙ k.first; last = length-set ends place (r.end + 1) ∙ k.last; right = λ i q. go i q (eqb i place) refl }
    where
      go :
          (i : ℕ) →
          0 < get_or (set ends place (r.end + 1)) i 0 →
          (c : Bool) →
          eqb i place ≡ c →
          HasRun h t lent items area i (record { first = get_or (set starts place r.first) i 0; end = get_or (set ends place (r.end + 1)) i 0 - 1 })
      go i q true e =
          let s : i ≡ place = eqb-true i place e in
          let x : get_or (set starts place r.first) place 0 ≡ r.first = get_or-set_same starts place r.first 0 (omega (arith, k.first)) in
          let y : get_or (set ends place (r.end + 1)) place 0 ≡ r.end + 1 = get_or-set_same ends place (r.end + 1) 0 (omega (arith, k.last)) in
          let z : r.end + 1 - 1 ≡ r.end = omega arith in
          rw (s, x, y, z) g
      go i q false e =
          let n = eqb-false i place e in
          let x = get_or-set_other starts place i r.first 0 n in
          let y = get_or-set_other ends place i (r.end + 1) 0 n in
          let q' : 0 < get_or ends i 0 = rw y at q in
          rw (x, y) (k.right i q')

  pub looks-none : (i : ℕ) (f : Found) → part_of h.utf16 t lent.area f ≡ content_of h t lent i → is_found f ≡ false → content_of h t lent i ≡ none
  looks-none i Nothing e p = sym e
  looks-none i Cut e p = let z : ◌≡◌ {A = ℕ} 0 1 = cc in absurd (let y : ⊥ = omega arith in y)
  looks-none i (System at n) e p = let z : ◌≡◌ {A = ℕ} 0 1 = cc in absurd (let y : ⊥ = omega arith in y)
  looks-none i (Pool at n) e p = let z : ◌≡◌ {A = ℕ} 0 1 = cc in absurd (let y : ⊥ = omega arith in y)

  pub looks-at :
      (i : ℕ) (f : Found) {r : Run} →
      part_of h.utf16 t lent.area f ≡ content_of h t lent i →
      is_found f ≡ true →
      RunOf area (text_in (part_of h.utf16 t lent.area f)) items r →
      HasRun h t lent items area i r
  looks-at i f e p g = record { named = rw (← e) (part-text h.utf16 t lent.area f p); run = rw (← e) g }

  -- by which case was told
  pub looks-same : (i : ℕ) {x y : Option Run} → x ≡ y → Looks h t lent items area i x → Looks h t lent items area i y
  looks-same i e g = rw (← e) g
