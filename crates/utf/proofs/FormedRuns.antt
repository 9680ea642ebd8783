-- The steps through a block of places that are as in whole sequences are sound (`placed-turn`), where the next char is found from its first byte
-- (`NextChar`, specs/Inner/StepRuns.antt). In order: the next char; a place; bytes 80 to BF in a row; the places of a block so far.
use mathlib.Core.Path.{◌≡◌, refl, sym, subst, ap, ◌∙◌}
use mathlib.Core.Bool.{Bool, true, false, not}
use mathlib.Core.List.{List}
use Prim.Native.Nat.{ℕ, ◌+◌, ◌≤◌, ◌<◌, min}
use native.Mathlib.Omega.{arith}
use borrow.Author.Tests.{ltb-true, ltb-false, eqb-true, eqb-false}
use lib.Dec.{ltb, eqb}
use lib.ListN.{length, get_or, drop}
use Rattle.std.specs.Int.{from_bool}
use Rattle.utf.specs.Utf8.{inside, step8}
use Rattle.utf.specs.Text.{step_value, width_of, sound_of}
use Rattle.utf.specs.Inner.StepRuns.{IsInner, Placed, NextChar, Ran}
use Rattle.utf.proofs.Scalars.{inside-ends}
use Rattle.utf.proofs.Places.{step8-at}
use Rattle.utf.proofs.Turns.{took}
use Rattle.utf.proofs.Units.{ran-step}
use Rattle.utf.proofs.Forms.{inner_of}
use Rattle.utf.proofs.Sequences.{not-inner}

-- ---- the next char

pub next_here : (s : List ℕ) (i : ℕ) → (IsInner (get_or s i 0) → ⊥) → NextChar s i i
next_here s i n = record { later = omega arith; inner = λ k l h. absurd (let z : ⊥ = omega arith in z); stop = n }

-- one byte further back, which is a byte inside
pub next-back : (s : List ℕ) (i to : ℕ) → IsInner (get_or s i 0) → NextChar s (i + 1) to → NextChar s i to
next-back s i to p t = let l = t.later in record { later = omega arith; inner = λ k a b. go k a b (eqb k i) refl; stop = t.stop }
  where
    go : (k : ℕ) → i ≤ k → k < to → (x : Bool) → eqb k i ≡ x → IsInner (get_or s k 0)
    go k a b true e = subst (λ (j : ℕ). IsInner (get_or s j 0)) (sym (eqb-true k i e)) p
    go k a b false e = let n = eqb-false k i e in t.inner k (omega arith) b

next-unique : (s : List ℕ) (i to r : ℕ) → NextChar s i to → NextChar s i r → r ≡ to
next-unique s i to r t u = go (ltb to r) refl (ltb r to) refl
  where
    go : (x : Bool) → ltb to r ≡ x → (y : Bool) → ltb r to ≡ y → r ≡ to
    go true e y f = absurd (t.stop (u.inner to t.later (ltb-true to r e)))
    go false e true f = absurd (u.stop (t.inner r u.later (ltb-true r to f)))
    go false e false f = let a = ltb-false to r e in let b = ltb-false r to f in omega arith

-- behind a step of w bytes that is placed
module _ (s : List ℕ) (i w : ℕ) (l : 1 ≤ w) (m : w ≤ 4)
    (p1 : 1 < w → IsInner (get_or s (i + 1) 0)) (p2 : 2 < w → IsInner (get_or s (i + 2) 0)) (p3 : 3 < w → IsInner (get_or s (i + 3) 0))
    (q1 : w ≡ 1 → IsInner (get_or s (i + 1) 0) → ⊥) (q2 : w ≡ 2 → IsInner (get_or s (i + 2) 0) → ⊥) (q3 : w ≡ 3 → IsInner (get_or s (i + 3) 0) → ⊥)
    (q4 : w ≡ 4 → IsInner (get_or s (i + 4) 0) → ⊥) where
  at_place : (k j : ℕ) → k ≡ j → IsInner (get_or s j 0) → IsInner (get_or s k 0)
  at_place k j e p = subst (λ (x : ℕ). IsInner (get_or s x 0)) (sym e) p

  inner-at : (k : ℕ) → i + 1 ≤ k → k < i + w → IsInner (get_or s k 0)
  inner-at k a b = go (eqb k (i + 1)) refl (eqb k (i + 2)) refl
    where
      go : (x : Bool) → eqb k (i + 1) ≡ x → (y : Bool) → eqb k (i + 2) ≡ y → IsInner (get_or s k 0)
      go true e y f = let z = eqb-true k (i + 1) e in at_place k (i + 1) z (p1 (omega arith))
      go false e true f = let z = eqb-true k (i + 2) f in at_place k (i + 2) z (p2 (omega arith))
      go false e false f =
          let x = eqb-false k (i + 1) e in
          let y = eqb-false k (i + 2) f in
          at_place k (i + 3) (omega arith) (p3 (omega arith))

  stop-at : IsInner (get_or s (i + w) 0) → ⊥
  stop-at z = go (eqb w 1) refl (eqb w 2) refl (eqb w 3) refl
    where
      there : (n : ℕ) → w ≡ n → IsInner (get_or s (i + n) 0)
      there n e = at_place (i + n) (i + w) (omega arith) z

      go : (x : Bool) → eqb w 1 ≡ x → (y : Bool) → eqb w 2 ≡ y → (t : Bool) → eqb w 3 ≡ t → ⊥
      go true e y f t g = let n = eqb-true w 1 e in q1 n (there 1 n)
      go false e true f t g = let n = eqb-true w 2 f in q2 n (there 2 n)
      go false e false f true g = let n = eqb-true w 3 g in q3 n (there 3 n)
      go false e false f false g =
          let x = eqb-false w 1 e in
          let y = eqb-false w 2 f in
          let o = eqb-false w 3 g in
          let n : w ≡ 4 = omega arith in
          q4 n (there 4 n)

  next-step : NextChar s (i + 1) (i + w)
  next-step = record { later = omega arith; inner = inner-at; stop = stop-at }

-- ---- a turn: each place of a block

module _ (s : List ℕ) (bytes : (k : ℕ) → get_or s k 0 < 256) (at : ℕ) where
  pub placed-turn : (i : ℕ) → i < length s → Placed (get_or s i 0) (get_or s (i + 1) 0) (get_or s (i + 2) 0) (get_or s (i + 3) 0) (get_or s (i + 4) 0)
      → ((to : ℕ) → NextChar s i to → Ran false s at to) → (to : ℕ) → NextChar s (i + 1) to → Ran false s at to
  placed-turn i h p ran to t = go (inside 0x80 0xbf (get_or s i 0)) refl
    where
      go : (x : Bool) → inside 0x80 0xbf (get_or s i 0) ≡ x → Ran false s at to
      go true e = ran to (next-back s i to (inside-ends 0x80 0xbf (get_or s i 0) e) t)
      go false e =
          let n : IsInner (get_or s i 0) → ⊥ = not-inner (get_or s i 0) (ap not e) in
          let step = step8-at s i h in
          let took8 = took false s i (step_value (step8 (drop i s))) (width_of (step8 (drop i s))) (sound_of (step8 (drop i s))) (step8 (drop i s)) h bytes refl (refl, refl, refl) in
          let w = width_of (step8 (drop i s)) in
          let wide = ap width_of step in
          let inner = inner_of (get_or s i 0) (get_or s (i + 1) 0) (get_or s (i + 2) 0) (get_or s (i + 3) 0) in
          let next =
          next-step s i w took8.least took8.most
          (λ k. inner.second (omega (arith, wide)))
          (λ k. inner.third (omega (arith, wide)))
          (λ k. inner.fourth (omega (arith, wide)))
          (λ k. p.one n (sym wide ∙ k))
          (λ k. p.two n (sym wide ∙ k))
          (λ k. p.three n (sym wide ∙ k))
          (λ k. p.four n (sym wide ∙ k)) in
          let here = ran-step false s at i (step_value (step8 (drop i s))) w (sound_of (step8 (drop i s))) (ran i (next_here s i n)) h took8 (ap sound_of step ∙ p.sound n) in
          subst (λ (j : ℕ). Ran false s at j) (next-unique s (i + 1) to (i + w) t next) here

-- ---- bytes 80 to BF one behind the other

pub record InnerTo (s : List ℕ) (at i : ℕ) : Type 0 where
  pub later : at ≤ i
  pub ends : i ≤ length s
  pub inner : (k : ℕ) → at ≤ k → k < i → IsInner (get_or s k 0)

-- ---- the places of a block so far

pub record FormedTo (n : ℕ) (s : List ℕ) (at least k : ℕ) : Type 0 where
  pub within : k ≤ n
  pub small : least ≤ 1
  pub ran : least ≡ 1 → (to : ℕ) → NextChar s (at + k) to → Ran false s at to

pub formed-next : (m : ℕ) (s : List ℕ) (at least k : ℕ) (b : Bool) → FormedTo m s at least k → k < m
    → (b ≡ true → ((to : ℕ) → NextChar s (at + k) to → Ran false s at to) → (to : ℕ) → NextChar s (at + k + 1) to → Ran false s at to)
    → FormedTo m s at (min least (from_bool b)) (k + 1)
formed-next m s at least k false p h n =
    let small = p.small in
    record { within = omega arith; small = omega arith; ran = λ z. absurd (let y : ⊥ = omega arith in y) }
formed-next m s at least k true p h n =
    let small = p.small in record {
      within = omega arith;
      small = omega arith;
      ran = λ z to t.
          let i : at + (k + 1) ≡ at + k + 1 = omega arith in
          n refl (p.ran (omega arith)) to (subst (λ (j : ℕ). NextChar s j to) i t);
    }
