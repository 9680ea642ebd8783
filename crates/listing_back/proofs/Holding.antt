-- A form held against a text byte by byte, as the code does it. No contract cites this file.
use Rattle.std.specs.Prelude.{Some, None}
use Prim.Native.Nat.{ℕ, ◌+◌, ◌-◌, ◌≤◌, ◌<◌, min}
use mathlib.Core.Path.{◌≡◌, refl, sym, ap, subst, ◌∙◌}
use mathlib.Core.Bool.{Bool, true, false, cond, ◌||◌}
use mathlib.Core.List.{List, [], ◌∷◌, ◌++◌}
use native.Mathlib.Omega.{arith}
use native.Mathlib.Numerals.{add-one}
use borrow.Author.Tests.{eq-eqb, ne_eqb, lt-ltb, le-ltb, ltb-true, ltb-false}
use lib.Dec.{eqb, ltb}
use lib.ListN.{length, drop, get_or, set, drop_of_length-le, length-append}
use lib.Seq.{drop-cons}
use Rattle.digits.specs.Written.{written}
use Rattle.digits.proofs.Written.{written-append}
use Rattle.listing_back.specs.Forms.{Number, nothing, number, number_at_front, Front, lost, front, numbered, next, held, taken}
use Rattle.listing_back.specs.Due.{is_over, any_over}
use Rattle.listing_back.specs.Inner.Stands.{IsFigure, HoldsFront, Holds, MovesOn}
use Rattle.listing_back.specs.declared.taking.Figure.{Figure}
use Rattle.listing_back.specs.declared.taking.Taking.{Taking}
use Rattle.listing_back.proofs.Lines.{any_over-first, neither, held-lost}
use Rattle.listing_back.proofs.Steps.{any_over-append, no-over}

pub contra : {A : Type 0} (b : Bool) → b ≡ true → b ≡ false → A
contra b p q = absurd (let z : ◌≡◌ {A = ℕ} 0 1 = cc in let y : ⊥ = omega arith in y)

-- ---- what a byte of a form does at a place

next-at :
    (c : ℕ) (ns s text : List ℕ) (at : ℕ) → s ≡ drop at text → at < length text →
    next c (front ns s) ≡ cond (eqb (get_or text at 0) c) (cond (eqb c 61) (numbered ns (number_at_front (drop (at + 1) text))) (front ns (drop (at + 1) text))) lost
next-at c ns s text at e h = rw e (rw (drop-cons text at 0 h, add-one at))

next-end : (c : ℕ) (ns s text : List ℕ) (at : ℕ) → s ≡ drop at text → length text ≤ at → next c (front ns s) ≡ lost
next-end c ns s text at e h = rw e (rw (drop_of_length-le text h))

module _ (text : List ℕ) (i c : ℕ) (now : List ℕ) (f : Taking) where
  pub moves-end : length text ≤ f.at → MovesOn text i c now f None now
  moves-end l = record { holds = on; few = tt; same = refl } where
    on : (before ns s : List ℕ) → HoldsFront text i before now f ns s → Holds text i before now None (next c (front ns s))
    on before ns s h = subst (Holds text i before now None) (sym (next-end c ns s text f.at h.rest l)) h.same

  pub moves-other : f.at < length text → (get_or text f.at 0 ≡ c → ⊥) → MovesOn text i c now f None now
  moves-other l n = record { holds = on; few = tt; same = refl } where
    on : (before ns s : List ℕ) → HoldsFront text i before now f ns s → Holds text i before now None (next c (front ns s))
    on before ns s h =
        let e : next c (front ns s) ≡ lost = next-at c ns s text f.at h.rest l ∙ rw (ne_eqb (get_or text f.at 0) c n) in
        subst (Holds text i before now None) (sym e) h.same

  pub moves-passed :
      (r : Taking) → f.at < length text → get_or text f.at 0 ≡ c → (c ≡ 61 → ⊥) →
      r ≡ record { over = f.over; first = f.first; count = f.count; at = f.at + 1 } → MovesOn text i c now f (Some r) now
  moves-passed r l e n q = record { holds = on; few = few-of; same = refl } where
    few-of : r.count ≤ f.count + 1
    few-of = let z : r.count ≡ f.count = ap (λ (t : Taking). t.count) q in omega arith

    on : (before ns s : List ℕ) → HoldsFront text i before now f ns s → Holds text i before now (Some r) (next c (front ns s))
    on before ns s h =
        let z : next c (front ns s) ≡ front ns (drop (f.at + 1) text) =
        next-at c ns s text f.at h.rest l ∙ rw (eq-eqb (get_or text f.at 0) c e, ne_eqb c 61 n) in
        subst (Holds text i before now (Some r)) (sym z)
        (rw q (record {
          over = h.over;
          first = h.first;
          count = h.count;
          rest = refl;
          inside = omega arith;
          words = h.words;
          same = h.same;
        }))

-- ---- a number behind `=`

over-one : (v w : ℕ) → w ≡ min v 4294967296 → is_over w ≡ any_over (v ∷ [])
unfolding any_over
over-one v w e = go (ltb 4294967295 v) refl where
  go : (t : Bool) → ltb 4294967295 v ≡ t → ltb 4294967295 w ≡ (ltb 4294967295 v || false)
  go true q = let h = ltb-true 4294967295 v q in rw (q, lt-ltb 4294967295 w (omega arith))
  go false q = let h = ltb-false 4294967295 v q in rw (q, le-ltb 4294967295 w (omega arith))

written_one : (p v : ℕ) (l : List ℕ) → written p (v ∷ []) l ≡ set l p v
unfolding written
written_one p v l = refl

written-more : (i v n : ℕ) (vs before now now' : List ℕ) → now ≡ written i vs before → n ≡ length vs → now' ≡ set now (i + n) v → now' ≡ written i (vs ++ (v ∷ [])) before
written-more i v n vs before now now' e m q =
    q ∙ (rw (e, m) (sym (written-append vs (v ∷ []) before i ∙ written_one (i + length vs) v (written i vs before))))

module _ (text : List ℕ) (i : ℕ) (now : List ℕ) (f : Taking) (l : f.at < length text) (e : get_or text f.at 0 ≡ 61) where
  next-number : (ns s : List ℕ) → s ≡ drop f.at text → next 61 (front ns s) ≡ numbered ns (number_at_front (drop (f.at + 1) text))
  next-number ns s q = next-at 61 ns s text f.at q l ∙ rw e

  none_of : (ns : List ℕ) (x : Number) → IsFigure text None x → numbered ns x ≡ lost
  none_of ns nothing h = refl
  none_of ns (number v s) h = absurd h

  pub moves-none : IsFigure text None (number_at_front (drop (f.at + 1) text)) → MovesOn text i 61 now f None now
  moves-none k = record { holds = on; few = tt; same = refl } where
    on : (before ns s : List ℕ) → HoldsFront text i before now f ns s → Holds text i before now None (next 61 (front ns s))
    on before ns s h =
        subst (Holds text i before now None) (sym (next-number ns s h.rest ∙ none_of ns (number_at_front (drop (f.at + 1) text)) k)) h.same

  first_of :
      (n : Figure) (r : Taking) (x : Number) (before : List ℕ) → IsFigure text (Some n) x → now ≡ written i [] before → length now ≡ length before →
      r ≡ record { over = is_over n.value; first = n.value; count = 1; at = n.end } → Holds text i before now (Some r) (numbered [] x)
  first_of n r nothing before h w m q = absurd h
  first_of n r (number v s) before h w m q =
      rw q (record {
        over = over-one v n.value h.value;
        first = h.value;
        count = refl;
        rest = h.rest;
        inside = h.inside;
        words = λ o. w;
        same = m;
      })

  pub moves-first :
      (n : Figure) (r : Taking) → IsFigure text (Some n) (number_at_front (drop (f.at + 1) text)) → f.count ≡ 0 →
      r ≡ record { over = is_over n.value; first = n.value; count = 1; at = n.end } → MovesOn text i 61 now f (Some r) now
  moves-first n r k o q = record { holds = on; few = few-of; same = refl } where
    few-of : r.count ≤ f.count + 1
    few-of = let z : r.count ≡ 1 = ap (λ (t : Taking). t.count) q in omega arith

    on : (before ns s : List ℕ) → HoldsFront text i before now f ns s → Holds text i before now (Some r) (next 61 (front ns s))
    on before [] s h =
        subst (Holds text i before now (Some r)) (sym (next-number [] s h.rest))
        (first_of n r (number_at_front (drop (f.at + 1) text)) before k (h.words no-over) h.same q)
    on before (m ∷ ns) s h = absurd (let y = h.count in let x : ⊥ = omega arith in x)

  module _ (n : Figure) (r : Taking) (k : IsFigure text (Some n) (number_at_front (drop (f.at + 1) text))) (now' : List ℕ) (st : n.value < 4294967296 → now' ≡ set now (i + (f.count - 1)) n.value) (sm : length now' ≡ length now) where
    more-words :
        (m v : ℕ) (ns before : List ℕ) → n.value ≡ min v 4294967296 → f.count ≡ length (m ∷ ns) →
        (any_over (m ∷ ns) ≡ false → now ≡ written i ns before) → any_over ((m ∷ ns) ++ (v ∷ [])) ≡ false → now' ≡ written i (ns ++ (v ∷ [])) before
    more-words m v ns before a b w o =
        let p = neither (any_over (m ∷ ns)) (any_over (v ∷ [])) (sym (any_over-append (m ∷ ns) (v ∷ [])) ∙ o) in
        let h = any_over-first v [] p.1 in
        let d : n.value ≡ v = omega arith in
        let d2 : n.value < 4294967296 = omega arith in
        let d3 : f.count - 1 ≡ length ns = omega arith in
        written-more i v (f.count - 1) ns before now now' (w p.0) d3 (st d2 ∙ ap (λ (x : ℕ). set now (i + (f.count - 1)) x) d)

    more_of :
        (x : Number) (m : ℕ) (ns s before : List ℕ) → IsFigure text (Some n) x → HoldsFront text i before now f (m ∷ ns) s →
        r ≡ record { over = (f.over || is_over n.value); first = f.first; count = f.count + 1; at = n.end } →
        Holds text i before now' (Some r) (numbered (m ∷ ns) x)
    more_of nothing m ns s before h b q = absurd h
    more_of (number v u) m ns s before h b q =
        rw q (record {
          over = ap (λ (x : Bool). x || is_over n.value) b.over ∙ (ap (λ (x : Bool). any_over (m ∷ ns) || x) (over-one v n.value h.value) ∙
              sym (any_over-append (m ∷ ns) (v ∷ [])));
          first = b.first;
          count = (let y = b.count in let x = length-append (m ∷ ns) (v ∷ []) in let w : f.count + 1 ≡ length ((m ∷ ns) ++ (v ∷ [])) = omega arith in w);
          rest = h.rest;
          inside = h.inside;
          words = λ o. more-words m v ns before h.value b.count b.words o;
          same = sm ∙ b.same;
        })

    pub moves_more :
        (f.count ≡ 0 → ⊥) → r ≡ record { over = (f.over || is_over n.value); first = f.first; count = f.count + 1; at = n.end } → MovesOn text i 61 now f (Some r) now'
    moves_more o q = record { holds = on; few = few-of; same = sm } where
      few-of : r.count ≤ f.count + 1
      few-of = let z : r.count ≡ f.count + 1 = ap (λ (t : Taking). t.count) q in omega arith

      on : (before ns s : List ℕ) → HoldsFront text i before now f ns s → Holds text i before now' (Some r) (next 61 (front ns s))
      on before [] s h = absurd (o h.count)
      on before (m ∷ ns) s h =
          subst (Holds text i before now' (Some r)) (sym (next-number (m ∷ ns) s h.rest)) (more_of (number_at_front (drop (f.at + 1) text)) m ns s before k h q)

-- ---- all bytes of a form

pub record TakenSoFar (text : List ℕ) (i : ℕ) (form : List ℕ) (at : ℕ) (before now : List ℕ) (f : Taking) (j : ℕ) : Type 0 where
  pub numbers : List ℕ
  pub behind : List ℕ
  pub holds : HoldsFront text i before now f numbers behind
  pub on : taken form (drop at text) ≡ held (drop j form) (front numbers behind)
  pub few : f.count ≤ j
  pub same : length now ≡ length before

pub take-first :
    (text : List ℕ) (i : ℕ) (form : List ℕ) (at : ℕ) (words : List ℕ) → at ≤ length text →
    TakenSoFar text i form at words words (record { over = false; first = 0; count = 0; at = at }) 0
unfolding written
take-first text i form at words h =
    record {
      numbers = [];
      behind = drop at text;
      holds = record { over = sym no-over; first = refl; count = refl; rest = refl; inside = h; words = λ o. refl; same = refl };
      on = refl;
      few = omega arith;
      same = refl;
    }

held-step : (form : List ℕ) (j : ℕ) (x : Front) → j < length form → held (drop j form) x ≡ held (drop (j + 1) form) (next (get_or form j 0) x)
unfolding held
held-step form j x h = rw (drop-cons form j 0 h, add-one j)

module _ (text : List ℕ) (i : ℕ) (form : List ℕ) (at : ℕ) (before now now' : List ℕ) (f : Taking) (j : ℕ) (h : j < length form)
    (t : TakenSoFar text i form at before now f j) where
  pub take_more : (r : Taking) → MovesOn text i (get_or form j 0) now f (Some r) now' → TakenSoFar text i form at before now' r (j + 1)
  take_more r m = go (next (get_or form j 0) (front t.numbers t.behind)) refl (m.holds before t.numbers t.behind t.holds)
    where
      go : (x : Front) → next (get_or form j 0) (front t.numbers t.behind) ≡ x → Holds text i before now' (Some r) x → TakenSoFar text i form at before now' r (j + 1)
      go lost e k = absurd k
      go (front ns s) e k =
          record {
            numbers = ns;
            behind = s;
            holds = k;
            on = t.on ∙ (held-step form j (front t.numbers t.behind) h ∙ ap (held (drop (j + 1) form)) e);
            few = let a : r.count ≤ f.count + 1 = m.few in let b = t.few in omega arith;
            same = m.same ∙ t.same;
          }

  -- the first byte that is not as the form says
  pub take-lost : MovesOn text i (get_or form j 0) now f None now' → Holds text i before now' None (taken form (drop at text))
  take-lost m = go (next (get_or form j 0) (front t.numbers t.behind)) refl (m.holds before t.numbers t.behind t.holds)
    where
      go : (x : Front) → next (get_or form j 0) (front t.numbers t.behind) ≡ x → Holds text i before now' None x → Holds text i before now' None (taken form (drop at text))
      go lost e k =
          let z : taken form (drop at text) ≡ lost =
          t.on ∙ (held-step form j (front t.numbers t.behind) h ∙ (ap (held (drop (j + 1) form)) e ∙ held-lost (drop (j + 1) form))) in
          subst (Holds text i before now' None) (sym z) (m.same ∙ t.same)
      go (front ns s) e k = absurd k

held-end : (form : List ℕ) (j : ℕ) (x : Front) → length form ≤ j → held (drop j form) x ≡ x
unfolding held
held-end form j x h = rw (drop_of_length-le form h)

pub take-end :
    (text : List ℕ) (i : ℕ) (form : List ℕ) (at : ℕ) (before now : List ℕ) (f : Taking) (j : ℕ) → length form ≤ j →
    TakenSoFar text i form at before now f j → Holds text i before now (Some f) (taken form (drop at text))
take-end text i form at before now f j h t =
    subst (Holds text i before now (Some f)) (sym (t.on ∙ held-end form j (front t.numbers t.behind) h)) t.holds

-- ---- structs of the code

pub taking-by :
    (o o' : Bool) (first count at : ℕ) → o ≡ o' →
    ◌≡◌ {A = Taking} (record { over = o; first = first; count = count; at = at }) (record { over = o'; first = first; count = count; at = at })
taking-by o o' first count at e = rw e

pub is-two : (n : ℕ) → n < 3 → (n ≡ 0 → ⊥) → (n ≡ 1 → ⊥) → n ≡ 2
is-two n h a b = omega arith

pub is-six : (n : ℕ) → 2 < n → n < 7 → (n ≡ 3 → ⊥) → (n ≡ 4 → ⊥) → (n ≡ 5 → ⊥) → n ≡ 6
is-six n h i a b d = omega arith

pub is-nine : (n : ℕ) → 6 < n → n < 10 → (n ≡ 7 → ⊥) → (n ≡ 8 → ⊥) → n ≡ 9
is-nine n h i a b = omega arith
