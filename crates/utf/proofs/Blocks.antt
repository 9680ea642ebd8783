-- Blocks whose steps are single units: how the greatest mark decides (`seen_basic-..`, with `most` the greatest mark so far), and that each
-- step in such a block is sound (`ran-block`). No contract cites this file.
use mathlib.Core.Path.{◌≡◌, refl, sym, ap, ◌∙◌, subst}
use mathlib.Core.Bool.{Bool, true, false, not, ◌&&◌, and-true, and-false, cond}
use mathlib.Core.List.{List, ◌∷◌, ◌++◌}
use Prim.Native.Nat.{ℕ, zero, suc, ◌+◌, ◌*◌, ◌/◌, ◌%◌, ◌≤◌, ◌<◌, max}
use native.Mathlib.Numerals.{add-one}
use native.Mathlib.Omega.{arith}
use borrow.Author.Tests.{ltb-true, le-ltb, eq-eqb, ne_eqb, eqb-true, eqb-false, not-true}
use lib.Dec.{ltb, eqb}
use lib.ListN.{length, get_or, take, drop, length-append, length-drop}
use lib.Seq.{drop-cons, drop-length, drop-drop}
use Rattle.std.proofs.lemmas.List.{take_at, drop_at}
use Rattle.utf.specs.Plain.{is_ascii}
use Rattle.utf.specs.Inner.StepRuns.{Ran, basic_from, is_basic, is_single}
use Rattle.utf.proofs.Tables.{both_true}
use Rattle.utf.proofs.Units.{ran-ascii, ran-unit}

-- ---- the greatest mark

-- an odd place holds the second byte of a unit
abbrev pub is_odd : ℕ → Bool
is_odd i = eqb (i % 2) 1

is_odd-next : (i : ℕ) → is_odd (suc i) ≡ not (is_odd i)
is_odd-next i = go (is_odd i) refl
  where
    go : (t : Bool) → is_odd i ≡ t → is_odd (suc i) ≡ not (is_odd i)
    go true e = let h = eqb-true (i % 2) 1 e in ne_eqb (suc i % 2) 1 (λ z. omega arith) ∙ sym (ap not e)
    go false e = let h = eqb-false (i % 2) 1 e in eq-eqb (suc i % 2) 1 (omega (arith, h)) ∙ sym (ap not e)

-- what a byte says and what is said by those behind it
basic_from-cons : (second : Bool) (b : ℕ) (s : List ℕ) → basic_from second (b ∷ s) ≡ (not (second && eqb (b / 8) 27) && basic_from (not second) s)
unfolding basic_from
basic_from-cons true b s = refl
basic_from-cons false b s = refl

-- `most` is no mark, and no unit from place i on is a surrogate
abbrev pub seen_basic : ℕ → ℕ → List ℕ → Bool
seen_basic most i s = ltb most 1 && basic_from (is_odd i) (drop i s)

seen-mark : (most x : ℕ) (t r : Bool) → x ≡ cond t 1 0 → (ltb (max most x) 1 && r) ≡ (ltb most 1 && (not t && r))
seen-mark most x true r e = rw (le-ltb (max most x) 1 (omega (arith, e))) (sym (and-false (ltb most 1)))
seen-mark most x false r e = ap (λ (n : ℕ). ltb n 1 && r) (let z : max most x ≡ most = omega (arith, e) in z)

module _ (s : List ℕ) (i most x : ℕ) (h : i < length s) (e : x ≡ cond (is_odd i && eqb (get_or s i 0 / 8) 27) 1 0) where
  basic-next : basic_from (is_odd i) (drop i s) ≡ (not (is_odd i && eqb (get_or s i 0 / 8) 27) && basic_from (is_odd (i + 1)) (drop (i + 1) s))
  basic-next = rw (add-one i, is_odd-next i, drop-cons s i 0 h) (basic_from-cons (is_odd i) (get_or s i 0) (drop (suc i) s))

  pub seen_basic-next : seen_basic (max most x) (i + 1) s ≡ seen_basic most i s
  seen_basic-next = seen-mark most x (is_odd i && eqb (get_or s i 0 / 8) 27) _ e ∙ ap (λ (b : Bool). ltb most 1 && b) (sym basic-next)

pub seen_basic-end : (s : List ℕ) (i most : ℕ) → i ≡ length s → seen_basic most i s ≡ ltb most 1
unfolding basic_from
seen_basic-end s i most e = rw (e, drop-length) (and-true (ltb most 1))

-- ---- a block of single units is a run of sound steps

ran-utf8 : (n : ℕ) (s : List ℕ) (at i : ℕ) → Ran false s at i → i + n ≤ length s → is_ascii (take n (drop i s)) ≡ true → Ran false s at (i + n)
unfolding is_ascii
ran-utf8 zero s at i r h e = subst (λ (k : ℕ). Ran false s at k) (omega arith) r
ran-utf8 (suc n) s at i r h e =
    let f : is_ascii (get_or s i 0 ∷ take n (drop (suc i) s)) ≡ true = rw (drop-cons s i 0 (omega arith)) at e in
    let p = both_true (ltb (get_or s i 0) 0x80) (is_ascii (take n (drop (suc i) s))) f in
    let q : Ran false s at (suc i) = rw (add-one i) at (ran-ascii s at i r (omega arith) (ltb-true (get_or s i 0) 0x80 p.0)) in
    subst (λ (k : ℕ). Ran false s at k) (omega arith) (ran-utf8 n s at (suc i) q (omega arith) p.1)

ran-utf16 : (n : ℕ) (s : List ℕ) (at i : ℕ) → Ran true s at i → i + 2 * n ≤ length s → ((k : ℕ) → get_or s k 0 < 256)
    → is_basic (take (2 * n) (drop i s)) ≡ true → Ran true s at (i + 2 * n)
unfolding basic_from
ran-utf16 zero s at i r h b e = subst (λ (k : ℕ). Ran true s at k) (omega arith) r
ran-utf16 (suc n) s at i r h b e =
    let two : 2 * suc n ≡ suc (suc (2 * n)) = omega arith in
    let f : is_basic (get_or s i 0 ∷ get_or s (suc i) 0 ∷ take (2 * n) (drop (suc (suc i)) s)) ≡ true =
    rw (two, drop-cons s i 0 (omega arith), drop-cons s (suc i) 0 (omega arith)) at e in
    let p = both_true (not (eqb (get_or s (suc i) 0 / 8) 27)) (is_basic (take (2 * n) (drop (suc (suc i)) s))) f in
    let differs = eqb-false (get_or s (suc i) 0 / 8) 27 (not-true (eqb (get_or s (suc i) 0 / 8) 27) p.0) in
    let no-mark : get_or s (i + 1) 0 / 8 ≡ 27 → ⊥ = rw (add-one i) differs in
    let q : Ran true s at (suc (suc i)) = subst (λ (k : ℕ). Ran true s at k) (omega arith) (ran-unit s at i r (omega arith) b no-mark) in
    subst (λ (k : ℕ). Ran true s at k) (omega arith) (ran-utf16 n s at (suc (suc i)) q (omega arith) b p.1)

-- the code's part from i to i + 64 is n bytes, n the difference of its ends
pub ran-block : (utf16 : Bool) (s : List ℕ) (at i n : ℕ) → Ran utf16 s at i → i + 64 ≤ length s → ((k : ℕ) → get_or s k 0 < 256)
    → is_single utf16 (take n (drop i s)) ≡ true → n ≡ 64 → Ran utf16 s at (i + 64)
ran-block false s at i n r h b e m = ran-utf8 64 s at i r h (rw m at e)
ran-block true s at i n r h b e m = ran-utf16 32 s at i r h b (rw m at e)

-- the blocks that were passed end at i, and the rest is cut into blocks too
pub record Passed (utf16 : Bool) (s : List ℕ) (at i size : ℕ) (rest : List ℕ) : Type 0 where
  pub ran : Ran utf16 s at i
  pub inside : i ≤ length s
  pub whole : size ≡ 64
  pub left : rest ≡ drop i s

pub passed-next : (utf16 : Bool) (s : List ℕ) (at i size size' : ℕ) (block rest rest' : List ℕ) → Passed utf16 s at i size rest → size' ≡ size
    → rest ≡ block ++ rest' → length block ≡ size → ((k : ℕ) → get_or s k 0 < 256) → is_single utf16 block ≡ true
    → Passed utf16 s at (i + length block) size' rest'
passed-next utf16 s at i size size' block rest rest' p e f n bytes single =
    let more : drop i s ≡ block ++ rest' = sym p.left ∙ f in
    let wide : length block ≡ 64 = n ∙ p.whole in
    let long = ap length more in
    let within : i + 64 ≤ length s = omega (arith, p.inside, wide, long, length-append block rest', length-drop i s) in
    let here : take 64 (drop i s) ≡ block = rw more (take_at block rest' 64 wide) in
    let next : drop 64 (drop i s) ≡ rest' = rw more (drop_at block rest' 64 wide) in record {
      ran = rw wide (ran-block utf16 s at i 64 p.ran within bytes (rw here single) refl);
      inside = omega (arith, within, wide);
      whole = e ∙ p.whole;
      left = rw wide (sym next ∙ drop-drop 64 i s);
    }
