-- Laws of `eq_bytes`, and why texts can be compared value by value (`eq_bytes-encode`).
use mathlib.Core.Path.{◌≡◌, refl, sym, ap, ◌∙◌}
use mathlib.Core.Bool.{Bool, true, false, ◌&&◌, true≢false}
use mathlib.Core.List.{List, [], ◌∷◌, ◌++◌}
use Prim.Native.Nat.{ℕ, ◌+◌, ◌-◌, ◌≤◌, ◌<◌}
use native.Mathlib.Omega.{arith}
use borrow.Author.Tests.{eqb-true, eqb-false, eq-eqb}
use lib.Dec.{eqb}
use lib.ListN.{length, get_or, take, drop, take-append-drop}
use lib.Seq.{drop-drop}
use denote.Ref.{Bor}
use Rattle.std.specs.Prelude.{Option, None, Some, MatchOption, slice_get}
use Rattle.std.specs.Array.{IsWholeChunk}
use Rattle.std.specs.Option.{option_eq, option_copied}
use Rattle.std.specs.Cmp.Lexicographic.{pointwise}
use Rattle.utf.specs.Utf8.{encode}
use Rattle.utf.specs.Text.{eq_bytes}
use Rattle.utf.proofs.Tables.{both_true}
use Rattle.utf.proofs.Scalars.{encode-unique}

pub eq_bytes-refl : (x : List ℕ) → eq_bytes x x ≡ true
unfolding eq_bytes
eq_bytes-refl [] = refl
eq_bytes-refl (a ∷ x) = rw (eq-eqb a a refl) (eq_bytes-refl x)

pub eq_bytes-true : (x y : List ℕ) → eq_bytes x y ≡ true → x ≡ y
unfolding eq_bytes
eq_bytes-true [] [] t = refl
eq_bytes-true [] (b ∷ y) t = absurd (true≢false (sym t))
eq_bytes-true (a ∷ x) [] t = absurd (true≢false (sym t))
eq_bytes-true (a ∷ x) (b ∷ y) t =
    let p = both_true (eqb a b) (eq_bytes x y) t in
    let e : a ≡ b = eqb-true a b p.0 in
    let f : x ≡ y = eq_bytes-true x y p.1 in
    cc

pub eq_bytes-false : (x y : List ℕ) → eq_bytes x y ≡ false → x ≡ y → ⊥
eq_bytes-false x y f e = true≢false (sym (eq_bytes-refl x) ∙ ap (eq_bytes x) e ∙ f)

pub eq_bytes-not : (x y : List ℕ) → (x ≡ y → ⊥) → eq_bytes x y ≡ false
eq_bytes-not x y n = go (eq_bytes x y) refl
  where
    go : (t : Bool) → eq_bytes x y ≡ t → eq_bytes x y ≡ false
    go true e = absurd (n (eq_bytes-true x y e))
    go false e = e

pub eq_bytes-some : (x : List ℕ) → 0 < length x → (eq_bytes x [] ≡ false) × (eq_bytes [] x ≡ false)
unfolding eq_bytes
eq_bytes-some [] h = absurd (let z : ⊥ = omega arith in z)
eq_bytes-some (a ∷ x) h = (refl, refl)

pub eq_bytes-append : (p x y : List ℕ) → eq_bytes (p ++ x) (p ++ y) ≡ eq_bytes x y
unfolding eq_bytes
eq_bytes-append [] x y = refl
eq_bytes-append (a ∷ p) x y = rw (eq-eqb a a refl) (eq_bytes-append p x y)

-- two texts whose first values differ are different; else it is for the rest of them to say
pub eq_bytes-encode : (u v : ℕ) (x y : List ℕ) → eq_bytes (encode u ++ x) (encode v ++ y) ≡ (eqb u v && eq_bytes x y)
eq_bytes-encode u v x y = go (eqb u v) refl
  where
    go : (t : Bool) → eqb u v ≡ t → eq_bytes (encode u ++ x) (encode v ++ y) ≡ (t && eq_bytes x y)
    go true e = rw (eqb-true u v e) (eq_bytes-append (encode v) x y)
    go false e = eq_bytes-not (encode u ++ x) (encode v ++ y) (λ f. eqb-false u v e (encode-unique u v x y f))

-- ---- what the code sees of two lists

pub eq_bytes-here : (a b : List ℕ) (k : ℕ) → (get_or a k 0 ≡ get_or b k 0 → ⊥) → eq_bytes a b ≡ false
eq_bytes-here a b k n = eq_bytes-not a b (λ e. n (ap (λ (l : List ℕ). get_or l k 0) e))

pub eq_bytes-length : (a b : List ℕ) → (length a ≡ length b → ⊥) → eq_bytes a b ≡ false
eq_bytes-length a b n = eq_bytes-not a b (λ e. n (ap length e))

-- what `==` of two slices says
pub eq_bytes-pointwise : (a b : List ℕ) → pointwise eqb a b ≡ eq_bytes a b
unfolding eq_bytes
eq_bytes-pointwise [] [] = refl
eq_bytes-pointwise [] (y ∷ b) = refl
eq_bytes-pointwise (x ∷ a) [] = refl
eq_bytes-pointwise (x ∷ a) (y ∷ b) = ap (λ (t : Bool). eqb x y && t) (eq_bytes-pointwise a b)

-- lists that end otherwise
pub ends-differ : (a b : List ℕ) (x y : Option (Bor ℕ)) (r : Bool) → option_copied x ≡ slice_get a (length a - 1)
    → option_copied y ≡ slice_get b (length b - 1) → r ≡ option_eq (λ p q. eqb p.now q.now) x y → r ≡ false → eq_bytes a b ≡ false
ends-differ a b x y r e f g h = eq_bytes-not a b (λ z. go x y (e ∙ ap (λ (l : List ℕ). slice_get l (length l - 1)) z ∙ sym f) (sym g ∙ h))
  where
    go : (x y : Option (Bor ℕ)) → option_copied x ≡ option_copied y → option_eq (λ p q. eqb p.now q.now) x y ≡ false → ⊥
    go None None e g = true≢false g
    go None (Some q) e g = cc
    go (Some p) None e g = cc
    go (Some p) (Some q) e g = let z : p.now ≡ q.now = cc in true≢false (sym (eq-eqb p.now q.now z) ∙ g)

-- the last n of a list, where it has so many
abbrev pub LastOf : List ℕ → ℕ → Option (Bor (List ℕ)) → Type 0
LastOf a n x = MatchOption x (length a < n) (λ y. (n ≤ length a) × IsWholeChunk (drop (length a - n) a) y.now n)

-- lists whose last n are others
pub lasts-differ : (a b : List ℕ) (n : ℕ) (x y : Option (Bor (List ℕ))) → LastOf a n x → LastOf b n y
    → option_eq (λ p q. pointwise eqb p.now q.now) x y ≡ false → eq_bytes a b ≡ false
lasts-differ a b n None None e f g = absurd (true≢false g)
lasts-differ a b n None (Some q) e f g = eq_bytes-length a b (λ z. omega (arith, e, f.0, z))
lasts-differ a b n (Some p) None e f g = eq_bytes-length a b (λ z. omega (arith, e.0, f, z))
lasts-differ a b n (Some p) (Some q) e f g =
    eq_bytes-not a b
    (λ z. eq_bytes-false p.now q.now (sym (eq_bytes-pointwise p.now q.now) ∙ g)
    (e.1.same ∙ ap (λ (l : List ℕ). drop (length l - n) l) z ∙ sym f.1.same))

-- lists that are the same from k on are so from each place m behind it on, and then what stands before m decides
fronts-decide : (a b : List ℕ) (k m : ℕ) → k ≤ m → drop k a ≡ drop k b → eq_bytes (take m a) (take m b) ≡ eq_bytes a b
fronts-decide a b k m h e = go (eq_bytes (take m a) (take m b)) refl
  where
    behind : drop m a ≡ drop m b
    behind =
        let s : k + (m - k) ≡ m = omega arith in
        ap (λ (i : ℕ). drop i a) (sym s) ∙ sym (drop-drop (m - k) k a) ∙ ap (drop (m - k)) e ∙ drop-drop (m - k) k b ∙ ap (λ (i : ℕ). drop i b) s

    whole : take m a ≡ take m b → a ≡ b
    whole f = sym (take-append-drop m a) ∙ ap (λ (l : List ℕ). l ++ drop m a) f ∙ ap (λ (l : List ℕ). take m b ++ l) behind ∙ take-append-drop m b

    go : (t : Bool) → eq_bytes (take m a) (take m b) ≡ t → t ≡ eq_bytes a b
    go true f = sym (ap (eq_bytes a) (sym (whole (eq_bytes-true _ _ f))) ∙ eq_bytes-refl a)
    go false f = sym (eq_bytes-not a b (λ g. eq_bytes-false _ _ f (ap (take m) g)))

-- the last n of both are the same: what stands before them decides
pub lasts-same : (a b : List ℕ) (n m : ℕ) (x y : Option (Bor (List ℕ))) → LastOf a n x → LastOf b n y
    → option_eq (λ p q. pointwise eqb p.now q.now) x y ≡ true → n ≤ length a → length a ≡ length b → length a ≤ m + n
    → eq_bytes (take m a) (take m b) ≡ eq_bytes a b
lasts-same a b n m None None e f g h i j = absurd (let z : ⊥ = omega (arith, e, h) in z)
lasts-same a b n m None (Some q) e f g h i j = absurd (true≢false (sym g))
lasts-same a b n m (Some p) None e f g h i j = absurd (true≢false (sym g))
lasts-same a b n m (Some p) (Some q) e f g h i j =
    fronts-decide a b (length a - n) m (omega (arith, j))
    (sym e.1.same ∙ eq_bytes-true p.now q.now (sym (eq_bytes-pointwise p.now q.now) ∙ g) ∙ f.1.same
    ∙ ap (λ (l : ℕ). drop (l - n) b) (sym i))
