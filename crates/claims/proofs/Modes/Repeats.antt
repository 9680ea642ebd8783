-- When an attribute repeats another, in the two modes: docs/FORMAT.md, W22, W23, B16. For proofs/Modes/TablesBeside.antt. No contract cites this file.
--
--   repeat-append   a repeat of one of some records, or of one more
--   repeat-other    a repeat under a prefix that is not 3 is one of every name of the same text
--   hit-of          a record that is a repeat of another has its prefix and its name; hit-merged: with merged prefixes it is one where the name is the same
--   or_right, or-by, no_true, merged-not-own   of Bools, and of the merged prefix
use Prim.Native.Nat.{ℕ, zero, suc, ◌*◌, ◌/◌, ◌≤◌}
use native.Mathlib.Omega.{arith}
use mathlib.Core.Path.{◌≡◌, refl, sym, ◌∙◌, ap}
use mathlib.Core.List.{List, [], ◌∷◌, ◌++◌}
use mathlib.Core.Bool.{Bool, true, false, cond, ◌&&◌, ◌||◌, true≢false}
use borrow.Author.Tests.{eq-eqb, eqb-true}
use lib.ListN.{length, take, drop, get_or, length-append, length-drop}
use lib.Seq.{take-append-le, drop-append-le, take-length}
use lib.Dec.{eqb}
use Rattle.utf.proofs.Tables.{both_true}
use Rattle.records.specs.Words.{attribute_width, attribute_words, own_prefix}
use Rattle.records.specs.Repeats.{Rule, by_prefix, same_space, repeats_one, is_repeat}
use Rattle.claims.specs.Modes.{merged_prefix}

pub or_right : (a : Bool) {b : Bool} → b ≡ true → (a || b) ≡ true
or_right true e = refl
or_right false e = e

or_assoc : (a b c : Bool) → (a || (b || c)) ≡ ((a || b) || c)
or_assoc true b c = refl
or_assoc false b c = refl

or_nothing : (a : Bool) → (a || false) ≡ a
or_nothing true = refl
or_nothing false = refl

-- one of two holds
pub or-by : {P : Type 0} (a b : Bool) → (a || b) ≡ true → (a ≡ true → P) → (b ≡ true → P) → P
or-by true b e p q = p refl
or-by false b e p q = q e

pub no_true : {P : Type 0} → false ≡ true → P
no_true e = absurd (true≢false (sym e))

-- the merged prefix is never 3
pub merged-not-own : (p : ℕ) → eqb (merged_prefix p) own_prefix ≡ false
merged-not-own p = go (eqb p own_prefix) refl
  where
    go : (b : Bool) → eqb p own_prefix ≡ b → eqb (cond b 1 p) own_prefix ≡ false
    go true e = refl
    go false e = e

module _ (same : ℕ → ℕ → Bool) (trans : (i j k : ℕ) → same i j ≡ true → same j k ≡ true → same i k ≡ true) where
  abbrev pub rule : Rule
  rule = by_prefix same

  -- one record more
  one_more : (q rec : List ℕ) → length rec ≡ attribute_width → (j : ℕ) (own : List ℕ) → length own ≡ attribute_width * j
      → repeats_one rule q (suc j) (own ++ rec) ≡ (repeats_one rule q j own || rule q rec)
  unfolding repeats_one
  one_more q rec l zero [] e =
      let t : take attribute_width rec ≡ rec = ap (λ (n : ℕ). take n rec) (sym l) ∙ take-length rec in
      rw t (or_nothing (rule q rec))
  one_more q rec l zero (x ∷ own) e = absurd (let z : ⊥ = omega arith in z)
  one_more q rec l (suc j) own e =
      let long : attribute_width ≤ length own = omega arith in
      let rest : length (drop attribute_width own) ≡ attribute_width * j = rw length-drop (omega arith) in
      rw (take-append-le attribute_width own rec long, drop-append-le attribute_width own rec long)
      (ap (λ (b : Bool). rule q (take attribute_width own) || b) (one_more q rec l j (drop attribute_width own) rest)
      ∙ or_assoc (rule q (take attribute_width own)) (repeats_one rule q j (drop attribute_width own)) (rule q rec))

  pub repeat-append : (q rec : List ℕ) → length rec ≡ attribute_width → (j : ℕ) (own : List ℕ) → length own ≡ attribute_width * j
      → is_repeat rule q (own ++ rec) ≡ (is_repeat rule q own || rule q rec)
  repeat-append q rec l j own e =
      let n : length (own ++ rec) / attribute_width ≡ suc j = rw length-append (omega arith) in
      let m : length own / attribute_width ≡ j = omega arith in
      ap (λ (k : ℕ). repeats_one rule q k (own ++ rec)) n ∙ one_more q rec l j own e ∙ ap (λ (k : ℕ). repeats_one rule q k own || rule q rec) (sym m)

  -- what the rule says of a prefix that is not 3
  rule-plain : (o p n k v s : ℕ) (old : List ℕ) → eqb p own_prefix ≡ false
      → rule (attribute_words o p n k v s) old ≡ (eqb (get_or old 1 0) p && same (get_or old 2 0) n)
  rule-plain o p n k v s old e = rw e (go (eqb (get_or old 1 0) p) (same (get_or old 2 0) n))
    where
      go : (a b : Bool) → (a && (b && true)) ≡ (a && b)
      go true true = refl
      go true false = refl
      go false b = refl

  pub repeat-other : (o p n k v s o' n' k' v' s' : ℕ) → eqb p own_prefix ≡ false → same n n' ≡ true → (c : ℕ) (w : List ℕ)
      → repeats_one rule (attribute_words o p n k v s) c w ≡ true → repeats_one rule (attribute_words o' p n' k' v' s') c w ≡ true
  unfolding repeats_one
  repeat-other o p n k v s o' n' k' v' s' plain eq zero w e = no_true e
  repeat-other o p n k v s o' n' k' v' s' plain eq (suc c) w e =
      or-by (rule (attribute_words o p n k v s) (take attribute_width w)) (repeats_one rule (attribute_words o p n k v s) c (drop attribute_width w)) e
      (λ h.
      let x : (eqb (get_or (take attribute_width w) 1 0) p && same (get_or (take attribute_width w) 2 0) n) ≡ true =
      sym (rule-plain o p n k v s (take attribute_width w) plain) ∙ h in
      let y = both_true (eqb (get_or (take attribute_width w) 1 0) p) (same (get_or (take attribute_width w) 2 0) n) x in
      let z : rule (attribute_words o' p n' k' v' s') (take attribute_width w) ≡ true =
      rule-plain o' p n' k' v' s' (take attribute_width w) plain ∙ rw (y.0, trans (get_or (take attribute_width w) 2 0) n n' y.1 eq) in
      rw z)
      (λ h. or_right (rule (attribute_words o' p n' k' v' s') (take attribute_width w))
      (repeat-other o p n k v s o' n' k' v' s' plain eq c (drop attribute_width w) h))

  -- a record that is a repeat of another is one of the same prefix and name, whatever the prefix
  pub hit-of : (o p n k v s o' p' n' k' v' s' : ℕ) → rule (attribute_words o p n k v s) (attribute_words o' p' n' k' v' s') ≡ true
      → (p' ≡ p) × (same n' n ≡ true)
  hit-of o p n k v s o' p' n' k' v' s' e =
      let y = both_true (eqb p' p) (same n' n && same_space same p s' s) e in
      (eqb-true p' p y.0, (both_true (same n' n) (same_space same p s' s) y.1).0)

  pub hit-merged : (o p n k v s o' n' k' v' s' : ℕ) → same n' n ≡ true
      → rule (attribute_words o (merged_prefix p) n k v s) (attribute_words o' (merged_prefix p) n' k' v' s') ≡ true
  hit-merged o p n k v s o' n' k' v' s' e =
      rule-plain o (merged_prefix p) n k v s (attribute_words o' (merged_prefix p) n' k' v' s') (merged-not-own p)
      ∙ rw (eq-eqb (merged_prefix p) (merged_prefix p) refl, e)
