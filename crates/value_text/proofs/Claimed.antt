-- What follows from the promise of specs/Value.antt. No contract cites this file.
-- In order: two results that it allows are equal (`value-unique`); a refusal leaves zeros alone (`value-refused-zeros`), an answer zeros
-- behind its text (`value-done-zeros`).
use Rattle.std.specs.Prelude.{Result, Ok, Err}
use Prim.Native.Nat.{ℕ, ◌-◌}
use native.Mathlib.Omega.{arith}
use mathlib.Core.Path.{◌≡◌, refl, sym, ap, ◌∙◌}
use mathlib.Core.List.{List, ◌++◌}
use mathlib.Core.Bool.{Bool, true, false, cond}
use lib.ListN.{length, drop, replicate}
use lib.Seq.{drop-append_seam}
use lib.Dec.{leb}
use Rattle.errors.specs.declared.Refusal.{Refusal}
use Rattle.errors.specs.declared.Refusal.TheVariants.{TextShort}
use Rattle.errors.specs.declared.TextState.{TextState}
use Rattle.errors.proofs.Laws.{value_numbers_of-unique}
use Rattle.digits.specs.Written.{fitted}
use Rattle.system_types.specs.Names.{Lent}
use Rattle.head.specs.Head.{tables_in}
use Rattle.value_text.specs.declared.Attribute.{Attribute}
use Rattle.value_text.specs.Value.{Value, no_name, no_text, shows, attribute_value, value_open, answer_by, buffer_by, answer_in, buffer_in}
use Rattle.value_text.specs.Value.{value_answer, value_buffer, ValueReads}
use Rattle.errors.specs.declared.ValueWritten.{ValueWritten}
use Rattle.text.specs.declared.Head.{Head}

-- ---- one answer

pub value-unique :
    (f : List ℕ) (lent : Lent) (items area before : List ℕ) (a : Attribute) {r r' : Result ValueWritten Refusal} {after after' : List ℕ} →
    ValueReads f lent items area before a r after →
    ValueReads f lent items area before a r' after' →
    (r ≡ r') × (after ≡ after')
value-unique f lent items area before a {r} {r'} x y = (value_numbers_of-unique r r' (x.answer ∙ sym y.answer), x.out ∙ sym y.out)

-- ---- zeros

-- of a value, with room for n bytes
zeros_of : (n kind : ℕ) (v : Value) (why : Refusal) → answer_by n kind v ≡ Err why → buffer_by n v ≡ replicate n 0
unfolding fitted
zeros_of n kind no_name why e = refl
zeros_of n kind no_text why e = refl
zeros_of n kind (shows s u d) why e = go (leb (length s) n) e
  where
    go :
        (b : Bool) →
        cond {A = Result ValueWritten Refusal} b (Ok (record { length = length s; uncovered = u; state = d })) (Err (TextShort (length s))) ≡ Err why →
        cond b (s ++ replicate (n - length s) 0) (replicate n 0) ≡ replicate n 0
    go true q = let z : ◌≡◌ {A = ℕ} 0 1 = cc in absurd (let y : ⊥ = omega arith in y)
    go false q = refl

behind-of : (n kind : ℕ) (v : Value) (k u : ℕ) (d : TextState) → answer_by n kind v ≡ Ok (record { length = k; uncovered = u; state = d }) → drop k (buffer_by n v) ≡ replicate (n - k) 0
unfolding fitted
behind-of n kind no_name k u d e = let z : ◌≡◌ {A = ℕ} 0 1 = cc in absurd (let y : ⊥ = omega arith in y)
behind-of n kind no_text k u d e = let z : ◌≡◌ {A = ℕ} 0 1 = cc in absurd (let y : ⊥ = omega arith in y)
behind-of n kind (shows s w x) k u d e = go (leb (length s) n) e
  where
    go :
        (b : Bool) →
        cond {A = Result ValueWritten Refusal} b (Ok (record { length = length s; uncovered = w; state = x })) (Err (TextShort (length s))) ≡ Ok (record { length = k; uncovered = u; state = d }) →
        drop k (cond b (s ++ replicate (n - length s) 0) (replicate n 0)) ≡ replicate (n - k) 0
    go true q =
        let both : ◌≡◌ {A = ValueWritten} (record { length = k; uncovered = u; state = d }) (record { length = length s; uncovered = w; state = x }) = cc in
        let m : k ≡ length s = ap (λ (y : ValueWritten). y.length) both in
        rw (m, drop-append_seam)
    go false q = let z : ◌≡◌ {A = ℕ} 0 1 = cc in absurd (let y : ⊥ = omega arith in y)

module _ (f : List ℕ) (lent : Lent) (items area before after : List ℕ) (a : Attribute) where
  pub value-refused-zeros :
      (why : Refusal) → ValueReads f lent items area before a (Err why) after → after ≡ replicate (length before) 0
  unfolding value_answer value_buffer
  value-refused-zeros why x =
      x.out ∙ go (value_open f lent items area) (sym (value_numbers_of-unique (Err why) (value_answer f lent items area (length before) a) x.answer))
    where
      go :
          (o : Result Head Refusal) →
          answer_in f lent items area (length before) a o ≡ Err why →
          buffer_in f lent items area (length before) a o ≡ replicate (length before) 0
      go (Err r) e = refl
      go (Ok h) e = zeros_of (length before) a.kind (attribute_value h (tables_in f h) lent items area a) why e

  pub value-done-zeros :
      (k u : ℕ) (d : TextState) → ValueReads f lent items area before a (Ok (record { length = k; uncovered = u; state = d })) after → drop k after ≡ replicate (length before - k) 0
  unfolding value_answer value_buffer
  value-done-zeros k u d x =
      ap (drop k) x.out ∙
      go (value_open f lent items area) (sym (value_numbers_of-unique (Ok (record { length = k; uncovered = u; state = d })) (value_answer f lent items area (length before) a) x.answer))
    where
      go :
          (o : Result Head Refusal) →
          answer_in f lent items area (length before) a o ≡ Ok (record { length = k; uncovered = u; state = d }) →
          drop k (buffer_in f lent items area (length before) a o) ≡ replicate (length before - k) 0
      go (Err r) e = let z : ◌≡◌ {A = ℕ} 0 1 = cc in absurd (let y : ⊥ = omega arith in y)
      go (Ok h) e = behind-of (length before) a.kind (attribute_value h (tables_in f h) lent items area a) k u d e
