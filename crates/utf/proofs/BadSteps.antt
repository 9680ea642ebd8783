-- Bad steps and the state of a text. In order: the count of bad steps along a loop (`Tallied`), and its bound; state and count by soundness and
-- encoding.
use mathlib.Core.Path.{◌≡◌, refl, sym, ap, ◌∙◌}
use mathlib.Core.Bool.{Bool, true, false, cond, true≢false, not}
use mathlib.Core.List.{List, [], ◌∷◌}
use Prim.Native.Nat.{ℕ, zero, suc, ◌+◌, ◌-◌, ◌≤◌, ◌<◌}
use native.Mathlib.Omega.{arith}
use lib.ListN.{length, drop}
use Rattle.utf.specs.declared.Step.{Step}
use Rattle.std.specs.Int.{from_bool}
use Rattle.utf.specs.Text.{step_of, width_of, sound_of, steps_after, steps_of, all_sound, bad_count, is_sound, damage_of, state_number, replaced_count}
use Rattle.utf.specs.Inner.StepRuns.{Took}
use Rattle.utf.proofs.Tables.{both_true}
use Rattle.utf.proofs.Steps.{steps_of-next, steps_of-end}
use Rattle.utf.proofs.Laws.{damage_of-whole, damage_of-unpaired, damage_of-replaced}

-- ---- the count, step by step

-- n bad steps lie before `at`, at least one byte for each
pub record Tallied (s : List ℕ) (at n : ℕ) : Type 0 where
  pub rest : n + bad_count (steps_of false (drop at s)) ≡ bad_count (steps_of false s)
  pub held : n ≤ at

marked : (b : Bool) (k m : ℕ) → k ≡ from_bool (not b) → cond b m (suc m) ≡ k + m
marked true k m e = omega (arith, e)
marked false k m e = omega (arith, e)

pub mark-le : (b : Bool) (k : ℕ) → k ≡ from_bool (not b) → k ≤ 1
mark-le true k e = omega (arith, e)
mark-le false k e = omega (arith, e)

pub tallied : (s : List ℕ) (at n value width k : ℕ) (sound : Bool) → Tallied s at n → at < length s → Took false s at value width sound
    → k ≡ from_bool (not sound) → Tallied s (at + width) (n + k)
unfolding bad_count
tallied s at n value width k sound c h t e =
    let m = bad_count (steps_of false (drop (at + width) s)) in
    let f : bad_count (steps_of false (drop at s)) ≡ k + m =
    ap bad_count (steps_of-next false s at width h t.width_is t.least)
    ∙ ap (λ (b : Bool). cond b m (suc m)) (sym t.sound-is)
    ∙ marked sound k m e in
    record { rest = omega (arith, c.rest, f); held = omega (arith, c.held, mark-le sound k e, t.least) }

pub all-tallied : (s : List ℕ) (at n : ℕ) → Tallied s at n → length s ≤ at → n ≡ bad_count (steps_of false s)
unfolding bad_count
all-tallied s at n c h = omega (arith, c.rest, ap bad_count (steps_of-end false s at h))

-- each bad step has a byte of its own
bad_count-after : (utf16 : Bool) (k : ℕ) (s : List ℕ) → bad_count (steps_after utf16 k s) ≤ length s
unfolding steps_after bad_count
bad_count-after utf16 k [] = omega arith
bad_count-after utf16 zero (b ∷ s) =
    let t = step_of utf16 (b ∷ s) in
    go (sound_of t) (bad_count (steps_after utf16 (width_of t - 1) s)) (bad_count-after utf16 (width_of t - 1) s)
  where
    go : (x : Bool) (m : ℕ) → m ≤ length s → cond x m (suc m) ≤ suc (length s)
    go true m h = omega arith
    go false m h = omega arith
bad_count-after utf16 (suc k) (b ∷ s) = omega (arith, bad_count-after utf16 k s)

pub bad_count-le : (utf16 : Bool) (s : List ℕ) → bad_count (steps_of utf16 s) ≤ length s
bad_count-le utf16 s = bad_count-after utf16 0 s

sound_none : (ts : List Step) → all_sound ts ≡ true → bad_count ts ≡ 0
unfolding all_sound bad_count
sound_none [] e = refl
sound_none (t ∷ ts) e =
    let p = both_true (sound_of t) (all_sound ts) e in
    rw p.0 (sound_none ts p.1)

-- ---- the state, and how many were replaced

pub state-whole : (utf16 : Bool) (s : List ℕ) → is_sound utf16 s ≡ true → 0 ≡ state_number (damage_of utf16 s)
state-whole utf16 s e = sym (ap state_number (damage_of-whole utf16 s e))

pub state-utf16 : (utf16 : Bool) (s : List ℕ) → utf16 ≡ true → is_sound utf16 s ≡ false → 2 ≡ state_number (damage_of utf16 s)
state-utf16 true s w e = sym (ap state_number (damage_of-unpaired s e))
state-utf16 false s w e = absurd (true≢false (sym w))

pub state-utf8 : (utf16 : Bool) (s : List ℕ) → utf16 ≡ false → is_sound utf16 s ≡ false → 1 ≡ state_number (damage_of utf16 s)
state-utf8 true s w e = absurd (true≢false w)
state-utf8 false s w e = sym (ap state_number (damage_of-replaced s e).0)

pub replaced-whole : (utf16 : Bool) (s : List ℕ) → is_sound utf16 s ≡ true → 0 ≡ replaced_count (damage_of utf16 s)
replaced-whole utf16 s e = sym (ap replaced_count (damage_of-whole utf16 s e))

pub replaced-utf16 : (utf16 : Bool) (s : List ℕ) → utf16 ≡ true → 0 ≡ replaced_count (damage_of utf16 s)
replaced-utf16 false s w = absurd (true≢false (sym w))
replaced-utf16 true s w = go (is_sound true s) refl
  where
    go : (t : Bool) → is_sound true s ≡ t → 0 ≡ replaced_count (damage_of true s)
    go true e = replaced-whole true s e
    go false e = sym (ap replaced_count (damage_of-unpaired s e))

pub replaced-utf8 : (utf16 : Bool) (s : List ℕ) (n : ℕ) → utf16 ≡ false → n ≡ bad_count (steps_of false s) → n ≡ replaced_count (damage_of utf16 s)
replaced-utf8 true s n w e = absurd (true≢false w)
replaced-utf8 false s n w e = go (is_sound false s) refl
  where
    go : (t : Bool) → is_sound false s ≡ t → n ≡ replaced_count (damage_of false s)
    go true f = e ∙ sound_none (steps_of false s) f ∙ replaced-whole false s f
    go false f = e ∙ sym (ap replaced_count (damage_of-replaced s f).0)

-- no more than there are bytes
pub replaced_count-le : (utf16 : Bool) (s : List ℕ) → replaced_count (damage_of utf16 s) ≤ length s
replaced_count-le true s = omega (arith, replaced-utf16 true s refl)
replaced_count-le false s = omega (arith, replaced-utf8 false s (bad_count (steps_of false s)) refl refl, bad_count-le false s)
