-- The state of what an index stands for. A system name is ASCII, so that its text is whole, whatever string of the pool it hides; bad UTF-16
-- and a string that is cut are empty texts (`unpaired-empty`, `state-cut`).
use Prim.Native.Nat.{ℕ}
use native.Mathlib.Omega.{arith}
use mathlib.Core.Path.{◌≡◌, refl}
use mathlib.Core.List.{List, []}
use mathlib.Core.Bool.{Bool, true, false}
use lib.ListN.{take, drop}
use Rattle.utf.specs.Text.{is_sound, text_of, damage_of, state_number, replaced_count}
use Rattle.utf.proofs.Laws.{is_sound-ascii}
use Rattle.utf.proofs.Ascii.{is_ascii-at}
use Rattle.utf.proofs.Turns.{text_of-refused}
use Rattle.utf.proofs.BadSteps.{state-whole, state-utf16, state-utf8, replaced-whole}
use Rattle.text.specs.declared.Found.{Found}
use Rattle.text.specs.declared.Found.TheVariants.{System}
use Rattle.text.specs.Content.{Content, none, cut, some, text_in, damage_in}
use Rattle.text.specs.Inner.Found.{part_of, Inside}
use Rattle.text.proofs.Read.{inside-plain}

module _ (w : Bool) (t area : List ℕ) {f : Found} {at n : ℕ} (i : Inside t area f) (e : f ≡ System at n) where
  sound-system : is_sound false (take n (drop at area)) ≡ true
  sound-system = is_sound-ascii (take n (drop at area)) (is_ascii-at (take n (drop at area)) (inside-plain t area i e))

  pub state-system : 0 ≡ state_number (damage_in (part_of w t area f))
  state-system = rw e (state-whole false (take n (drop at area)) sound-system)

  pub replaced-system : 0 ≡ replaced_count (damage_in (part_of w t area f))
  replaced-system = rw e (replaced-whole false (take n (drop at area)) sound-system)

-- ---- states 2 and 3

some-state : (P : ℕ → Type 0) (w : Bool) (s : List ℕ) → (is_sound w s ≡ true → P 0) → (w ≡ true → is_sound w s ≡ false → P 2) → P 1 → P (state_number (damage_of w s))
some-state P w s whole' bad one = go w refl (is_sound w s) refl
  where
    go : (x : Bool) → w ≡ x → (t : Bool) → is_sound w s ≡ t → P (state_number (damage_of w s))
    go x f true g = rw (← state-whole w s g) (whole' g)
    go true f false g = rw (← state-utf16 w s f g) (bad f g)
    go false f false g = rw (← state-utf8 w s f g) one

-- bad UTF-16 is the empty text
pub unpaired-empty : (c : Content) → state_number (damage_in c) ≡ 2 → text_in c ≡ []
unpaired-empty none e = refl
unpaired-empty cut e = refl
unpaired-empty (some w s) e =
    some-state (λ (n : ℕ). n ≡ 2 → text_of w s ≡ []) w s
    (λ f g. absurd (let z : ⊥ = omega (arith, g) in z))
    (λ f g h. text_of-refused w s (rw (f, (rw f at g))))
    (λ g. absurd (let z : ⊥ = omega (arith, g) in z)) e

-- state 3 is that of a string cut or outside, and of no other
pub state-cut : (c : Content) → state_number (damage_in c) ≡ 3 → c ≡ cut
state-cut none e = absurd (let z : ⊥ = omega (arith, e) in z)
state-cut cut e = refl
state-cut (some w s) e =
    some-state (λ (n : ℕ). n ≡ 3 → some w s ≡ cut) w s
    (λ f g. absurd (let z : ⊥ = omega (arith, g) in z))
    (λ f g h. absurd (let z : ⊥ = omega (arith, h) in z))
    (λ g. absurd (let z : ⊥ = omega (arith, g) in z)) e
