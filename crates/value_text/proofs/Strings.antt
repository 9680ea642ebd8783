-- What became of a string of the pool, by where it was found: past the pool there is no text (`string-none`), else its damage is told (`string-some`),
-- and one of ASCII is whole (`string-ascii`). What the code tells of it (`string-shown`).
use Prim.Native.Nat.{ℕ}
use native.Mathlib.Omega.{arith}
use mathlib.Core.Path.{◌≡◌, sym, ap, ◌∙◌}
use mathlib.Core.List.{List}
use mathlib.Core.Bool.{Bool, true, false}
use Rattle.errors.specs.declared.TextState.{TextState}
use Rattle.errors.specs.declared.TextState.TheVariants as state_is
use Rattle.text.specs.declared.Found.{Found}
use Rattle.text.specs.declared.Found.TheVariants.{Nothing, Cut, System, Pool}
use Rattle.text.specs.Content.{Content, text_in, damage_in}
use Rattle.text.specs.Inner.Found.{Wrote as Put, part_of, is_found, ascii_in}
use Rattle.text.proofs.Read.{ascii-whole}
use Rattle.head.specs.Ask.{state_told}
use Rattle.value_text.specs.Value.{shows, string_state}
use Rattle.value_text.specs.declared.Told.TheVariants.{Shown}
use Rattle.value_text.specs.Inner.Leads.{Tells}
use Rattle.value_text.proofs.Front.{leads-put, leads-same, tells-text}

module _ {c : Content} (w : Bool) (t area : List ℕ) where
  pub string-none : (g : Found) → part_of w t area g ≡ c → is_found g ≡ false → state_is.Cut ≡ string_state c
  string-none Nothing e p = ap string_state e
  string-none Cut e p = let z : ◌≡◌ {A = ℕ} 0 1 = cc in absurd (let y : ⊥ = omega arith in y)
  string-none (System at n) e p = let z : ◌≡◌ {A = ℕ} 0 1 = cc in absurd (let y : ⊥ = omega arith in y)
  string-none (Pool at n) e p = let z : ◌≡◌ {A = ℕ} 0 1 = cc in absurd (let y : ⊥ = omega arith in y)

  pub string-some
      : {d : TextState} (g : Found)
      → part_of w t area g ≡ c
      → is_found g ≡ true
      → d ≡ state_told (damage_in (part_of w t area g))
      → d ≡ string_state c
  string-some Nothing e p q = let z : ◌≡◌ {A = ℕ} 0 1 = cc in absurd (let y : ⊥ = omega arith in y)
  string-some Cut e p q = q ∙ ap string_state e
  string-some (System at n) e p q = q ∙ ap string_state e
  string-some (Pool at n) e p q = q ∙ ap string_state e

  pub string-ascii : (g : Found) → part_of w t area g ≡ c → ascii_in (part_of w t area g) ≡ true → state_is.Whole ≡ string_state c
  string-ascii Nothing e p = let z : ◌≡◌ {A = ℕ} 0 1 = cc in absurd (let y : ⊥ = omega arith in y)
  string-ascii Cut e p = let z : ◌≡◌ {A = ℕ} 0 1 = cc in absurd (let y : ⊥ = omega arith in y)
  string-ascii (System at n) e p = ap state_told (sym (ascii-whole (part_of w t area (System at n)) p)) ∙ ap string_state e
  string-ascii (Pool at n) e p = ap state_told (sym (ascii-whole (part_of w t area (Pool at n)) p)) ∙ ap string_state e

pub string-shown :
    {n u : ℕ} {d : TextState} {s l k : List ℕ} (c : Content) →
    s ≡ text_in c →
    Put s l k n →
    d ≡ string_state c →
    Tells (shows (text_in c) u (string_state c)) l (Shown n u d) k
string-shown c e w q = rw (← q) (tells-text (leads-same e (leads-put w)))
