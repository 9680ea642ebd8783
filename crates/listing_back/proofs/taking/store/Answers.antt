-- `listing_back::taking::store` meets its contract: a place behind the end of the table takes nothing.
use mathlib.Core.Path.{refl, sym}
use native.Mathlib.Omega.{arith}
use lib.Seq.{set_out}
use Rattle.listing_back.proofs.taking.store.Goals as goal

pub returns-else-place-words : goal.returns-else-place-words
returns-else-place-words c = ((λ _. sym (set_out _ _ _ c.if-place-words.false)), refl)

pub returns-else-v-lt4294967296 : goal.returns-else-v-lt4294967296
returns-else-v-lt4294967296 c = ((λ h. absurd (let z : ⊥ = omega arith in z)), refl)
