-- A valid name that was found in a file whose pool is UTF-16 is plain (`name-plain`): it is sound and not empty, or a system name. No contract cites
-- this file.
use Prim.Native.Nat.{ℕ}
use mathlib.Core.Path.{◌≡◌, refl, sym, ◌∙◌, ap}
use mathlib.Core.Bool.{Bool, true, false, not, ◌&&◌, true≢false}
use mathlib.Core.List.{List}
use borrow.Author.Tests.{eqb-true}
use lib.Dec.{eqb}
use lib.ListN.{length, take, drop}
use Rattle.utf.specs.Text.{refused}
use Rattle.utf.specs.Plain.{is_plain}
use Rattle.utf.proofs.Turns.{text_of-empty}
use Rattle.xml.specs.NCName.{valid_name}
use Rattle.xml.proofs.Names.{valid_name-none}
use Rattle.text.specs.Content.{is_name, plain_in}
use Rattle.text.specs.Inner.Found.{part_of, Inside}
use Rattle.text.specs.declared.Found.{Found}
use Rattle.text.specs.declared.Found.TheVariants.{Nothing, Cut, System, Pool}

refused_none : (s : List ℕ) → refused true s ≡ true → valid_name true s ≡ false
unfolding valid_name
refused_none s q = rw q

valid-some : (s : List ℕ) → valid_name true s ≡ true → eqb (length s) 0 ≡ false
valid-some s e = go (eqb (length s) 0) refl
  where
    go : (b : Bool) → eqb (length s) 0 ≡ b → eqb (length s) 0 ≡ false
    go true z = absurd (true≢false (sym e ∙ valid_name-none true s (eqb-true (length s) 0 z)))
    go false z = z

valid-plain : (s : List ℕ) → valid_name true s ≡ true → is_plain true s ≡ true
valid-plain s e = go (refused true s) refl
  where
    go : (r : Bool) → refused true s ≡ r → is_plain true s ≡ true
    go true q = absurd (true≢false (sym e ∙ refused_none s q))
    go false q = ap not (sym (text_of-empty true s q).1 ∙ valid-some s e)

name-utf16 : (t area : List ℕ) (f : Found) → Inside t area f → is_name (part_of true t area f) ≡ true → true ≡ plain_in (part_of true t area f)
name-utf16 t area Nothing i e = absurd (true≢false (sym e))
name-utf16 t area Cut i e = absurd (true≢false (sym e))
name-utf16 t area (System at n) i e = sym i.1
name-utf16 t area (Pool at n) i e = sym (valid-plain (take n (drop at t)) e)

pub name-plain : (w : Bool) (t area : List ℕ) (f : Found) → w ≡ true → Inside t area f → is_name (part_of w t area f) ≡ true
    → true ≡ plain_in (part_of w t area f)
name-plain true t area f q i e = name-utf16 t area f i e
name-plain false t area f q i e = absurd (true≢false (sym q))

pub both_left : (x y : Bool) → (x && y) ≡ true → x ≡ true
both_left true y e = refl
both_left false y e = absurd (true≢false (sym e))

pub both_right : (x y : Bool) → (x && y) ≡ true → y ≡ true
both_right true y e = e
both_right false y e = absurd (true≢false (sym e))
