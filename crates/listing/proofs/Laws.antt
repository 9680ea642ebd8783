-- Laws of specs/Inner/Input.antt: each case of what came in. No contract cites this file.
use Rattle.std.proofs.Common.{◌≡◌, ℕ, ◌-◌, ◌≤◌, ◌<◌, List, ◌++◌, IfSome, OnOk, None, Some, [], length, take, replicate, refl, sym, ap, ◌∙◌, subst, arith, append-nil, le-leb, le_refl}
use mathlib.Core.Bool.{Bool, true, false}
use borrow.Author.Tests.{ltb-true, ltb-false}
use lib.Dec.{ltb}
use lib.ListN.{length-replicate}
use lib.Seq.{take_at, take_all}
use Rattle.std.specs.declared.option.Option.{Option}
use Rattle.std.specs.declared.result.Result.{Result}
use Rattle.std.specs.declared.result.Result.TheVariants.{Ok, Err}
use Rattle.std.specs.Result.{result_unwrap_or}
use Rattle.std.specs.Io.KnownBytes.{Consumes, Appends, IsAtEnd}
use Rattle.digits.specs.Written.{fitted}
use Rattle.records.specs.Limits.{listed_file}
use Rattle.listed.specs.Roomy.{Roomy}
use Rattle.listed.specs.Lists.{listed_text, Lists}
use Rattle.listed.proofs.Lists.{lists-longer}
use Rattle.listed.proofs.Fits.{lists-answer, lists-le, lists-never}
use Rattle.errors.specs.declared.Refusal.{Refusal}
use Rattle.listing.specs.Streams.{Listed}
use Rattle.listing.specs.Inner.Input.{Runs}

-- in the room of a listing the answer is a text
pub lists-told :
    (f ns ats before ns' ats' after : List ℕ) → Roomy (length ns) (length ats) (length before) → (a : Result ℕ Refusal) →
    Lists f ns ats before a ns' ats' after → Lists f ns ats before (Ok (result_unwrap_or a 0)) ns' ats' after
lists-told f ns ats before ns' ats' after room (Ok n) h = h
lists-told f ns ats before ns' ats' after room (Err x) h = absurd (lists-never f ns ats before ns' ats' after room (Err x) x refl h)

-- nothing follows, or the room is full and refused whatever follows it
pub runs-of :
    (n : ℕ) (f ns ats before : List ℕ) (r : ℕ) (ns' ats' after : List ℕ) → n ≤ length f → listed_file < length f →
    Lists (take n f) ns ats before (Ok r) ns' ats' after → Runs n f ns ats before r ns' ats' after
unfolding Runs
runs-of n f ns ats before r ns' ats' after h full p = λ more none. go (ltb n (length f)) refl more none
  where
    listed_of : (l m : List ℕ) → l ≡ m → Lists l ns ats before (Ok r) ns' ats' after → Lists m ns ats before (Ok r) ns' ats' after
    listed_of l m e q = subst (λ (x : List ℕ). Lists x ns ats before (Ok r) ns' ats' after) e q

    go : (b : Bool) → ltb n (length f) ≡ b → (more : List ℕ) → (n < length f → more ≡ []) → Lists (take n f ++ more) ns ats before (Ok r) ns' ats' after
    go true e more none =
        listed_of (take n f) (take n f ++ more) (sym (ap (λ (m : List ℕ). take n f ++ m) (none (ltb-true n (length f) e)) ∙ append-nil (take n f))) p
    go false e more none =
        let all : take n f ≡ f = take_all n f (ltb-false n (length f) e) in
        listed_of (f ++ more) (take n f ++ more) (ap (λ (m : List ℕ). m ++ more) (sym all))
        (lists-longer f more ns ats before (Ok r) ns' ats' after full (listed_of (take n f) f all p))

-- an array of n bytes is as long
pub as_long : (n : ℕ) → n ≤ length {A = ℕ} (replicate n 0)
as_long n = rw (length-replicate {A = ℕ} n 0) (le_refl n)

-- ---- what is written

fitted-front : (text : List ℕ) (room r : ℕ) → length text ≤ room → r ≡ length text → take r (fitted text room) ≡ text
unfolding fitted
fitted-front text room r h e = rw (le-leb (length text) room h) (take_at text (replicate (room - length text) 0) r (sym e))

-- the listing of known bytes stands at the front of the buffer
pub lists-front :
    (f ns ats before : List ℕ) (r : ℕ) (ns' ats' after : List ℕ) → Roomy (length ns) (length ats) (length before) → Lists f ns ats before (Ok r) ns' ats' after →
    take r after ≡ listed_text f (length ns) (length ats)
lists-front f ns ats before r ns' ats' after room h =
    let text = listed_text f (length ns) (length ats) in
    let q : Ok r ≡ Ok (length text) = lists-answer f ns ats before ns' ats' after room (Ok r) h in
    let e : r ≡ length text = cc in
    let fits : r ≤ length before = lists-le f ns ats before ns' ats' after room r h in
    let g : length text ≤ length before = omega arith in
    ap (take r) h.printed.out ∙ fitted-front text (length before) r g e

-- a writer that has it more holds the listing of all that the reader had
runs-listed :
    (known after old new : Option (List ℕ)) (n : ℕ) (f ns ats before : List ℕ) (r : ℕ) (ns' ats' out : List ℕ) →
    Consumes known after (take n f) → (n < length f → IsAtEnd after) → Roomy (length ns) (length ats) (length before) →
    Runs n f ns ats before r ns' ats' out → Appends old new (take r out) → Listed known old new (length ns) (length ats)
unfolding Runs
runs-listed None after old new n f ns ats before r ns' ats' out came end room h w = tt
runs-listed (Some l) None old new n f ns ats before r ns' ats' out came end room h w = absurd came
runs-listed (Some l) (Some k) old new n f ns ats before r ns' ats' out came end room h w =
    let e : take r out ≡ listed_text l (length ns) (length ats) =
    lists-front (take n f ++ k) ns ats before r ns' ats' out room (h k end) ∙ ap (λ (m : List ℕ). listed_text m (length ns) (length ats)) (sym came) in
    subst (Appends old new) e w

pub run-listed :
    {A E : Type 0} (done : Result A E) (known after old new : Option (List ℕ)) (n : ℕ) (f ns ats before : List ℕ) (r : ℕ) (ns' ats' out : List ℕ) →
    Consumes known after (take n f) → (n < length f → IsAtEnd after) → Roomy (length ns) (length ats) (length before) →
    Runs n f ns ats before r ns' ats' out → OnOk done (Appends old new (take r out)) → OnOk done (Listed known old new (length ns) (length ats))
run-listed (Ok u) known after old new n f ns ats before r ns' ats' out came end room h w =
    runs-listed known after old new n f ns ats before r ns' ats' out came end room h w
run-listed (Err e) known after old new n f ns ats before r ns' ats' out came end room h w = tt
