-- Laws of specs/Text.antt, by which a reader can check the definitions, and for callers. No contract cites this file.
-- In order: the empty text and ASCII; a sound UTF-8 text is its own text (`text_of-whole`); what comes out is sound UTF-8 (`text_of-sound`), so
-- reading it again changes nothing (`text_of-back`); equal texts are equal byte for byte, in either encoding (`text_of-scalars`); its length; its damage.
-- Elsewhere: the steps by Table 3-7, `step8-sound` and `step8-width` (Sound8); encoding and decoding, `step8-encode` (Decode), `pair_of-back`
-- (Scalars); UTF-16 by its units, `differ-utf16` (Units); plain texts, `plain-same` (PlainLaws); `eq_bytes-true`, `eq_bytes-false`, `eq_bytes-refl` (Equal).
use mathlib.Core.Path.{◌≡◌, refl, sym, ap, ◌∙◌}
use mathlib.Core.Bool.{Bool, true, false, ◌&&◌, cond, true≢false}
use mathlib.Core.List.{List, [], ◌∷◌, ◌++◌}
use Prim.Native.Nat.{ℕ, zero, suc, ◌-◌, ◌*◌, ◌≤◌, ◌<◌}
use native.Mathlib.Omega.{arith}
use lib.Dec.{eqb}
use lib.ListN.{length, get_or, drop, length-append, take-append-drop}
use Rattle.utf.specs.declared.Step.{Step}
use Rattle.utf.specs.Utf8.{is_scalar, encode, step8}
use Rattle.utf.specs.Text.{
  step_of,
  step_value,
  width_of,
  sound_of,
  steps_after,
  steps_of,
  bytes_of,
  values_of,
  all_sound,
  bad_count,
  is_sound,
  refused,
  text_of,
  whole,
  replaced,
  unpaired,
  damage_of,
  eq_bytes,
}
use Rattle.utf.proofs.Tables.{both_true}
use Rattle.utf.proofs.Leads.{step8-ascii}
use Rattle.utf.proofs.Scalars.{encode-length-le, encode-length-lt}
use Rattle.utf.proofs.Sound8.{step8-is}
use Rattle.utf.proofs.Steps.{step_of-is, steps_of-encode}
use Rattle.utf.proofs.Equal.{eq_bytes-some, eq_bytes-encode}

-- ---- the empty text

pub text_of-nil : (utf16 : Bool) → text_of utf16 [] ≡ []
unfolding text_of bytes_of all_sound steps_after
text_of-nil true = refl
text_of-nil false = refl

-- ---- a sound UTF-8 text is its own text

whole-after : (k : ℕ) (s : List ℕ) → all_sound (steps_after false k s) ≡ true → bytes_of (steps_after false k s) ≡ drop k s
unfolding steps_after all_sound bytes_of
whole-after zero [] t = refl
whole-after (suc k) [] t = refl
whole-after (suc k) (b ∷ s) t = whole-after k s t
whole-after zero (b ∷ s) t =
    let n = width_of (step8 (b ∷ s)) in
    let p = both_true (sound_of (step8 (b ∷ s))) (all_sound (steps_after false (n - 1) s)) t in
    let r = step8-is b s in
    let e : suc (n - 1) ≡ n = omega (arith, r.least) in
    let f : drop (n - 1) s ≡ drop n (b ∷ s) = ap (λ (k : ℕ). drop k (b ∷ s)) e in
    rw (r.back p.0, whole-after (n - 1) s p.1, f) (take-append-drop n (b ∷ s))

pub text_of-whole : (s : List ℕ) → is_sound false s ≡ true → text_of false s ≡ s
unfolding text_of
text_of-whole s t = whole-after 0 s t

-- ---- ASCII

pub is_sound-ascii : (s : List ℕ) → ((i : ℕ) → get_or s i 0 < 128) → is_sound false s ≡ true
unfolding all_sound steps_after
is_sound-ascii [] a = refl
is_sound-ascii (b ∷ s) a = rw (step8-ascii b s (a 0)) (is_sound-ascii s (λ i. a (suc i)))

pub text_of-ascii : (s : List ℕ) → ((i : ℕ) → get_or s i 0 < 128) → text_of false s ≡ s
text_of-ascii s a = text_of-whole s (is_sound-ascii s a)

-- ---- what comes out is sound UTF-8

data Scalars : List Step → Type 0 where
  none : Scalars []
  more : {t : Step} {ts : List Step} → is_scalar (step_value t) ≡ true → Scalars ts → Scalars (t ∷ ts)

scalars-after : (utf16 : Bool) (k : ℕ) (s : List ℕ) → ((i : ℕ) → get_or s i 0 < 256) → Scalars (steps_after utf16 k s)
unfolding steps_after
scalars-after utf16 k [] b = none
scalars-after utf16 zero (a ∷ s) b =
    more (step_of-is utf16 (a ∷ s) (omega arith) b).scalar (scalars-after utf16 (width_of (step_of utf16 (a ∷ s)) - 1) s (λ i. b (suc i)))
scalars-after utf16 (suc k) (a ∷ s) b = scalars-after utf16 k s (λ i. b (suc i))

sound-bytes : (ts : List Step) → Scalars ts → is_sound false (bytes_of ts) ≡ true
unfolding bytes_of all_sound steps_after
sound-bytes [] none = refl
sound-bytes (t ∷ ts) (more k r) = rw (steps_of-encode (step_value t) (bytes_of ts) k) (sound-bytes ts r)

pub text_of-sound : (utf16 : Bool) (s : List ℕ) → ((i : ℕ) → get_or s i 0 < 256) → is_sound false (text_of utf16 s) ≡ true
unfolding text_of all_sound steps_after
text_of-sound utf16 s b = go (refused utf16 s)
  where
    go : (t : Bool) → is_sound false (cond t [] (bytes_of (steps_of utf16 s))) ≡ true
    go true = refl
    go false = sound-bytes (steps_of utf16 s) (scalars-after utf16 0 s b)

values-back : (ts : List Step) → Scalars ts → values_of (steps_of false (bytes_of ts)) ≡ values_of ts
unfolding bytes_of values_of steps_after
values-back [] none = refl
values-back (t ∷ ts) (more k r) = rw (steps_of-encode (step_value t) (bytes_of ts) k) (ap (λ (l : List ℕ). step_value t ∷ l) (values-back ts r))

-- the values of a text that is not refused are those of its bytes
pub text_of-values : (utf16 : Bool) (s : List ℕ) → ((i : ℕ) → get_or s i 0 < 256) → refused utf16 s ≡ false
    → values_of (steps_of false (text_of utf16 s)) ≡ values_of (steps_of utf16 s)
unfolding text_of
text_of-values utf16 s b e = rw e (values-back (steps_of utf16 s) (scalars-after utf16 0 s b))

pub text_of-back : (utf16 : Bool) (s : List ℕ) → ((i : ℕ) → get_or s i 0 < 256) → text_of false (text_of utf16 s) ≡ text_of utf16 s
text_of-back utf16 s b = text_of-whole (text_of utf16 s) (text_of-sound utf16 s b)

-- ---- equal texts: the same values are the same bytes, and the other way round

cons-some : (t : Step) (ts : List Step) → 0 < length (encode (step_value t) ++ bytes_of ts)
cons-some t ts = omega (arith, length-append (encode (step_value t)) (bytes_of ts), encode-length-lt (step_value t))

pub bytes_of-values : (ts us : List Step) → eq_bytes (bytes_of ts) (bytes_of us) ≡ eq_bytes (values_of ts) (values_of us)
unfolding bytes_of eq_bytes values_of
bytes_of-values [] [] = refl
bytes_of-values [] (u ∷ us) = (eq_bytes-some (encode (step_value u) ++ bytes_of us) (cons-some u us)).1
bytes_of-values (t ∷ ts) [] = (eq_bytes-some (encode (step_value t) ++ bytes_of ts) (cons-some t ts)).0
bytes_of-values (t ∷ ts) (u ∷ us) =
    eq_bytes-encode (step_value t) (step_value u) (bytes_of ts) (bytes_of us) ∙ ap (λ (b : Bool). eqb (step_value t) (step_value u) && b) (bytes_of-values ts us)

-- a text's scalar values; in either encoding two texts have the same ones where they have the same bytes
pub scalars_of : Bool → List ℕ → List ℕ
scalars_of utf16 s = cond (refused utf16 s) [] (values_of (steps_of utf16 s))

pub text_of-scalars : (wa : Bool) (a : List ℕ) (wb : Bool) (b : List ℕ) → eq_bytes (text_of wa a) (text_of wb b) ≡ eq_bytes (scalars_of wa a) (scalars_of wb b)
unfolding text_of scalars_of bytes_of values_of
text_of-scalars wa a wb b = go (refused wa a) (refused wb b)
  where
    go : (r t : Bool)
        → eq_bytes (cond r [] (bytes_of (steps_of wa a))) (cond t [] (bytes_of (steps_of wb b)))
        ≡ eq_bytes (cond r [] (values_of (steps_of wa a))) (cond t [] (values_of (steps_of wb b)))
    go true true = bytes_of-values [] []
    go true false = bytes_of-values [] (steps_of wb b)
    go false true = bytes_of-values (steps_of wa a) []
    go false false = bytes_of-values (steps_of wa a) (steps_of wb b)

-- ---- its length

length-after : (utf16 : Bool) (k : ℕ) (s : List ℕ) → length (bytes_of (steps_after utf16 k s)) ≤ 4 * length s
unfolding steps_after bytes_of
length-after utf16 k [] = omega arith
length-after utf16 zero (a ∷ s) =
    let t = step_of utf16 (a ∷ s) in
    let r = bytes_of (steps_after utf16 (width_of t - 1) s) in
    omega (arith, length-append (encode (step_value t)) r, encode-length-le (step_value t), length-after utf16 (width_of t - 1) s)
length-after utf16 (suc k) (a ∷ s) = omega (arith, length-after utf16 k s)

pub bytes_of-length-le : (utf16 : Bool) (s : List ℕ) → length (bytes_of (steps_of utf16 s)) ≤ 4 * length s
bytes_of-length-le utf16 s = length-after utf16 0 s

pub text_of-length-le : (utf16 : Bool) (s : List ℕ) → length (text_of utf16 s) ≤ 4 * length s
unfolding text_of
text_of-length-le utf16 s = go (refused utf16 s)
  where
    go : (t : Bool) → length (cond t [] (bytes_of (steps_of utf16 s))) ≤ 4 * length s
    go true = omega arith
    go false = bytes_of-length-le utf16 s

-- ---- its damage

pub bad_count-zero : (ts : List Step) → bad_count ts ≡ 0 → all_sound ts ≡ true
unfolding bad_count all_sound
bad_count-zero [] e = refl
bad_count-zero (t ∷ ts) e = go (bad_count-zero ts) (sound_of t) e
  where
    go : (bad_count ts ≡ 0 → all_sound ts ≡ true) → (x : Bool) → cond x (bad_count ts) (suc (bad_count ts)) ≡ 0 → (x && all_sound ts) ≡ true
    go r true f = r f
    go r false f = absurd (let z : ⊥ = omega (arith, f) in z)

pub damage_of-whole : (utf16 : Bool) (s : List ℕ) → is_sound utf16 s ≡ true → damage_of utf16 s ≡ whole
unfolding damage_of
damage_of-whole utf16 s e = rw e

pub damage_of-unpaired : (s : List ℕ) → is_sound true s ≡ false → damage_of true s ≡ unpaired
unfolding damage_of
damage_of-unpaired s e = rw e

pub damage_of-replaced : (s : List ℕ) → is_sound false s ≡ false
    → (damage_of false s ≡ replaced (bad_count (steps_of false s))) × (0 < bad_count (steps_of false s))
unfolding damage_of
damage_of-replaced s e = (rw e, go (bad_count (steps_of false s)) refl)
  where
    go : (n : ℕ) → bad_count (steps_of false s) ≡ n → 0 < bad_count (steps_of false s)
    go zero f = absurd (true≢false (sym (bad_count-zero (steps_of false s) f) ∙ e))
    go (suc n) f = omega (arith, f)
