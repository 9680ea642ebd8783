-- One turn of a loop over a text, seen by each reading of the steps, and where such a loop ends.
-- In order: what the code was told of a step (`took`); the readings; two texts at once (`paired`); the text by whether it is refused.
use mathlib.Core.Path.{◌≡◌, refl, sym, ap, ◌∙◌}
use mathlib.Core.Bool.{Bool, true, false, ◌&&◌}
use mathlib.Core.List.{List, [], ◌∷◌, ◌++◌}
use Prim.Native.Nat.{ℕ, suc, ◌+◌, ◌-◌, ◌≤◌, ◌<◌}
use native.Mathlib.Omega.{arith}
use borrow.Author.Tests.{leb-true, leb-false, eqb-true, eqb-false}
use lib.Dec.{leb, eqb}
use lib.ListN.{length, get_or, drop, length-append, length-drop}
use lib.Seq.{drop-cons}
use Rattle.std.specs.Prelude.{MatchOption}
use Rattle.std.specs.Bool.{then_some}
use Rattle.utf.specs.declared.Step.{Step}
use Rattle.utf.specs.declared.Step.TheVariants.{Scalar}
use Rattle.utf.specs.Utf8.{encode}
use Rattle.utf.specs.Text.{step_of, step_value, width_of, sound_of, steps_after, steps_of, bytes_of, all_sound, refused, text_of, eq_bytes}
use Rattle.utf.specs.Inner.StepRuns.{Took, Paired}
use Rattle.utf.proofs.Leads.{step8-ascii}
use Rattle.utf.proofs.Scalars.{is_scalar-lt, encode-length-lt}
use Rattle.utf.proofs.Equal.{eq_bytes-some, eq_bytes-encode}
use Rattle.utf.proofs.Steps.{step_of-is-drop, steps_of-next, steps_of-end}

-- ---- the step at a place

pub took : (utf16 : Bool) (s : List ℕ) (at value width : ℕ) (sound : Bool) (t : Step) → at < length s → ((i : ℕ) → get_or s i 0 < 256)
    → t ≡ step_of utf16 (drop at s) → (value ≡ step_value t) × (width ≡ width_of t) × (sound ≡ sound_of t) → Took utf16 s at value width sound
took utf16 s at value width sound t h b e r =
    let g = step_of-is-drop utf16 s at h b in
    let v : value ≡ step_value (step_of utf16 (drop at s)) = r.0 ∙ ap step_value e in
    let n : width ≡ width_of (step_of utf16 (drop at s)) = r.1 ∙ ap width_of e in
    record {
      value-is = v;
      width_is = n;
      sound-is = r.2 ∙ ap sound_of e;
      small = omega (arith, is_scalar-lt (step_value (step_of utf16 (drop at s))) g.scalar);
      least = omega arith;
      most = omega arith;
    }

pub took-ascii : (utf16 : Bool) (s : List ℕ) (at : ℕ) → utf16 ≡ false → at < length s → get_or s at 0 < 128 → Took utf16 s at (get_or s at 0) 1 true
took-ascii utf16 s at w h a =
    let e : step_of utf16 (drop at s) ≡ Scalar (get_or s at 0) 1 = rw (w, drop-cons s at 0 h) (step8-ascii (get_or s at 0) (drop (suc at) s) a) in
    record {
      value-is = sym (ap step_value e);
      width_is = sym (ap width_of e);
      sound-is = sym (ap sound_of e);
      small = omega arith;
      least = omega arith;
      most = omega arith;
    }

-- ---- a turn

module _ (utf16 : Bool) (s : List ℕ) (at value width : ℕ) (sound : Bool) (h : at < length s) (t : Took utf16 s at value width sound) where
  pub turn-sound : all_sound (steps_of utf16 (drop at s)) ≡ (sound && all_sound (steps_of utf16 (drop (at + width) s)))
  unfolding all_sound
  turn-sound =
      ap all_sound (steps_of-next utf16 s at width h t.width_is t.least)
      ∙ ap (λ (b : Bool). b && all_sound (steps_of utf16 (drop (at + width) s))) (sym t.sound-is)

  pub turn-bytes : bytes_of (steps_of utf16 (drop at s)) ≡ encode value ++ bytes_of (steps_of utf16 (drop (at + width) s))
  unfolding bytes_of
  turn-bytes =
      ap bytes_of (steps_of-next utf16 s at width h t.width_is t.least)
      ∙ ap (λ (v : ℕ). encode v ++ bytes_of (steps_of utf16 (drop (at + width) s))) (sym t.value-is)

-- a turn that stops, and one that goes on
pub stops : (x y b : Bool) → x ≡ (b && y) → b ≡ false → x ≡ false
stops x y b e h = e ∙ ap (λ (c : Bool). c && y) h

pub goes : (x y b : Bool) → x ≡ (b && y) → b ≡ true → x ≡ y
goes x y b e h = e ∙ ap (λ (c : Bool). c && y) h

-- ---- the end

pub end-sound : (utf16 : Bool) (s : List ℕ) (at : ℕ) → length s ≤ at → all_sound (steps_of utf16 (drop at s)) ≡ true
unfolding all_sound
end-sound utf16 s at h = ap all_sound (steps_of-end utf16 s at h)

pub end-bytes : (utf16 : Bool) (s : List ℕ) (at : ℕ) → length s ≤ at → bytes_of (steps_of utf16 (drop at s)) ≡ []
unfolding bytes_of
end-bytes utf16 s at h = ap bytes_of (steps_of-end utf16 s at h)

-- ---- two texts at once

pub paired : (wa : Bool) (a : List ℕ) (i u n : ℕ) (x : Bool) (wb : Bool) (b : List ℕ) (j v m : ℕ) (y : Bool) → i < length a → j < length b
    → Took wa a i u n x → Took wb b j v m y
    → MatchOption {T = ℕ × ℕ} (then_some (eqb u v) (i + n, j + m)) (eq_bytes (bytes_of (steps_of wa (drop i a))) (bytes_of (steps_of wb (drop j b))) ≡ false)
    (λ next. Paired wa a i wb b j next.0 next.1)
paired wa a i u n x wb b j v m y h k t r = go (eqb u v) refl
  where
    rest : Bool
    rest = eq_bytes (bytes_of (steps_of wa (drop (i + n) a))) (bytes_of (steps_of wb (drop (j + m) b)))

    both : eq_bytes (bytes_of (steps_of wa (drop i a))) (bytes_of (steps_of wb (drop j b))) ≡ (eqb u v && rest)
    both = rw (turn-bytes wa a i u n x h t, turn-bytes wb b j v m y k r)
        (eq_bytes-encode u v (bytes_of (steps_of wa (drop (i + n) a))) (bytes_of (steps_of wb (drop (j + m) b))))

    go : (z : Bool) → eqb u v ≡ z
        → MatchOption {T = ℕ × ℕ} (then_some z (i + n, j + m)) (eq_bytes (bytes_of (steps_of wa (drop i a))) (bytes_of (steps_of wb (drop j b))) ≡ false)
        (λ next. Paired wa a i wb b j next.0 next.1)
    go true e = record { bytes = both ∙ ap (λ (z : Bool). z && rest) e; later = omega (arith, t.least) }
    go false e = both ∙ ap (λ (z : Bool). z && rest) e

pub bytes_of-some : (utf16 : Bool) (s : List ℕ) → 0 < length s → 0 < length (bytes_of (steps_of utf16 s))
unfolding bytes_of steps_after
bytes_of-some utf16 [] h = absurd (let z : ⊥ = omega arith in z)
bytes_of-some utf16 (b ∷ s) h =
    let t = step_of utf16 (b ∷ s) in
    let r = bytes_of (steps_after utf16 (width_of t - 1) s) in
    omega (arith, length-append (encode (step_value t)) r, encode-length-lt (step_value t))

-- one text has bytes left where the other has none
pub left-some : (wa : Bool) (a : List ℕ) (i : ℕ) (wb : Bool) (b : List ℕ) (j : ℕ) → i < length a → length b ≤ j
    → eq_bytes (bytes_of (steps_of wa (drop i a))) (bytes_of (steps_of wb (drop j b))) ≡ false
left-some wa a i wb b j h k =
    rw (end-bytes wb b j k) (eq_bytes-some (bytes_of (steps_of wa (drop i a))) (bytes_of-some wa (drop i a) (omega (arith, length-drop i a)))).0

pub left-none : (utf16 : Bool) (s : List ℕ) (j : ℕ) → leb (length s) j ≡ eq_bytes [] (bytes_of (steps_of utf16 (drop j s)))
unfolding eq_bytes
left-none utf16 s j = go (leb (length s) j) refl
  where
    go : (t : Bool) → leb (length s) j ≡ t → leb (length s) j ≡ eq_bytes [] (bytes_of (steps_of utf16 (drop j s)))
    go true e = e ∙ sym (ap (eq_bytes []) (end-bytes utf16 s j (leb-true (length s) j e)))
    go false e =
        let h : j < length s = leb-false (length s) j e in
        e ∙ sym (eq_bytes-some (bytes_of (steps_of utf16 (drop j s))) (bytes_of-some utf16 (drop j s) (omega (arith, length-drop j s)))).1

-- ---- the text, by whether it is refused

pub text_of-refused : (utf16 : Bool) (s : List ℕ) → refused utf16 s ≡ true → text_of utf16 s ≡ []
unfolding text_of
text_of-refused utf16 s e = rw e

pub text_of-kept : (utf16 : Bool) (s : List ℕ) → refused utf16 s ≡ false → text_of utf16 s ≡ bytes_of (steps_of utf16 s)
unfolding text_of
text_of-kept utf16 s e = rw e

-- a text that is not refused, against the empty text: the same where it has no bytes
pub text_of-empty : (utf16 : Bool) (s : List ℕ) → refused utf16 s ≡ false
    → (eqb (length s) 0 ≡ eq_bytes (text_of utf16 s) []) × (eqb (length s) 0 ≡ eq_bytes [] (text_of utf16 s))
unfolding eq_bytes
text_of-empty utf16 s r = rw (text_of-kept utf16 s r) (go (eqb (length s) 0) refl)
  where
    go : (t : Bool) → eqb (length s) 0 ≡ t
        → (eqb (length s) 0 ≡ eq_bytes (bytes_of (steps_of utf16 s)) []) × (eqb (length s) 0 ≡ eq_bytes [] (bytes_of (steps_of utf16 s)))
    go true e =
        let f = end-bytes utf16 s 0 (omega (arith, eqb-true (length s) 0 e)) in
        (e ∙ sym (ap (λ (l : List ℕ). eq_bytes l []) f), e ∙ sym (ap (eq_bytes []) f))
    go false e =
        let n = eqb-false (length s) 0 e in
        let f = eq_bytes-some (bytes_of (steps_of utf16 s)) (bytes_of-some utf16 s (omega (arith, n))) in
        (e ∙ sym f.0, e ∙ sym f.1)
