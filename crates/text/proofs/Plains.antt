-- What is known to be plain, by where it was found; the Android namespace is (`known-android`), and its own text (`is_text-android`), and so in UTF-16.
use Prim.Native.Nat.{ℕ, ◌+◌, ◌-◌}
use mathlib.Core.Path.{◌≡◌, refl, sym, ap, ◌∙◌}
use mathlib.Core.List.{List, [], ◌∷◌}
use mathlib.Core.Bool.{Bool, true, false, not, true≢false}
use lib.ListN.{take, drop}
use Rattle.utf.specs.Utf8.{encode}
use Rattle.utf.specs.Utf16.{step16}
use Rattle.utf.specs.Text.{steps_after, bytes_of, all_sound, text_of, eq_bytes}
use Rattle.utf.specs.Plain.{is_ascii, is_plain, Known}
use Rattle.text.specs.declared.Found.{Found}
use Rattle.text.specs.declared.Found.TheVariants.{System}
use Rattle.text.specs.Content.{Content, plain_in, is_text, android_uri, is_android}
use Rattle.text.specs.Inner.Found.{part_of, Inside}
use Rattle.text.proofs.Parts.{slice_of}
use Rattle.text.proofs.Read.{inside-plain, text_of-system}

-- nothing is said
pub known-none : (b : Bool) → Known false b
known-none b = record { holds = λ e. absurd (true≢false (sym e)) }

pub known_of : {p b : Bool} → p ≡ b → Known p b
known_of e = record { holds = λ h. sym e ∙ h }

android-ascii : is_ascii android_uri ≡ true
unfolding is_ascii
android-ascii = refl

pub known-android : Known true (is_plain false android_uri)
known-android = record { holds = λ _. android-ascii }

-- the same in UTF-16
abbrev android_utf16 : List ℕ
android_utf16 =
    104 ∷ 0 ∷ 116 ∷ 0 ∷ 116 ∷ 0 ∷ 112 ∷ 0 ∷ 58 ∷ 0 ∷ 47 ∷ 0 ∷ 47 ∷ 0 ∷ 115 ∷ 0 ∷ 99 ∷ 0 ∷ 104 ∷ 0 ∷ 101 ∷ 0 ∷ 109 ∷ 0 ∷ 97 ∷ 0 ∷ 115 ∷ 0 ∷ 46 ∷
    0 ∷ 97 ∷ 0 ∷ 110 ∷ 0 ∷ 100 ∷ 0 ∷ 114 ∷ 0 ∷ 111 ∷ 0 ∷ 105 ∷ 0 ∷ 100 ∷ 0 ∷ 46 ∷ 0 ∷ 99 ∷ 0 ∷ 111 ∷ 0 ∷ 109 ∷ 0 ∷ 47 ∷ 0 ∷ 97 ∷ 0 ∷ 112 ∷ 0 ∷
    107 ∷ 0 ∷ 47 ∷ 0 ∷ 114 ∷ 0 ∷ 101 ∷ 0 ∷ 115 ∷ 0 ∷ 47 ∷ 0 ∷ 97 ∷ 0 ∷ 110 ∷ 0 ∷ 100 ∷ 0 ∷ 114 ∷ 0 ∷ 111 ∷ 0 ∷ 105 ∷ 0 ∷ 100 ∷ 0 ∷ []

android-text : text_of true android_utf16 ≡ android_uri
unfolding text_of steps_after bytes_of all_sound step16 encode
android-text = refl

pub known-android-utf16 : Known true (is_plain true android_utf16)
unfolding eq_bytes
known-android-utf16 = record { holds = λ _. ap (λ (s : List ℕ). not (eq_bytes [] s)) android-text }

pub is_text-android-utf16 : {a b : Content} {r : Bool} → r ≡ is_text a (text_of true android_utf16) → a ≡ b → r ≡ is_android b
is_text-android-utf16 {a} e f = e ∙ ap (is_text a) android-text ∙ ap is_android f

pub is_text-android : {a b : Content} {r : Bool} → r ≡ is_text a (text_of false android_uri) → a ≡ b → r ≡ is_android b
is_text-android {a} e f = e ∙ ap (is_text a) (text_of-system android_uri android-ascii) ∙ ap is_android f

-- a system name is plain
pub plain-system : (w : Bool) (t area : List ℕ) {f : Found} {at n : ℕ} → Inside t area f → f ≡ System at n → true ≡ plain_in (part_of w t area f)
plain-system w t area {f} {at} {n} i e =
    let q : is_ascii (take n (drop at area)) ≡ true = inside-plain t area i e in
    rw e (sym q)

pub known-system : (t area : List ℕ) {f : Found} {at n : ℕ} → Inside t area f → f ≡ System at n → Known true (is_plain false (take (at + n - at) (drop at area)))
known-system t area {at = at} {n = n} i e = record { holds = λ _. rw (slice_of at n) (inside-plain t area i e) }
