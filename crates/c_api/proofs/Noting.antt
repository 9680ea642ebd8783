-- Laws of specs/Words.antt: a list of words as notes. No contract cites this file.
-- In order: length (`length-of`), words taken for notes (`notes_of_words`, `words_back`, `notes_of_words-places`), a store (`words-put`), and zeros from a
-- place on (`words-cleared`).
use Prim.Native.Nat.{ℕ, zero, suc, ◌+◌, ◌-◌, ◌*◌, ◌/◌, ◌≤◌, ◌<◌}
use native.Mathlib.Omega.{arith}
use native.Mathlib.Nat.{div-eq_of_lt-le}
use mathlib.Core.Path.{◌≡◌, refl, sym, ◌∙◌, ap}
use mathlib.Core.List.{List, [], ◌∷◌, ◌++◌, append_assoc}
use lib.ListN.{length, take, set, replicate, length-append, replicate-append-replicate}
use Rattle.anomaly.specs.declared.Note.{Note}
use Rattle.records.specs.Words.{note_width, note_kind, note_a, note_b}
use Rattle.walk.specs.Reading.{zero_note}
use Rattle.walk.specs.Inner.Outcome.{cleared}
use Rattle.c_api.specs.Words.{words_of, put_note}

-- ---- length

pub length-words : (os : List Note) → length (words_of os) ≡ note_width * length os
unfolding words_of
length-words [] = refl
length-words (n ∷ os) = omega (arith, length-words os)

pub length-of : (os : List Note) (t ws : List ℕ) → ws ≡ words_of os ++ t → length ws ≡ note_width * length os + length t
length-of os t ws e = ap length e ∙ length-append (words_of os) t ∙ ap (λ (n : ℕ). n + length t) (length-words os)

-- ---- words taken for notes

unfoldable pub notes_of_words : List ℕ → List Note
notes_of_words [] = []
notes_of_words (a ∷ []) = []
notes_of_words (a ∷ b ∷ []) = []
notes_of_words (a ∷ b ∷ c ∷ ws) = record { kind = a; a = b; b = c } ∷ notes_of_words ws

unfoldable pub rest_in : List ℕ → List ℕ
rest_in [] = []
rest_in (a ∷ []) = a ∷ []
rest_in (a ∷ b ∷ []) = a ∷ b ∷ []
rest_in (a ∷ b ∷ c ∷ ws) = rest_in ws

pub words_back : (ws : List ℕ) → ws ≡ words_of (notes_of_words ws) ++ rest_in ws
unfolding words_of notes_of_words rest_in
words_back [] = refl
words_back (a ∷ []) = refl
words_back (a ∷ b ∷ []) = refl
words_back (a ∷ b ∷ c ∷ ws) = ap (λ (l : List ℕ). a ∷ b ∷ c ∷ l) (words_back ws)

rest_in-lt : (ws : List ℕ) → length (rest_in ws) < note_width
unfolding rest_in
rest_in-lt [] = omega arith
rest_in-lt (a ∷ []) = omega arith
rest_in-lt (a ∷ b ∷ []) = omega arith
rest_in-lt (a ∷ b ∷ c ∷ ws) = rest_in-lt ws

pub notes_of_words-places : (ws : List ℕ) → length (notes_of_words ws) ≡ length ws / note_width
notes_of_words-places ws =
    let e : length ws ≡ note_width * length (notes_of_words ws) + length (rest_in ws) = length-of (notes_of_words ws) (rest_in ws) ws (words_back ws) in
    sym (div-eq_of_lt-le note_width (omega (arith, e)) (omega (arith, e, rest_in-lt ws)))

-- ---- a note put into the words of a list is that note set in the list

abbrev puts : List ℕ → ℕ → ℕ → ℕ → Note → List ℕ
puts ws i j m n = set (set (set ws i n.kind) j n.a) m n.b

puts-at : (ws : List ℕ) {i j m i' j' m' : ℕ} (n : Note) → i ≡ i' → j ≡ j' → m ≡ m' → puts ws i j m n ≡ puts ws i' j' m' n
puts-at ws n p q r = rw (p, q, r)

pub words-put : (os : List Note) (t : List ℕ) (k : ℕ) (n : Note) → k < length os → put_note (words_of os ++ t) k n ≡ words_of (set os k n) ++ t
unfolding words_of
words-put [] t k n h = absurd (let z : ⊥ = omega arith in z)
words-put (o ∷ os) t zero n h = refl
words-put (o ∷ os) t (suc k) n h =
    let e : note_width * suc k + note_kind ≡ suc (suc (suc (note_width * k + note_kind))) = omega arith in
    let e₁ : note_width * suc k + note_a ≡ suc (suc (suc (note_width * k + note_a))) = omega arith in
    let e₂ : note_width * suc k + note_b ≡ suc (suc (suc (note_width * k + note_b))) = omega arith in
    puts-at (words_of (o ∷ os) ++ t) n e e₁ e₂ ∙ ap (λ (l : List ℕ). o.kind ∷ o.a ∷ o.b ∷ l) (words-put os t k n (omega arith))

-- ---- zeros from a place on

words_append : (os ps : List Note) → words_of (os ++ ps) ≡ words_of os ++ words_of ps
unfolding words_of
words_append [] ps = refl
words_append (o ∷ os) ps = ap (λ (l : List ℕ). o.kind ∷ o.a ∷ o.b ∷ l) (words_append os ps)

words-zeros : (n : ℕ) → words_of (replicate n zero_note) ≡ replicate (note_width * n) 0
unfolding words_of
words-zeros zero = refl
words-zeros (suc n) =
    let e : note_width * suc n ≡ suc (suc (suc (note_width * n))) = omega arith in
    ap (λ (l : List ℕ). 0 ∷ 0 ∷ 0 ∷ l) (words-zeros n) ∙ ap (λ (m : ℕ). replicate m 0) (sym e)

words_take : (os : List Note) (t : List ℕ) (k : ℕ) → k ≤ length os → take (note_width * k) (words_of os ++ t) ≡ words_of (take k os)
unfolding words_of
words_take os t zero h = refl
words_take [] t (suc k) h = absurd (let z : ⊥ = omega arith in z)
words_take (o ∷ os) t (suc k) h =
    let e : note_width * suc k ≡ suc (suc (suc (note_width * k))) = omega arith in
    ap (λ (m : ℕ). take m (words_of (o ∷ os) ++ t)) e ∙ ap (λ (l : List ℕ). o.kind ∷ o.a ∷ o.b ∷ l) (words_take os t k (omega arith))

pub words-behind : (os : List Note) (m n : ℕ) → words_of os ++ replicate (note_width * m + n) 0 ≡ words_of (os ++ replicate m zero_note) ++ replicate n 0
words-behind os m n =
    ap (λ (l : List ℕ). words_of os ++ l) (sym (replicate-append-replicate (note_width * m) n 0))
    ∙ sym (append_assoc (words_of os) (replicate (note_width * m) 0) (replicate n 0))
    ∙ ap (λ (l : List ℕ). words_of os ++ l ++ replicate n 0) (sym (words-zeros m))
    ∙ ap (λ (l : List ℕ). l ++ replicate n 0) (sym (words_append os (replicate m zero_note)))

pub words-cleared : (os : List Note) (t ws : List ℕ) (k i : ℕ) → k ≤ length os → i ≡ note_width * k → ws ≡ words_of os ++ t
    → take i ws ++ replicate (length ws - i) 0 ≡ words_of (cleared os k (length os)) ++ replicate (length t) 0
words-cleared os t ws k i h ei ew =
    let front : take i ws ≡ words_of (take k os) = rw (ei, ew) (words_take os t k h) in
    let many : length ws - i ≡ note_width * (length os - k) + length t = omega (arith, length-of os t ws ew, ei, h) in
    rw (front, many) (words-behind (take k os) (length os - k) (length t))
