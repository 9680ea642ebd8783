-- A turn of each loop over records: the line of one record is written, and the lines of the others are left. No contract cites this file.
-- The number k counts records from 0, w are the words from that record on, n is how many records there are.
use Prim.Native.Nat.{ℕ, zero, suc, ◌+◌, ◌-◌, ◌≤◌, ◌<◌}
use mathlib.Core.Path.{◌≡◌, refl, sym, ap, ◌∙◌}
use mathlib.Core.List.{List, [], ◌∷◌, ◌++◌}
use native.Mathlib.Omega.{arith}
use native.Mathlib.Nat.{sub-add-eq}
use native.Mathlib.Numerals.{unary_clauses, add-one}
use borrow.Author.Tests.{lt-ltb, le-ltb}
use lib.ListN.{length, take, drop, get_or, length-drop, drop_of_length-le}
use lib.Seq.{drop-cons, take_all}
use Rattle.anomaly.specs.declared.Note.{Note}
use Rattle.listing_text.specs.Listing.{Line, line_text, lines_text, record_lines, note_line, note_lines}

-- ---- nodes and attributes: records of any width, whose line is any line

module _ (width : ℕ) (line : ℕ → List ℕ → Line) where
  pub record_lines-stop : (k n : ℕ) (w : List ℕ) → n ≤ k → lines_text (record_lines width line k (n - k) w) ≡ []
  unfolding lines_text record_lines
  record_lines-stop k n w h = let z : n - k ≡ 0 = omega arith in rw z

  record_lines-less : (k n : ℕ) (w : List ℕ) → length w < width → record_lines width line k n w ≡ []
  unfolding record_lines
  record_lines-less k zero w h = refl
  record_lines-less k (suc n) w h = rw (lt-ltb (length w) width h)

  pub record_lines-short : (k n : ℕ) (w : List ℕ) → length w < width → lines_text (record_lines width line k n w) ≡ []
  unfolding lines_text
  record_lines-short k n w h = rw (record_lines-less k n w h)

  record_lines-more :
      (k n : ℕ) (w : List ℕ) → 0 < n → width ≤ length w →
      record_lines width line k n w ≡ line k w ∷ record_lines width line (k + 1) (n - 1) (drop width w)
  unfolding record_lines
  record_lines-more k zero w z h = absurd (let f : ⊥ = omega arith in f)
  record_lines-more k (suc n) w z h = simp (unary_clauses, le-ltb (length w) width h)

  record_lines-step :
      (k n : ℕ) (w : List ℕ) → k < n → width ≤ length w → lines_text (record_lines width line k (n - k) w) ≡
      line_text (line k w) ++ lines_text (record_lines width line (k + 1) (n - (k + 1)) (drop width w))
  unfolding lines_text
  record_lines-step k n w h r =
      let z : 0 < n - k = omega arith in
      rw (record_lines-more k (n - k) w z r, sub-add-eq n k 1)

  -- with the words behind it as the code has them, `&w[width..]`
  pub record_lines-turn :
      (k n : ℕ) (w : List ℕ) → k < n → width ≤ length w → lines_text (record_lines width line k (n - k) w) ≡
      line_text (line k w) ++ lines_text (record_lines width line (k + 1) (n - (k + 1)) (take (length w - width) (drop width w)))
  record_lines-turn k n w h r =
      let e = length-drop width w in
      let all : take (length w - width) (drop width w) ≡ drop width w = take_all (length w - width) (drop width w) (omega (arith, e)) in
      record_lines-step k n w h r ∙ ap (λ (l : List ℕ). line_text (line k w) ++ lines_text (record_lines width line (k + 1) (n - (k + 1)) l)) (sym all)

-- ---- notes

pub note_lines-stop : (k n i : ℕ) (os : List Note) → n ≤ k → lines_text (note_lines k (n - k) (drop i os)) ≡ []
unfolding lines_text note_lines
note_lines-stop k n i os h = let z : n - k ≡ 0 = omega arith in rw z

note_lines-nil : (k n : ℕ) → note_lines k n [] ≡ []
unfolding note_lines
note_lines-nil k zero = refl
note_lines-nil k (suc n) = refl

pub note_lines-short : (k n i : ℕ) (os : List Note) → length os ≤ i → lines_text (note_lines k n (drop i os)) ≡ []
unfolding lines_text
note_lines-short k n i os h = rw (drop_of_length-le os h, note_lines-nil k n)

note_lines-more : (k n : ℕ) (o : Note) (os : List Note) → 0 < n → note_lines k n (o ∷ os) ≡ note_line k o ∷ note_lines (k + 1) (n - 1) os
unfolding note_lines
note_lines-more k zero o os z = absurd (let f : ⊥ = omega arith in f)
note_lines-more k (suc n) o os z = simp unary_clauses

pub note_lines-step :
    (k n i : ℕ) (os : List Note) (d : Note) → k < n → i < length os → lines_text (note_lines k (n - k) (drop i os)) ≡
    line_text (note_line k (get_or os i d)) ++ lines_text (note_lines (k + 1) (n - (k + 1)) (drop (i + 1) os))
unfolding lines_text
note_lines-step k n i os d h r =
    let z : 0 < n - k = omega arith in
    rw (drop-cons os i d r, note_lines-more k (n - k) (get_or os i d) (drop (suc i) os) z, add-one i, sub-add-eq n k 1)
