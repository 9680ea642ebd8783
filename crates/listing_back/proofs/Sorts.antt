-- The three sorts of records: what their lines have in common, so that one proof serves for all. No contract cites this file.
--
--   Sort    of a record of so many words, whose line is a function of its number and its words: no key has `=`, the form is the same whatever the
--           numbers, and the numbers are the record's own and its words in their order
--
-- Nothing here counts the words of a record: each field is computed from the printer's own line.
use Prim.Native.Nat.{ℕ, zero, suc, ◌+◌, ◌≤◌}
use mathlib.Core.Path.{◌≡◌, refl, sym, ap, ◌∙◌}
use mathlib.Core.Bool.{true}
use mathlib.Core.List.{List, [], ◌∷◌, ◌++◌}
use native.Mathlib.Omega.{arith}
use lib.ListN.{length, take, drop, get_or, length-append}
use lib.Seq.{drop-cons, take-append-le, take_all}
use Rattle.listing_text.specs.Listing.{Field, Line, node_line, attribute_line}
use Rattle.records.specs.Words.{node_width, attribute_width, note_width}
use Rattle.listing_back.specs.Forms.{form_text}
use Rattle.listing_back.specs.Back.{note_words_line}
use Rattle.listing_back.proofs.Lines.{plain_key, plain_keys, numbers_in, fill}

-- n words from the i-th on
unfoldable pub words_from : ℕ → ℕ → List ℕ → List ℕ
words_from i zero w = []
words_from i (suc n) w = get_or w i 0 ∷ words_from (suc i) n w

words_from-drop : (i n : ℕ) (w : List ℕ) → i + n ≤ length w → words_from i n w ≡ take n (drop i w)
unfolding words_from
words_from-drop i zero w h = refl
words_from-drop i (suc n) w h =
    let p : suc i + n ≤ length w = omega arith in
    rw (drop-cons w i 0 (omega arith), words_from-drop (suc i) n w p)

pub record Sort (width : ℕ) (line : ℕ → List ℕ → Line) : Type 0 where
  pub first : ℕ → List ℕ → Field
  pub others : ℕ → List ℕ → Line
  pub shape : (k : ℕ) (w : List ℕ) → line k w ≡ first k w ∷ others k w
  pub plain : (k : ℕ) (w : List ℕ) → plain_keys (line k w) ≡ true
  pub form : (k : ℕ) (w : List ℕ) → form_text (line k w) ≡ form_text (line 0 [])
  pub numbers : (k : ℕ) (w : List ℕ) → numbers_in (line k w) ≡ k ∷ words_from 0 width w
  pub filled : (k : ℕ) (w : List ℕ) → fill (line 0 []) (numbers_in (line k w)) ≡ line k w
  pub many : length (line 0 []) ≡ suc width

abbrev first_of : Line → Field
first_of [] = record { key = []; number = 0 }
first_of (f ∷ fs) = f

pub node_sort : Sort node_width node_line
unfolding plain_keys plain_key form_text numbers_in fill words_from
node_sort = record {
  first = λ k w. first_of (node_line k w);
  others = λ k w. drop 1 (node_line k w);
  shape = λ k w. refl;
  plain = λ k w. refl;
  form = λ k w. refl;
  numbers = λ k w. refl;
  filled = λ k w. refl;
  many = refl;
}

pub attribute_sort : Sort attribute_width attribute_line
unfolding plain_keys plain_key form_text numbers_in fill words_from
attribute_sort = record {
  first = λ k w. first_of (attribute_line k w);
  others = λ k w. drop 1 (attribute_line k w);
  shape = λ k w. refl;
  plain = λ k w. refl;
  form = λ k w. refl;
  numbers = λ k w. refl;
  filled = λ k w. refl;
  many = refl;
}

pub note_sort : Sort note_width note_words_line
unfolding plain_keys plain_key form_text numbers_in fill words_from
note_sort = record {
  first = λ k w. first_of (note_words_line k w);
  others = λ k w. drop 1 (note_words_line k w);
  shape = λ k w. refl;
  plain = λ k w. refl;
  form = λ k w. refl;
  numbers = λ k w. refl;
  filled = λ k w. refl;
  many = refl;
}

module _ {width : ℕ} {line : ℕ → List ℕ → Line} (sort : Sort width line) where
  -- the record's own number and its words
  pub numbers-take : (k : ℕ) (w : List ℕ) → width ≤ length w → numbers_in (line k w) ≡ k ∷ take width w
  numbers-take k w h = sort.numbers k w ∙ ap (λ (x : List ℕ). k ∷ x) (words_from-drop 0 width w (omega arith))

  -- the line of just these words, whatever stands behind them
  pub filled-by : (k : ℕ) (w more : List ℕ) → length w ≡ width → fill (line 0 []) (k ∷ w) ≡ line k (w ++ more)
  filled-by k w more h =
      let t : take width (w ++ more) ≡ w = take-append-le width w more (omega arith) ∙ take_all width w (omega arith) in
      let l : width ≤ length (w ++ more) = simp length-append (omega arith) in
      ap (λ (x : List ℕ). fill (line 0 []) (k ∷ x)) (sym t) ∙ (ap (fill (line 0 [])) (sym (numbers-take k (w ++ more) l)) ∙ sort.filled k (w ++ more))
