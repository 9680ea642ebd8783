-- The four answers of `axml_round_up_add` (specs/Adding.antt), each on plain values. No contract cites this file.
use Prim.Native.Nat.{ℕ, ◌≤◌, ◌<◌}
use mathlib.Core.Path.{◌≡◌, refl, sym, ◌∙◌, ap}
use mathlib.Core.Bool.{Bool, true, false}
use mathlib.Core.List.{List}
use borrow.Author.Tests.{eq-eqb, ne_eqb, lt-ltb, le-ltb}
use lib.ListN.{length}
use Rattle.errors.specs.Refusal.{refusal_number, refusal_value}
use Rattle.round_up.specs.declared.Added.{Added}
use Rattle.round_up.specs.Kinds.{kinds_in}
use Rattle.round_up.specs.RoundUp.{places, numbers, share_by, sums, has_room, AddsShare, added_of, full_of, added_to, add_numbers}
use Rattle.c_api.specs.declared.adding.AxmlAddAnswer.{AxmlAddAnswer}
use Rattle.c_api.specs.Adding.{add_answer_of, misfit, adding_to, AddsWords}

abbrev told : ℕ → ℕ → AxmlAddAnswer
told refusal value = record { refusal = refusal; value = value }

module _ (words notes : List ℕ) (refusal count bytes : ℕ) where
  -- what is answered and left, where `adding_to` is known
  adds-by : (x : Added) → adding_to words notes refusal count bytes ≡ x → (r : AxmlAddAnswer) → r ≡ add_answer_of (add_numbers x.answer)
      → (after : List ℕ) → after ≡ x.round_up.counts → AddsWords words notes refusal count bytes r after
  adds-by x e r a after c = record {
    answer = a ∙ ap (λ (y : Added). add_answer_of (add_numbers y.answer)) (sym e);
    counts = c ∙ ap (λ (y : Added). y.round_up.counts) (sym e);
  }

  -- with another length: the two parts of the promise
  pub other_length_answer : (length words ≡ places → ⊥) → add_answer_of (add_numbers (adding_to words notes refusal count bytes).answer) ≡ told 13 (length words)
  unfolding adding_to add_numbers refusal_number refusal_value
  other_length_answer h = rw (ne_eqb (length words) places h)

  pub other_length_counts : (length words ≡ places → ⊥) → (adding_to words notes refusal count bytes).round_up.counts ≡ words
  unfolding adding_to
  other_length_counts h = rw (ne_eqb (length words) places h)

  module _ (whole : length words ≡ places) where
    pub adds-other-number : numbers ≤ refusal → AddsWords words notes refusal count bytes (told 13 refusal) words
    unfolding adding_to add_numbers refusal_number refusal_value
    adds-other-number h =
        adds-by (misfit words refusal) (rw (eq-eqb (length words) places whole, le-ltb refusal numbers h)) (told 13 refusal) refl words refl

    module _ (below : refusal < numbers) (kinds share : List ℕ) (counted : kinds ≡ kinds_in notes count) (shared : share ≡ share_by kinds refusal bytes)
        (room : Bool) (after : List ℕ) (adds : AddsShare words share room after) where
      adding-share : adding_to words notes refusal count bytes ≡ added_to (record { counts = words }) share
      unfolding adding_to
      adding-share =
          rw (eq-eqb (length words) places whole, lt-ltb refusal numbers below)
          (ap (added_to (record { counts = words })) (sym (shared ∙ ap (λ (k : List ℕ). share_by k refusal bytes) counted)))

      pub adds-all : room ≡ true → AddsWords words notes refusal count bytes (told 0 0) after
      unfolding added_to add_numbers
      adds-all h =
          let q : has_room words share ≡ true = sym adds.room ∙ h in
          adds-by (added_of (sums words share)) (adding-share ∙ rw q) (told 0 0) refl after (adds.counts ∙ rw q)

      pub adds-full : room ≡ false → AddsWords words notes refusal count bytes (told 29 0) after
      unfolding added_to add_numbers refusal_number refusal_value
      adds-full h =
          let q : has_room words share ≡ false = sym adds.room ∙ h in
          adds-by (full_of (record { counts = words })) (adding-share ∙ rw q) (told 29 0) refl after (adds.counts ∙ rw q)
