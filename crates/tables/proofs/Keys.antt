-- Laws of `is_repeat` by the rule `by_prefix`, for `has`: what a list of records says of its first and of the rest. No contract cites this file.
-- In order: the end (`repeat-end`), one record on (`repeat-step`), then the three ways of the loop: found, another prefix, another name; the two
-- where one call asks all (`repeat-same`, `repeat-other`); what the rule asks of a record at a place (`by_prefix-at`); and what the code compares
-- (`same-found`).
use Prim.Native.Nat.{ℕ, suc, ◌+◌, ◌/◌, ◌<◌}
use native.Mathlib.Omega.{arith}
use mathlib.Core.Path.{◌≡◌, sym, ap, ◌∙◌}
use mathlib.Core.List.{List, ◌++◌}
use mathlib.Core.Bool.{Bool, true, false, ◌&&◌, ◌||◌}
use borrow.Author.Tests.{eq-eqb, ne_eqb}
use lib.ListN.{length, take, get_or, drop, length-append}
use lib.Seq.{get_or-drop, get_or-take, take-append_seam}
use Rattle.std.proofs.lemmas.List.{drop_at}
use lib.Dec.{eqb}
use Rattle.records.specs.Words.{attribute_width, attribute_prefix, attribute_name, attribute_namespace, attribute_words, own_prefix}
use Rattle.records.specs.Repeats.{Rule, by_prefix, same_space, repeats_one, is_repeat}
use Rattle.system_types.specs.Names.{Lent}
use Rattle.text.specs.Content.{content_of, same_text, same_name}
use Rattle.text.specs.Inner.Found.{part_of, Finds}
use Rattle.text.specs.declared.Head.{Head}
use Rattle.text.specs.declared.Found.{Found}
use Rattle.tables.specs.Inner.Ways.{same_at}

take-append-whole : (x rest : List ℕ) (n : ℕ) → length x ≡ n → take n (x ++ rest) ≡ x
take-append-whole x rest n h = rw (← h) (take-append_seam x rest)

-- ---- any rule

module _ (rule : Rule) (new l : List ℕ) where
  pub repeat-end : length l < attribute_width → is_repeat rule new l ≡ false
  unfolding repeats_one
  repeat-end h =
      let z : length l / attribute_width ≡ 0 = omega arith in
      rw z

  repeat-step : (x rest : List ℕ) → l ≡ x ++ rest → length x ≡ attribute_width → is_repeat rule new l ≡ (rule new x || is_repeat rule new rest)
  unfolding repeats_one
  repeat-step x rest e h =
      let z : length l / attribute_width ≡ suc (length rest / attribute_width) = omega (arith, ap length e, length-append x rest, h) in
      rw (z, e, take-append-whole x rest attribute_width h, drop_at x rest attribute_width h)

-- ---- the rule by prefix

-- of the record x at the front of l
module _ (same : ℕ → ℕ → Bool) (owner p n kind value ns : ℕ) (l x rest : List ℕ) (e : l ≡ x ++ rest) (h : length x ≡ attribute_width) where
  abbrev new : List ℕ
  new = attribute_words owner p n kind value ns

  pub repeat-found : get_or x attribute_prefix 0 ≡ p → same (get_or x attribute_name 0) n ≡ true
      → same_space same p (get_or x attribute_namespace 0) ns ≡ true → is_repeat (by_prefix same) new l ≡ true
  repeat-found f g k = repeat-step (by_prefix same) new l x rest e h ∙ rw (eq-eqb _ _ f, g, k)

  pub repeat-prefix : (get_or x attribute_prefix 0 ≡ p → ⊥) → is_repeat (by_prefix same) new l ≡ is_repeat (by_prefix same) new rest
  repeat-prefix f = repeat-step (by_prefix same) new l x rest e h ∙ rw (ne_eqb _ _ f)

  pub repeat-name : get_or x attribute_prefix 0 ≡ p → same (get_or x attribute_name 0) n ≡ false
      → is_repeat (by_prefix same) new l ≡ is_repeat (by_prefix same) new rest
  repeat-name f g = repeat-step (by_prefix same) new l x rest e h ∙ rw (eq-eqb _ _ f, g)

  -- by what one call asks
  pub repeat-same : {r : Bool} → r ≡ same_at same p n ns x 0 → r ≡ true → is_repeat (by_prefix same) new l ≡ true
  repeat-same f g =
      repeat-step (by_prefix same) new l x rest e h ∙ ap (λ (y : Bool). y || is_repeat (by_prefix same) new rest) (sym f ∙ g)

  pub repeat-other : {r : Bool} → r ≡ same_at same p n ns x 0 → r ≡ false → is_repeat (by_prefix same) new l ≡ is_repeat (by_prefix same) new rest
  repeat-other f g =
      repeat-step (by_prefix same) new l x rest e h ∙ ap (λ (y : Bool). y || is_repeat (by_prefix same) new rest) (sym f ∙ g)

-- of the record at a place
module _ (same : ℕ → ℕ → Bool) (owner p n kind value ns : ℕ) (l : List ℕ) (i : ℕ) where
  pub by_prefix-at : by_prefix same (attribute_words owner p n kind value ns) (take attribute_width (drop i l))
      ≡ (eqb (get_or l (i + attribute_prefix) 0) p
      && (same (get_or l (i + attribute_name) 0) n && same_space same p (get_or l (i + attribute_namespace) 0) ns))
  by_prefix-at =
      rw (
        get_or-take attribute_width (drop i l) attribute_prefix 0 (omega arith),
        get_or-take attribute_width (drop i l) attribute_name 0 (omega arith),
        get_or-take attribute_width (drop i l) attribute_namespace 0 (omega arith),
        get_or-drop i l attribute_prefix 0,
        get_or-drop i l attribute_name 0,
        get_or-drop i l attribute_namespace 0,
      )

-- under any prefix but 3
pub space-any : (same : ℕ → ℕ → Bool) (p a b : ℕ) → (p ≡ own_prefix → ⊥) → same_space same p a b ≡ true
space-any same p a b n = rw (ne_eqb p own_prefix n)

-- what the code compares is what the indices stand for
pub same-found : (h : Head) (t : List ℕ) (lent : Lent) (i n : ℕ) (wanted : Found) → Finds t lent h n wanted
    → (r b : Bool) → r ≡ same_text (content_of h t lent i) (part_of h.utf16 t lent.area wanted) → r ≡ b → same_name h t lent i n ≡ b
same-found h t lent i n wanted g r b e q = sym (rw g.same at e) ∙ q
