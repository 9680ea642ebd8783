-- What follows from the promise of specs/Pairs.antt: two results are equal (`many-unique`); zeros beside a refusal and behind the answers
-- (`many-refused`, `many-done`); the words of answer i are the numbers of the single question's answer to pair i (`many-asks`), which finds a
-- value or says 12 (`many-found`). No contract cites this file.
use Rattle.std.specs.Prelude.{Option, Some, None, Result, Ok, Err}
use Prim.Native.Nat.{ℕ, zero, suc, ◌+◌, ◌-◌, ◌*◌, ◌/◌, ◌≤◌, ◌<◌}
use native.Mathlib.Omega.{arith}
use mathlib.Core.Path.{◌≡◌, refl, sym, ◌∙◌, ap}
use mathlib.Core.List.{List, ◌++◌}
use mathlib.Core.Bool.{Bool, true, false, cond}
use borrow.Author.Tests.{leb-true}
use lib.ListN.{length, take, drop, get_or, replicate, length-append, length-replicate}
use lib.Seq.{drop_at, drop-drop}
use lib.Dec.{leb}
use Rattle.errors.specs.declared.Refusal.{Refusal}
use Rattle.errors.specs.declared.Refusal.TheVariants.{NothingFound}
use Rattle.errors.proofs.Laws.{pair_numbers_of-unique, first_numbers_of-unique}
use Rattle.records.specs.Words.{pair_width, answer_width, attribute_width, attribute_prefix, attribute_name, attribute_type, attribute_data}
use Rattle.system_types.specs.Names.{Lent}
use Rattle.text.specs.declared.Head.{Head}
use Rattle.head.specs.Head.{tables_in}
use Rattle.first_value.specs.Question.{shared_of, name_is, found_by, find_node, find_value, value_by, FirstReads}
use Rattle.first_value.proofs.Search.{first-shared}
use Rattle.first_values.specs.Pairs.{tag_at, name_at, pairs_of, number_words, answer_to, answers_from, many_asked_by, asks, many_answer, answers_after, ManyReads}
use Rattle.first_values.proofs.Laws.{pairs_of-count, answers_from-length}
use Rattle.errors.specs.declared.FirstValue.{FirstValue}

-- a search that finds nothing says 12
twelve-in : (h : Head) (t : List ℕ) (lent : Lent) (name : List ℕ) (n : ℕ) (w : List ℕ) (x : Refusal) → find_value h t lent name n w ≡ Err x
    → x ≡ NothingFound
unfolding find_value
twelve-in h t lent name zero w x e = let z : NothingFound ≡ x = cc in sym z
twelve-in h t lent name (suc n) w x e =
    go (name_is h t lent name (get_or w attribute_prefix 0) (get_or w attribute_name 0)) e (twelve-in h t lent name n (drop attribute_width w) x)
  where
    go
        : (b : Bool)
        → cond b (found_by (get_or w attribute_type 0) (get_or w attribute_data 0)) (find_value h t lent name n (drop attribute_width w)) ≡ Err x
        → (find_value h t lent name n (drop attribute_width w) ≡ Err x → x ≡ NothingFound)
        → x ≡ NothingFound
    go true q ind = let z : ◌≡◌ {A = ℕ} 0 1 = cc in absurd (let v : ⊥ = omega arith in v)
    go false q ind = ind q

only-twelve : (h : Head) (t : List ℕ) (lent : Lent) (name ats : List ℕ) (node : Option (ℕ × ℕ)) (x : Refusal) → value_by h t lent name ats node ≡ Err x
    → x ≡ NothingFound
only-twelve h t lent name ats None x e = let z : NothingFound ≡ x = cc in sym z
only-twelve h t lent name ats (Some (first, number)) x e = twelve-in h t lent name number (drop (attribute_width * first) ats) x e

-- the words of answer i, whatever follows all of them
answer_at
    : (ask : List ℕ → List ℕ → Result FirstValue Refusal) (area z : List ℕ) (i n : ℕ) (w : List ℕ) → i < n
    → take answer_width (drop (answer_width * i) (answers_from ask area n w ++ z)) ≡ answer_to (ask (tag_at w area i) (name_at w area i))
unfolding answers_from
answer_at ask area z i zero w h = absurd (let v : ⊥ = omega (arith, h) in v)
answer_at ask area z zero (suc n) w h = refl
answer_at ask area z (suc i) (suc n) w h =
    let e : answer_width * suc i ≡ answer_width + answer_width * i = omega arith in
    let d : pair_width * suc i ≡ pair_width + pair_width * i = omega arith in
    let l : List ℕ = answers_from ask area (suc n) w ++ z in
    let a : drop (answer_width * suc i) l ≡ drop (answer_width * i) (drop answer_width l) =
    ap (λ (m : ℕ). drop m l) e ∙ sym (drop-drop (answer_width * i) answer_width l) in
    let b : drop (pair_width * suc i) w ≡ drop (pair_width * i) (drop pair_width w) =
    ap (λ (m : ℕ). drop m w) d ∙ sym (drop-drop (pair_width * i) pair_width w) in
    ap (take answer_width) a ∙ answer_at ask area z i n (drop pair_width w) (omega (arith, h)) ∙ rw b

module _ (f : List ℕ) (lent : Lent) (ns ats pairs area before : List ℕ) (nodes attributes : ℕ) where
  -- P4
  pub many-unique : {r r' : Result ℕ Refusal} {after after' : List ℕ} → ManyReads f lent ns ats pairs area before nodes attributes r after
      → ManyReads f lent ns ats pairs area before nodes attributes r' after' → (r ≡ r') × (after ≡ after')
  many-unique p q = (pair_numbers_of-unique _ _ (p.answer ∙ sym q.answer), p.list ∙ sym q.list)

  told : {r : Result ℕ Refusal} {after : List ℕ} → ManyReads f lent ns ats pairs area before nodes attributes r after
      → many_answer f lent ns ats nodes attributes pairs area (length before) ≡ r
  told p = sym (pair_numbers_of-unique _ _ p.answer)

  pub many-refused : (x : Refusal) (after : List ℕ) → ManyReads f lent ns ats pairs area before nodes attributes (Err x) after
      → after ≡ replicate (length before) 0
  unfolding answers_after
  many-refused x after p = p.list ∙ rw (told p)

  -- how many were answered: all pairs, and there are places
  answered : {n : ℕ} → many_answer f lent ns ats nodes attributes pairs area (length before) ≡ Ok n
      → (n ≡ length pairs / pair_width) × (answer_width * n ≤ length before)
  unfolding many_answer
  answered {n} e = go (shared_of f lent ns ats nodes attributes) (pairs_of pairs area) refl e
    where
      fits : (k : ℕ) → pairs_of pairs area ≡ Ok k → (b : Bool) → leb k (length before / answer_width) ≡ b
          → cond b (Ok k) (Err (Rattle.errors.specs.declared.Refusal.TheVariants.AnswersFull (length before / answer_width))) ≡ Ok n
          → (n ≡ length pairs / pair_width) × (answer_width * n ≤ length before)
      fits k c false l q = let z : ◌≡◌ {A = ℕ} 0 1 = cc in absurd (let v : ⊥ = omega arith in v)
      fits k c true l q =
          let y : k ≡ n = cc in
          let p = leb-true k (length before / answer_width) l in
          let s = pairs_of-count pairs area c in
          (omega (arith, y, s), omega (arith, y, p))

      go : (x : Result Head Refusal) (y : Result ℕ ℕ) → pairs_of pairs area ≡ y → many_asked_by (length before / answer_width) y x ≡ Ok n
          → (n ≡ length pairs / pair_width) × (answer_width * n ≤ length before)
      go (Err r) y c q = let z : ◌≡◌ {A = ℕ} 0 1 = cc in absurd (let v : ⊥ = omega arith in v)
      go (Ok h) (Err k) c q = let z : ◌≡◌ {A = ℕ} 0 1 = cc in absurd (let v : ⊥ = omega arith in v)
      go (Ok h) (Ok k) c q = fits k c (leb k (length before / answer_width)) refl q

  -- and then the head is open and the tables fit
  opened : {n : ℕ} → many_answer f lent ns ats nodes attributes pairs area (length before) ≡ Ok n
      → (h : Head) × (shared_of f lent ns ats nodes attributes ≡ Ok h)
  unfolding many_answer
  opened {n} e = go (shared_of f lent ns ats nodes attributes) refl e
    where
      go : (x : Result Head Refusal) → shared_of f lent ns ats nodes attributes ≡ x → many_asked_by (length before / answer_width) (pairs_of pairs area) x ≡ Ok n
          → (h : Head) × (shared_of f lent ns ats nodes attributes ≡ Ok h)
      go (Err r) c q = let z : ◌≡◌ {A = ℕ} 0 1 = cc in absurd (let v : ⊥ = omega arith in v)
      go (Ok h) c q = (h, c)

  module _ (n : ℕ) (after : List ℕ) (p : ManyReads f lent ns ats pairs area before nodes attributes (Ok n) after) where
    abbrev words : List ℕ
    words = answers_from (asks f lent ns ats nodes attributes) area n pairs

    list : after ≡ words ++ replicate (length before - answer_width * n) 0
    unfolding answers_after
    list =
        p.list ∙ rw (told p)
        (ap (λ (k : ℕ). answers_from (asks f lent ns ats nodes attributes) area k pairs ++ replicate (length before - answer_width * n) 0)
        (sym (answered (told p)).0))

    long : length words ≡ answer_width * n
    long = answers_from-length (asks f lent ns ats nodes attributes) area n pairs

    -- the pairs that there are, each with a place, and zeros behind
    pub many-done : (n ≡ length pairs / pair_width) × (answer_width * n ≤ length before) × (length after ≡ length before)
        × (drop (answer_width * n) after ≡ replicate (length before - answer_width * n) 0)
    many-done =
        let a = answered (told p) in
        let l : length after ≡ length before =
        ap length list ∙ length-append words (replicate (length before - answer_width * n) 0)
        ∙ rw (long, length-replicate {A = ℕ} (length before - answer_width * n) 0) (omega (arith, a.1)) in
        (a.0, a.1, l, ap (drop (answer_width * n)) list ∙ drop_at words (replicate (length before - answer_width * n) 0) (answer_width * n) long)

    -- answer i is that of the single question to pair i
    pub many-asks : (i : ℕ) → i < n → (a : Result FirstValue Refusal) → FirstReads f lent ns ats (tag_at pairs area i) (name_at pairs area i) nodes attributes a
        → take answer_width (drop (answer_width * i) after) ≡ answer_to a
    many-asks i h a q =
        ap (λ (l : List ℕ). take answer_width (drop (answer_width * i) l)) list
        ∙ answer_at (asks f lent ns ats nodes attributes) area (replicate (length before - answer_width * n) 0) i n pairs h
        ∙ ap number_words (sym q.answer)

    -- which says 12 or finds a value: what refuses any question would have refused the call
    pub many-found : (tag name : List ℕ) (x : Refusal) → FirstReads f lent ns ats tag name nodes attributes (Err x) → x ≡ NothingFound
    many-found tag name x q =
        let s = opened (told p) in
        let e = first_numbers_of-unique _ _ q.answer ∙ first-shared f lent ns ats tag name nodes attributes s.1 in
        only-twelve s.0 (tables_in f s.0) lent name ats (find_node s.0 (tables_in f s.0) lent tag nodes ns) x (sym e)
