-- Laws of specs/Pairs.antt, for this crate. No contract cites this file.
-- In order: a pair by the words at its place (`words-..`), the tag of the one before it (`repeats-before`), pair by pair whether it lies inside (`pairsFrom-..`, `pairsOf-..`), the answers one
-- behind the other (`answersFrom-..`, `answers-put`), the node of a pair (`node-..`), what is left behind (`gives-..`), and the call by whether
-- the file is open (`many-open`, `many-closed`).
use Rattle.std.specs.Prelude.{Option, Result, Ok, Err}
use Prim.Native.Nat.{ℕ, zero, suc, ◌+◌, ◌-◌, ◌*◌, ◌/◌, ◌%◌, ◌≤◌, ◌<◌}
use native.Mathlib.Omega.{arith}
use mathlib.Core.Path.{◌≡◌, refl, sym, ◌∙◌, ap}
use mathlib.Core.List.{List, [], ◌++◌}
use mathlib.Core.Bool.{Bool, true, false, cond}
use borrow.Author.Tests.{le-leb, lt-leb, eq-eqb, ne_eqb}
use lib.ListN.{length, take, drop, get_or, replicate, length-append, length-drop}
use lib.Seq.{drop-drop, get_or-drop, take_at, drop-append-add}
use lib.Dec.{eqb}
use Rattle.errors.specs.Refusal.{first_numbers_of, pair_numbers_of}
use Rattle.errors.specs.declared.Refusal.{Refusal}
use Rattle.errors.specs.declared.Refusal.TheVariants.{PairsError, AnswersFull}
use Rattle.errors.specs.declared.FirstNumbers.{FirstNumbers}
use Rattle.head.specs.Head.{tables_in}
use Rattle.head.proofs.Zeros.{zero-behind}
use Rattle.items.specs.Items.{part_in}
use Rattle.records.specs.Words.{pair_width, pair_tag, pair_tag_length, pair_name, pair_name_length, answer_width}
use Rattle.records.proofs.Places.{drop-record}
use Rattle.utf.specs.Text.{eq_bytes}
use Rattle.utf.proofs.Equal.{eq_bytes-true}
use Rattle.system_types.specs.Names.{Lent}
use Rattle.text.specs.declared.Head.{Head}
use Rattle.first_value.specs.Question.{shared_of, value_by}
use Rattle.first_value.proofs.Search.{first-shared}
use Rattle.first_values.specs.Pairs.{is_inside, pair_inside, tag_in, name_in, tag_at, name_at, pairs_from, pairs_of, number_words, answer_to, answers_from, many_by}
use Rattle.first_values.specs.Pairs.{asks, many_answer, answers_after, ManyReads}
use Rattle.first_values.specs.Inner.Known.{finds_in, asks_in, NodeOf, Repeats, Gives}
use Rattle.errors.specs.declared.FirstValue.{FirstValue}

-- ---- a pair by the words at its place

module _ (area w : List ℕ) (k : ℕ) where
  word : (n : ℕ) → get_or w (pair_width * k + n) 0 ≡ get_or (drop (pair_width * k) w) n 0
  word n = sym (get_or-drop (pair_width * k) w n 0)

  pub words-tag : {s : List ℕ} → s ≡ part_in area (get_or w (pair_width * k + pair_tag) 0) (get_or w (pair_width * k + pair_tag_length) 0) → s ≡ tag_at w area k
  words-tag e = e ∙ rw (word pair_tag, word pair_tag_length)

  pub words-name : {s : List ℕ} → s ≡ part_in area (get_or w (pair_width * k + pair_name) 0) (get_or w (pair_width * k + pair_name_length) 0) → s ≡ name_at w area k
  words-name e = e ∙ rw (word pair_name, word pair_name_length)

  pub words-outside
      : {b : Bool} → b ≡ is_inside area (get_or w (pair_width * k + pair_tag) 0) (get_or w (pair_width * k + pair_tag_length) 0) → b ≡ false
      → false ≡ pair_inside area (drop (pair_width * k) w)
  words-outside e q =
      let e' : is_inside area (get_or (drop (pair_width * k) w) pair_tag 0) (get_or (drop (pair_width * k) w) pair_tag_length 0) ≡ false =
      rw (← word pair_tag, ← word pair_tag_length) (sym e ∙ q) in
      rw e'

  pub words_inside
      : {a b : Bool} → a ≡ is_inside area (get_or w (pair_width * k + pair_tag) 0) (get_or w (pair_width * k + pair_tag_length) 0) → a ≡ true
      → b ≡ is_inside area (get_or w (pair_width * k + pair_name) 0) (get_or w (pair_width * k + pair_name_length) 0)
      → b ≡ pair_inside area (drop (pair_width * k) w)
  words_inside e q f =
      let e' : is_inside area (get_or (drop (pair_width * k) w) pair_tag 0) (get_or (drop (pair_width * k) w) pair_tag_length 0) ≡ true =
      rw (← word pair_tag, ← word pair_tag_length) (sym e ∙ q) in
      f ∙ rw (e', word pair_name, word pair_name_length)

-- the tag of the pair before it
pub repeats-before : (pairs area : List ℕ) (k : ℕ) {s s' : List ℕ} {b : Bool} → 1 ≤ k → s ≡ tag_at pairs area k → s' ≡ tag_at pairs area (k - 1)
    → b ≡ eq_bytes s s' → b ≡ true → Repeats pairs area k
repeats-before pairs area k {s} {s'} p e f g q =
    record { before = k - 1; next = (let z : k ≡ k - 1 + 1 = omega (arith, p) in z); same = sym e ∙ eq_bytes-true s s' (sym g ∙ q) ∙ f }

-- ---- whether all lie inside

module _ (area : List ℕ) (left n : ℕ) (w : List ℕ) (k : ℕ) where
  pub pairs_from-end : n ≤ k → pairs_from area left k (n - k) (drop (pair_width * k) w) ≡ cond (eqb left 0) (Ok k) (Err k)
  unfolding pairs_from
  pairs_from-end p = let e : n - k ≡ 0 = omega arith in rw e

  pairs_from-step
      : k < n
      → pairs_from area left k (n - k) (drop (pair_width * k) w)
      ≡ cond (pair_inside area (drop (pair_width * k) w)) (pairs_from area left (k + 1) (n - (k + 1)) (drop (pair_width * (k + 1)) w)) (Err k)
  unfolding pairs_from
  pairs_from-step p = let e : n - k ≡ suc (n - (k + 1)) = omega arith in rw (e, drop-record pair_width k w)

  pub pairs_from-bad : {b : Bool} → k < n → b ≡ pair_inside area (drop (pair_width * k) w) → b ≡ false
      → pairs_from area left k (n - k) (drop (pair_width * k) w) ≡ Err k
  pairs_from-bad p e q = pairs_from-step p ∙ rw (← e, q)

  pub pairs_from-next : {b : Bool} → k < n → b ≡ pair_inside area (drop (pair_width * k) w) → b ≡ true
      → pairs_from area left k (n - k) (drop (pair_width * k) w) ≡ pairs_from area left (k + 1) (n - (k + 1)) (drop (pair_width * (k + 1)) w)
  pairs_from-next p e q = pairs_from-step p ∙ rw (← e, q)

  -- behind the last pair
  pub pairs_from-left : n ≤ k → k ≤ n → (left ≡ 0 → ⊥) → pairs_from area left k (n - k) (drop (pair_width * k) w) ≡ Err n
  pairs_from-left p q z = pairs_from-end p ∙ rw (ne_eqb left 0 z) (ap Err (let e : k ≡ n = omega arith in e))

  pub pairs_from-whole : n ≤ k → k ≤ n → left ≡ 0 → pairs_from area left k (n - k) (drop (pair_width * k) w) ≡ Ok n
  pairs_from-whole p q z = pairs_from-end p ∙ rw (eq-eqb left 0 z) (ap Ok (let e : k ≡ n = omega arith in e))

-- what all pairs say
pub pairs_of-by : (pairs area : List ℕ) {n : ℕ} {x : Result ℕ ℕ} → n ≡ length pairs / pair_width
    → pairs_from area (length pairs % pair_width) 0 n pairs ≡ x → x ≡ pairs_of pairs area
unfolding pairs_of
pairs_of-by pairs area e f = sym f ∙ ap (λ (m : ℕ). pairs_from area (length pairs % pair_width) 0 m pairs) e

-- where all are good, there are as many as were counted
pairs_from-count : (area : List ℕ) (left k n : ℕ) (w : List ℕ) {m : ℕ} → pairs_from area left k n w ≡ Ok m → m ≡ k + n
unfolding pairs_from
pairs_from-count area left k zero w {m} e = go (eqb left 0) e
  where
    go : (b : Bool) → cond b (Ok k) (Err k) ≡ Ok m → m ≡ k + 0
    go true q = let z : k ≡ m = cc in omega (arith, z)
    go false q = let z : ◌≡◌ {A = ℕ} 0 1 = cc in absurd (let v : ⊥ = omega arith in v)
pairs_from-count area left k (suc n) w {m} e = go (pair_inside area w) e (pairs_from-count area left (k + 1) n (drop pair_width w))
  where
    go
        : (b : Bool)
        → cond b (pairs_from area left (k + 1) n (drop pair_width w)) (Err k) ≡ Ok m
        → (pairs_from area left (k + 1) n (drop pair_width w) ≡ Ok m → m ≡ k + 1 + n)
        → m ≡ k + suc n
    go true q ind = let z = ind q in omega (arith, z)
    go false q ind = let z : ◌≡◌ {A = ℕ} 0 1 = cc in absurd (let v : ⊥ = omega arith in v)

pub pairs_of-count : (pairs area : List ℕ) {n : ℕ} → pairs_of pairs area ≡ Ok n → n ≡ length pairs / pair_width
unfolding pairs_of
pairs_of-count pairs area {n} e = let z = pairs_from-count area (length pairs % pair_width) 0 (length pairs / pair_width) pairs e in omega (arith, z)

-- ---- the answers one behind the other

module _ (ask : List ℕ → List ℕ → Result FirstValue Refusal) (area : List ℕ) where
  pub answers_from-length : (n : ℕ) (w : List ℕ) → length (answers_from ask area n w) ≡ answer_width * n
  unfolding answers_from
  answers_from-length zero w = refl
  answers_from-length (suc n) w = omega (arith, answers_from-length n (drop pair_width w))

  answers_from-last
      : (k : ℕ) (w : List ℕ)
      → answers_from ask area (suc k) w ≡ answers_from ask area k w ++ answer_to (ask (tag_at w area k) (name_at w area k))
  unfolding answers_from
  answers_from-last zero w = refl
  answers_from-last (suc k) w =
      let d : drop (pair_width * k) (drop pair_width w) ≡ drop (pair_width * suc k) w =
      drop-drop (pair_width * k) pair_width w ∙ ap (λ (n : ℕ). drop n w) (let e : pair_width + pair_width * k ≡ pair_width * suc k = omega arith in e) in
      ap (λ (l : List ℕ). answer_to (ask (tag_in area w) (name_in area w)) ++ l) (answers_from-last k (drop pair_width w) ∙ rw d)

  -- the words of the next answer put behind those of k pairs
  pub answers-put
      : (w before l l' : List ℕ) (k : ℕ) {ws : List ℕ}
      → l ≡ answers_from ask area k w ++ drop (answer_width * k) before
      → l' ≡ take (answer_width * k) l ++ ws ++ drop (answer_width * k + answer_width) l
      → ws ≡ answer_to (ask (tag_at w area k) (name_at w area k))
      → l' ≡ answers_from ask area (k + 1) w ++ drop (answer_width * (k + 1)) before
  answers-put w before l l' k {ws} e f g =
      let n : length (answers_from ask area k w) ≡ answer_width * k = answers_from-length k w in
      let t : take (answer_width * k) l ≡ answers_from ask area k w =
      ap (take (answer_width * k)) e ∙ take_at (answers_from ask area k w) (drop (answer_width * k) before) (answer_width * k) n in
      let d : drop (answer_width * k + answer_width) l ≡ drop (answer_width * (k + 1)) before =
      ap (λ (m : ℕ). drop (m + answer_width) l) (sym n) ∙ ap (drop (length (answers_from ask area k w) + answer_width)) e
      ∙ drop-append-add (answers_from ask area k w) (drop (answer_width * k) before) answer_width ∙ drop-record answer_width k before in
      let s : answers_from ask area (k + 1) w ≡ answers_from ask area k w ++ ws =
      ap (λ (m : ℕ). answers_from ask area m w) (let z : k + 1 ≡ suc k = omega arith in z) ∙ answers_from-last k w
      ∙ ap (λ (x : List ℕ). answers_from ask area k w ++ x) (sym g) in
      f ∙ rw (t, d, s)

  -- a list as long as before
  pub answers-long : (w before l : List ℕ) (k : ℕ) → answer_width * k ≤ length before → l ≡ answers_from ask area k w ++ drop (answer_width * k) before
      → length l ≡ length before
  answers-long w before l k p e =
      ap length e ∙ length-append (answers_from ask area k w) (drop (answer_width * k) before)
      ∙ rw (answers_from-length k w, length-drop (answer_width * k) before) (omega (arith, p))

  -- all of them
  pub answers-all : (w before l : List ℕ) {k n : ℕ} → l ≡ answers_from ask area k w ++ drop (answer_width * k) before → k ≡ n
      → l ≡ answers_from ask area n w ++ drop (answer_width * n) before
  answers-all w before l e q = e ∙ ap (λ (m : ℕ). answers_from ask area m w ++ drop (answer_width * m) before) q

-- the words of an answer, by what the search gave
pub answer-words
    : (h : Head) (t : List ℕ) (lent : Lent) (ns : List ℕ) (nodes : ℕ) (ats pairs area : List ℕ) (k : ℕ) {node : Option (ℕ × ℕ)} {name : List ℕ}
    {value : Result FirstValue Refusal} {numbers : FirstNumbers}
    → node ≡ finds_in h t lent ns nodes (tag_at pairs area k)
    → name ≡ name_at pairs area k
    → value ≡ value_by h t lent name ats node
    → numbers ≡ first_numbers_of value
    → number_words numbers ≡ answer_to (asks_in h t lent ns nodes ats (tag_at pairs area k) (name_at pairs area k))
answer-words h t lent ns nodes ats pairs area k e f g q = ap number_words (q ∙ ap first_numbers_of (g ∙ rw (e, f)))

pub answers_from-same
    : (f g : List ℕ → List ℕ → Result FirstValue Refusal) → ((tag name : List ℕ) → f tag name ≡ g tag name)
    → (area : List ℕ) (n : ℕ) (w : List ℕ) → answers_from f area n w ≡ answers_from g area n w
unfolding answers_from
answers_from-same f g e area zero w = refl
answers_from-same f g e area (suc n) w = rw (e (tag_in area w) (name_in area w), answers_from-same f g e area n (drop pair_width w))

-- ---- the node of a pair

-- nothing is known before the first
pub node-none : (find : List ℕ → Option (ℕ × ℕ)) (pairs area : List ℕ) (run : Option (ℕ × ℕ)) → NodeOf find pairs area 0 run
node-none find pairs area run = record { known = λ j e. absurd (let z : ⊥ = omega (arith, e) in z) }

pub node-next : (find : List ℕ → Option (ℕ × ℕ)) (pairs area : List ℕ) (k : ℕ) (run : Option (ℕ × ℕ)) → run ≡ find (tag_at pairs area k)
    → NodeOf find pairs area (k + 1) run
node-next find pairs area k run e =
    record { known = λ j q. e ∙ ap (λ (x : ℕ). find (tag_at pairs area x)) (let z : k ≡ j = omega (arith, q) in z) }

pub node-repeats : (find : List ℕ → Option (ℕ × ℕ)) (pairs area : List ℕ) (k : ℕ) (run : Option (ℕ × ℕ)) → NodeOf find pairs area k run
    → Repeats pairs area k → run ≡ find (tag_at pairs area k)
node-repeats find pairs area k run o r = o.known r.before r.next ∙ ap find (sym r.same)

-- ---- what is left behind

-- all answers, what stood behind them, and then zeros there
pub gives-answers
    : (words before l after : List ℕ) (n : ℕ)
    → length words ≡ answer_width * n
    → n ≤ length before / answer_width
    → l ≡ words ++ drop (answer_width * n) before
    → after ≡ take (answer_width * n) l ++ replicate (length l - answer_width * n) 0
    → Gives (length before) words (many_by (length before / answer_width) (Ok n)) (Ok n) after
gives-answers words before l after n w p e z =
    let fits : answer_width * n ≤ length before = omega arith in
    let z' = zero-behind words before l after (answer_width * n) (omega (arith, w, fits)) (sym w) (e ∙ rw w) z in
    let y : after ≡ words ++ replicate (length before - answer_width * n) 0 = z' ∙ rw w in
    record { same = rw (le-leb n (length before / answer_width) p); list = rw (le-leb n (length before / answer_width) p) y }

-- with fewer places than pairs
pub gives-full
    : (m n : ℕ) (words after : List ℕ) {r : Result ℕ Refusal}
    → m / answer_width < n
    → Gives m words (Err (AnswersFull (m / answer_width))) r after
    → Gives m words (many_by (m / answer_width) (Ok n)) r after
gives-full m n words after p g = rw (lt-leb n (m / answer_width) p) g

-- the pairs read
pub gives_whole
    : (ask : List ℕ → List ℕ → Result FirstValue Refusal) (pairs area : List ℕ) (m : ℕ) (after : List ℕ) {r : Result ℕ Refusal} {x : Result ℕ ℕ} {n : ℕ}
    → x ≡ pairs_of pairs area
    → x ≡ Ok n
    → Gives m (answers_from ask area n pairs) (many_by (m / answer_width) (Ok n)) r after
    → Gives m (answers_from ask area (length pairs / pair_width) pairs) (many_by (m / answer_width) (pairs_of pairs area)) r after
gives_whole ask pairs area m after e q g =
    let c = pairs_of-count pairs area (sym e ∙ q) in
    rw (sym e ∙ q, ← c) g

pub gives-bad
    : (pairs area words : List ℕ) (m : ℕ) (after : List ℕ) {r : Result ℕ Refusal} {x : Result ℕ ℕ} {k : ℕ}
    → x ≡ pairs_of pairs area
    → x ≡ Err k
    → Gives m words (Err (PairsError k)) r after
    → Gives m words (many_by (m / answer_width) (pairs_of pairs area)) r after
gives-bad pairs area words m after e q g = rw (sym e ∙ q) g

-- ---- the call

module _ (f : List ℕ) (lent : Lent) (ns ats pairs area before : List ℕ) (nodes attributes : ℕ) (r : Result ℕ Refusal) (after : List ℕ) where
  pub many-open
      : {h : Head} {t : List ℕ}
      → shared_of f lent ns ats nodes attributes ≡ Ok h
      → t ≡ tables_in f h
      → Gives (length before) (answers_from (asks_in h t lent ns nodes ats) area (length pairs / pair_width) pairs)
      (many_by (length before / answer_width) (pairs_of pairs area)) r after
      → ManyReads f lent ns ats pairs area before nodes attributes r after
  unfolding many_answer answers_after
  many-open {h} {t} e q g =
      let s : answers_from (asks_in h t lent ns nodes ats) area (length pairs / pair_width) pairs
      ≡ answers_from (asks f lent ns ats nodes attributes) area (length pairs / pair_width) pairs =
      answers_from-same (asks_in h t lent ns nodes ats) (asks f lent ns ats nodes attributes)
      (λ tag name. ap (λ (u : List ℕ). asks_in h u lent ns nodes ats tag name) q ∙ sym (first-shared f lent ns ats tag name nodes attributes e))
      area (length pairs / pair_width) pairs in
      record { answer = rw e (ap pair_numbers_of g.same); list = rw (e, ← s) g.list }

  pub many-closed
      : {why : Refusal}
      → shared_of f lent ns ats nodes attributes ≡ Err why
      → ((words : List ℕ) → Gives (length before) words (Err why) r after)
      → ManyReads f lent ns ats pairs area before nodes attributes r after
  unfolding many_answer answers_after
  many-closed e g = record { answer = rw e (ap pair_numbers_of (g []).same); list = rw e (g []).list }
