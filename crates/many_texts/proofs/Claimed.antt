-- What follows from the promises of specs/Many.antt. No contract cites this file.
-- In order: two results that they allow are equal (`values-unique`, `texts-unique`); a refusal leaves zeros alone (`..-refused-zeros`), an
-- answer zeros behind its texts and words (`..-done-zeros`); each answer is that of the single question (`values-single`, `texts-single`).
use Rattle.std.specs.Prelude.{Result, Ok, Err}
use Prim.Native.Nat.{ℕ, zero, suc, ◌+◌, ◌-◌, ◌*◌, ◌/◌, ◌≤◌, ◌<◌, min}
use native.Mathlib.Omega.{arith}
use mathlib.Core.Path.{◌≡◌, refl, sym, ap, ◌∙◌}
use mathlib.Core.List.{List, [], ◌++◌, append-nil, append_assoc}
use mathlib.Core.Bool.{Bool, true, false, cond}
use borrow.Author.Tests.{eqb-true, eqb-false, ltb-true, ltb-false}
use lib.ListN.{length, take, drop, get_or, replicate}
use lib.Seq.{drop-append_seam, drop_at, take-append_seam, take_at, get_or-take, get_or-drop}
use lib.Dec.{eqb, ltb, leb}
use Rattle.errors.specs.Refusal.{state_of, replaced_of, refusal_number, text_numbers_of, value_numbers_of}
use Rattle.errors.specs.declared.Refusal.{Refusal}
use Rattle.errors.specs.declared.Refusal.TheVariants.{TextShort, TablesError, AnswersFull}
use Rattle.errors.specs.declared.TextState.{TextState}
use Rattle.errors.proofs.Laws.{many_numbers_of-unique}
use Rattle.digits.specs.Written.{fitted}
use Rattle.records.specs.Words.{attribute_width}
use Rattle.many_texts.specs.Words.{answer_width, answer_refusal, answer_start, answer_length, answer_uncovered, answer_state, answer_replaced, answer_words}
use Rattle.system_types.specs.Names.{Lent}
use Rattle.text.specs.Content.{Content, none, cut, some, content_of, text_in, damage_in}
use Rattle.head.specs.Head.{tables_in}
use Rattle.head.specs.Ask.{open_of, state_told, fitted as fits, text_by, content_asked_by as content_by, text_answer_by, text_answer, buffer_by as buffered, text_buffer}
use Rattle.value_text.specs.Value.{Value, no_name, no_text, shows, shown, attribute_value, value_open}
use Rattle.value_text.specs.Value.{answer_by, buffer_by, answer_in, buffer_in, value_answer, value_buffer}
use Rattle.many_texts.specs.Single.{IsPart}
use Rattle.many_texts.specs.Many.{value_asked_by, value_in, attribute_at, words_at, texts_to, words_to, many_by, most_bytes, most_count, leaves}
use Rattle.many_texts.specs.Many.{value_one, values_by, values_answer, ReadsValues, text_one, texts_by, texts_answer, ReadsTexts}
use Rattle.many_texts.proofs.Going.{words_at-length, length-words}
use Rattle.errors.specs.declared.TextsWritten.{TextsWritten}
use Rattle.text.specs.declared.Head.{Head}

-- ---- one answer

pub values-unique :
    (f : List ℕ) (lent : Lent) (items area ats out₀ table₀ : List ℕ) (count : ℕ) {r r' : Result TextsWritten Refusal} {out out' table table' : List ℕ} →
    ReadsValues f lent items area ats out₀ table₀ count r out table →
    ReadsValues f lent items area ats out₀ table₀ count r' out' table' →
    (r ≡ r') × (out ≡ out') × (table ≡ table')
values-unique f lent items area ats out₀ table₀ count {r} {r'} x y =
    (many_numbers_of-unique r r' (x.answer ∙ sym y.answer), x.bytes ∙ sym y.bytes, x.words ∙ sym y.words)

pub texts-unique :
    (f : List ℕ) (lent : Lent) (indices out₀ table₀ : List ℕ) {r r' : Result TextsWritten Refusal} {out out' table table' : List ℕ} →
    ReadsTexts f lent indices out₀ table₀ r out table →
    ReadsTexts f lent indices out₀ table₀ r' out' table' →
    (r ≡ r') × (out ≡ out') × (table ≡ table')
texts-unique f lent indices out₀ table₀ {r} {r'} x y =
    (many_numbers_of-unique r r' (x.answer ∙ sym y.answer), x.bytes ∙ sym y.bytes, x.words ∙ sym y.words)

-- ---- zeros

-- what is told of an answer: it is that of all questions, and their texts
pub record Tells (count : ℕ) (one : ℕ → Value) (k b : ℕ) : Type 0 where
  pub all : k ≡ count
  pub long : b ≡ length (texts_to one count)

tells-many : (count : ℕ) (one : ℕ → Value) (room places k b : ℕ) → many_by count one room places ≡ Ok (record { count = k; length = b }) → Tells count one k b
unfolding many_by
tells-many count one room places k b e = go (ltb places count) (leb (length (texts_to one count)) (min room most_bytes)) e
  where
    go :
        (x y : Bool) →
        cond {A = Result TextsWritten Refusal} x (Err (AnswersFull places))
        (cond y (Ok (record { count = count; length = length (texts_to one count) })) (Err (TextShort (min (length (texts_to one count)) most_count)))) ≡ Ok (record { count = k; length = b }) →
        Tells count one k b
    go true y q = let z : ◌≡◌ {A = ℕ} 0 1 = cc in absurd (let w : ⊥ = omega arith in w)
    go false false q = let z : ◌≡◌ {A = ℕ} 0 1 = cc in absurd (let w : ⊥ = omega arith in w)
    go false true q =
        let both : ◌≡◌ {A = TextsWritten} (record { count = k; length = b }) (record { count = count; length = length (texts_to one count) }) = cc in
        record { all = ap (λ (y : TextsWritten). y.count) both; long = ap (λ (y : TextsWritten). y.length) both }

-- both outputs behind the last text and the last answer
pub record ZerosBehind (n m k b : ℕ) (out table : List ℕ) : Type 0 where
  pub bytes : drop b out ≡ replicate (n - b) 0
  pub words : drop (answer_width * k) table ≡ replicate (m - answer_width * k) 0

zeros-behind :
    (n m count : ℕ) (one : ℕ → Value) {k b : ℕ} {out table : List ℕ} →
    Tells count one k b →
    out ≡ texts_to one count ++ replicate (n - length (texts_to one count)) 0 →
    table ≡ words_to one count ++ replicate (m - length (words_to one count)) 0 →
    ZerosBehind n m k b out table
zeros-behind n m count one {k} {b} {out} {table} t p q =
    record {
      bytes = ap (drop b) p ∙ rw (t.long, drop-append_seam);
      words =
          ap (drop (answer_width * k)) q
          ∙ drop_at (words_to one count) (replicate (m - length (words_to one count)) 0) (answer_width * k)
          (length-words one count ∙ ap (λ (x : ℕ). answer_width * x) (sym t.all))
          ∙ ap (λ (x : ℕ). replicate (m - x) 0) (length-words one count ∙ ap (λ (x : ℕ). answer_width * x) (sym t.all));
    }

-- ---- a part of what was put one behind the other

lt_of_ne : (i n : ℕ) → i < suc n → (i ≡ n → ⊥) → i < n
lt_of_ne i n h d = go (ltb i n) refl
  where
    go : (t : Bool) → ltb i n ≡ t → i < n
    go true e = ltb-true i n e
    go false e = absurd (d (let l : n ≤ i = ltb-false i n e in omega arith))

module _ (F G : ℕ → List ℕ) (step : (n : ℕ) → F (suc n) ≡ F n ++ G n) where
  pub split : (i n : ℕ) → i < n → (rest : List ℕ) × (F n ≡ F i ++ (G i ++ rest))
  split i zero h = absurd (let z : ⊥ = omega arith in z)
  split i (suc n) h = go (eqb i n) refl (λ l. split i n l)
    where
      go : (t : Bool) → eqb i n ≡ t → (i < n → (rest : List ℕ) × (F n ≡ F i ++ (G i ++ rest))) → (rest : List ℕ) × (F (suc n) ≡ F i ++ (G i ++ rest))
      go true e p =
          let q : n ≡ i = sym (eqb-true i n e) in
          ([], step n ∙ ap (λ (k : ℕ). F k ++ G k) q ∙ ap (λ (x : List ℕ). F i ++ x) (sym (append-nil (G i))))
      go false e p =
          let d = eqb-false i n e in
          let r = p (lt_of_ne i n h d) in (
            r.0 ++ G n,
            step n ∙ ap (λ (x : List ℕ). x ++ G n) r.1 ∙ append_assoc (F i) (G i ++ r.0) (G n)
                ∙ ap (λ (x : List ℕ). F i ++ x) (append_assoc (G i) r.0 (G n)),
          )

-- the words and the text of question i
pub record PartAt (v : Value) (start i : ℕ) (out table : List ℕ) : Type 0 where
  pub words : take answer_width (drop (answer_width * i) table) ≡ words_at start v
  pub text : take (length (shown v)) (drop start out) ≡ shown v

part_at :
    (count : ℕ) (one : ℕ → Value) (i : ℕ) (zs ys : List ℕ) {out table : List ℕ} →
    i < count →
    out ≡ texts_to one count ++ zs →
    table ≡ words_to one count ++ ys →
    PartAt (one i) (length (texts_to one i)) i out table
unfolding texts_to words_to
part_at count one i zs ys {out} {table} h p q =
    let a = split (texts_to one) (λ n. shown (one n)) (λ n. refl) i count h in
    let b = split (words_to one) (λ n. words_at (length (texts_to one n)) (one n)) (λ n. refl) i count h in
    let s = shown (one i) in
    let w = words_at (length (texts_to one i)) (one i) in
    let c : out ≡ texts_to one i ++ (s ++ (a.0 ++ zs)) =
    p ∙ ap (λ (x : List ℕ). x ++ zs) a.1 ∙ append_assoc (texts_to one i) (s ++ a.0) zs
    ∙ ap (λ (x : List ℕ). texts_to one i ++ x) (append_assoc s a.0 zs) in
    let d : table ≡ words_to one i ++ (w ++ (b.0 ++ ys)) =
    q ∙ ap (λ (x : List ℕ). x ++ ys) b.1 ∙ append_assoc (words_to one i) (w ++ b.0) ys
    ∙ ap (λ (x : List ℕ). words_to one i ++ x) (append_assoc w b.0 ys) in
    record {
      words =
          ap (λ (x : List ℕ). take answer_width (drop (answer_width * i) x)) d
          ∙ ap (take answer_width) (drop_at (words_to one i) (w ++ (b.0 ++ ys)) (answer_width * i) (length-words one i))
          ∙ take_at w (b.0 ++ ys) answer_width (words_at-length (length (texts_to one i)) (one i));
      text =
          ap (λ (x : List ℕ). take (length s) (drop (length (texts_to one i)) x)) c
          ∙ ap (take (length s)) (drop-append_seam (texts_to one i) (s ++ (a.0 ++ zs))) ∙ take-append_seam s (a.0 ++ zs);
    }

-- its words are those of the single question, wherever that has room
word_at : (i j : ℕ) (ws table : List ℕ) → take answer_width (drop (answer_width * i) table) ≡ ws → j < answer_width → get_or table (answer_width * i + j) 0 ≡ get_or ws j 0
word_at i j ws table e h =
    sym (get_or-drop (answer_width * i) table j 0) ∙ sym (get_or-take answer_width (drop (answer_width * i) table) j 0 h) ∙ ap (λ (x : List ℕ). get_or x j 0) e

module _ (start i : ℕ) (out table : List ℕ) where
  -- an answer without a text
  part_none :
      (number : ℕ) (buffer : List ℕ) →
      take answer_width (drop (answer_width * i) table) ≡ answer_words number 0 0 0 0 0 →
      IsPart number 0 0 0 0 buffer i out table
  part_none number buffer e =
      record {
        number = word_at i answer_refusal (answer_words number 0 0 0 0 0) table e (omega arith);
        long = word_at i answer_length (answer_words number 0 0 0 0 0) table e (omega arith);
        bits = word_at i answer_uncovered (answer_words number 0 0 0 0 0) table e (omega arith);
        damage = word_at i answer_state (answer_words number 0 0 0 0 0) table e (omega arith);
        count = word_at i answer_replaced (answer_words number 0 0 0 0 0) table e (omega arith);
        text = refl;
      }

  -- one with a text, which stands in a buffer too
  part-some :
      (u : ℕ) (d : TextState) (s zs : List ℕ) →
      PartAt (shows s u d) start i out table →
      IsPart 0 (length s) u (state_of d) (replaced_of d) (s ++ zs) i out table
  part-some u d s zs p =
      let e = p.words in
      let w = answer_words 0 start (length s) u (state_of d) (replaced_of d) in
      record {
        number = word_at i answer_refusal w table e (omega arith);
        long = word_at i answer_length w table e (omega arith);
        bits = word_at i answer_uncovered w table e (omega arith);
        damage = word_at i answer_state w table e (omega arith);
        count = word_at i answer_replaced w table e (omega arith);
        text =
            ap (λ (k : ℕ). take (length s) (drop k out)) (word_at i answer_start w table e (omega arith)) ∙ p.text ∙ sym (take-append_seam s zs);
      }

  part-is :
      (v : Value) (room kind : ℕ) →
      PartAt v start i out table →
      ((value_numbers_of (answer_by room kind v)).refusal ≡ 11 → ⊥) →
      IsPart (value_numbers_of (answer_by room kind v)).refusal (value_numbers_of (answer_by room kind v)).length
      (value_numbers_of (answer_by room kind v)).uncovered (value_numbers_of (answer_by room kind v)).state
      (value_numbers_of (answer_by room kind v)).replaced (buffer_by room v) i out table
  unfolding value_numbers_of refusal_number fitted
  part-is no_name room kind p c = part_none 12 (replicate room 0) p.words
  part-is no_text room kind p c = part_none 15 (replicate room 0) p.words
  part-is (shows s u d) room kind p c = go (leb (length s) room) c
    where
      go :
          (b : Bool) →
          ((value_numbers_of (cond b (Ok (record { length = (length s); uncovered = u; state = d })) (Err (TextShort (length s))))).refusal ≡ 11 → ⊥) →
          IsPart (value_numbers_of (cond b (Ok (record { length = (length s); uncovered = u; state = d })) (Err (TextShort (length s))))).refusal
          (value_numbers_of (cond b (Ok (record { length = (length s); uncovered = u; state = d })) (Err (TextShort (length s))))).length
          (value_numbers_of (cond b (Ok (record { length = (length s); uncovered = u; state = d })) (Err (TextShort (length s))))).uncovered
          (value_numbers_of (cond b (Ok (record { length = (length s); uncovered = u; state = d })) (Err (TextShort (length s))))).state
          (value_numbers_of (cond b (Ok (record { length = (length s); uncovered = u; state = d })) (Err (TextShort (length s))))).replaced
          (cond b (s ++ replicate (room - length s) 0) (replicate room 0)) i out table
      go true n = part-some u d s (replicate (room - length s) 0) p
      go false n = absurd (n refl)

  -- the same of a string index
  text-fits :
      (room : ℕ) (s : List ℕ) (t : TextState) →
      PartAt (shows s 0 t) start i out table →
      ((text_numbers_of (fits room s t)).refusal ≡ 11 → ⊥) →
      IsPart (text_numbers_of (fits room s t)).refusal (text_numbers_of (fits room s t)).length 0
      (text_numbers_of (fits room s t)).state (text_numbers_of (fits room s t)).replaced (buffered room s (fits room s t)) i out table
  unfolding text_numbers_of refusal_number
  text-fits room s t p c = go (leb (length s) room) c
    where
      go :
          (b : Bool) →
          ((text_numbers_of (cond b (Ok (record { length = (length s); state = t })) (Err (TextShort (length s))))).refusal ≡ 11 → ⊥) →
          IsPart (text_numbers_of (cond b (Ok (record { length = (length s); state = t })) (Err (TextShort (length s))))).refusal
          (text_numbers_of (cond b (Ok (record { length = (length s); state = t })) (Err (TextShort (length s))))).length 0
          (text_numbers_of (cond b (Ok (record { length = (length s); state = t })) (Err (TextShort (length s))))).state
          (text_numbers_of (cond b (Ok (record { length = (length s); state = t })) (Err (TextShort (length s))))).replaced
          (buffered room s (cond b (Ok (record { length = (length s); state = t })) (Err (TextShort (length s))))) i out table
      go true d = part-some 0 t s (replicate (room - length s) 0) p
      go false d = absurd (d refl)

  text-is :
      (c : Content) (room : ℕ) →
      PartAt (value_in c) start i out table →
      ((text_numbers_of (text_by room c)).refusal ≡ 11 → ⊥) →
      IsPart (text_numbers_of (text_by room c)).refusal (text_numbers_of (text_by room c)).length 0
      (text_numbers_of (text_by room c)).state (text_numbers_of (text_by room c)).replaced (buffered room (text_in c) (text_by room c)) i out table
  unfolding text_numbers_of refusal_number
  text-is none room p c = part_none 12 (replicate room 0) p.words
  text-is cut room p c = text-fits room (text_in cut) (state_told (damage_in cut)) p c
  text-is (some w s) room p c = text-fits room (text_in (some w s)) (state_told (damage_in (some w s))) p c

-- ---- of the two promises

module _ (f : List ℕ) (lent : Lent) (items area ats out₀ table₀ : List ℕ) (count : ℕ) (out table : List ℕ) where
  pub values-refused-zeros :
      (why : Refusal) →
      ReadsValues f lent items area ats out₀ table₀ count (Err why) out table →
      (out ≡ replicate (length out₀) 0) × (table ≡ replicate (length table₀) 0)
  values-refused-zeros why x =
      let a = values_answer f lent items area ats count (length out₀) (length table₀) in
      let e : a ≡ Err why = sym (many_numbers_of-unique (Err why) a x.answer) in (
        x.bytes ∙ ap (λ (y : Result TextsWritten Refusal). leaves (length out₀) (texts_to (value_one f lent items area ats) count) y) e,
        x.words ∙ ap (λ (y : Result TextsWritten Refusal). leaves (length table₀) (words_to (value_one f lent items area ats) count) y) e,
      )

  module _ (k b : ℕ) (x : ReadsValues f lent items area ats out₀ table₀ count (Ok (record { count = k; length = b })) out table) where
    values-answered : values_answer f lent items area ats count (length out₀) (length table₀) ≡ Ok (record { count = k; length = b })
    values-answered =
        sym (many_numbers_of-unique (Ok (record { count = k; length = b })) (values_answer f lent items area ats count (length out₀) (length table₀)) x.answer)

    values-tell : Tells count (value_one f lent items area ats) k b
    unfolding values_answer
    values-tell = go (value_open f lent items area) values-answered
      where
        fit :
            (t : Bool) →
            cond t (Err (TablesError count)) (many_by count (value_one f lent items area ats) (length out₀) (length table₀ / answer_width)) ≡ Ok (record { count = k; length = b }) →
            Tells count (value_one f lent items area ats) k b
        fit true e = let z : ◌≡◌ {A = ℕ} 0 1 = cc in absurd (let w : ⊥ = omega arith in w)
        fit false e = tells-many count (value_one f lent items area ats) (length out₀) (length table₀ / answer_width) k b e

        go :
            (o : Result Head Refusal) →
            values_by f lent items area ats count (length out₀) (length table₀) o ≡ Ok (record { count = k; length = b }) →
            Tells count (value_one f lent items area ats) k b
        go (Err r) e = let z : ◌≡◌ {A = ℕ} 0 1 = cc in absurd (let w : ⊥ = omega arith in w)
        go (Ok h) e = fit (ltb (length ats) (attribute_width * count)) e

    values-out : out ≡ texts_to (value_one f lent items area ats) count ++ replicate (length out₀ - length (texts_to (value_one f lent items area ats) count)) 0
    values-out = x.bytes ∙ ap (λ (y : Result TextsWritten Refusal). leaves (length out₀) (texts_to (value_one f lent items area ats) count) y) values-answered

    values-table :
        table ≡ words_to (value_one f lent items area ats) count ++ replicate (length table₀ - length (words_to (value_one f lent items area ats) count)) 0
    values-table = x.words ∙ ap (λ (y : Result TextsWritten Refusal). leaves (length table₀) (words_to (value_one f lent items area ats) count) y) values-answered

    pub values-done-zeros : ZerosBehind (length out₀) (length table₀) k b out table
    values-done-zeros = zeros-behind (length out₀) (length table₀) count (value_one f lent items area ats) values-tell values-out values-table

    pub values_one : (i : ℕ) → i < k → PartAt (value_one f lent items area ats i) (length (texts_to (value_one f lent items area ats) i)) i out table
    values_one i h =
        let e = values-tell.all in
        part_at count (value_one f lent items area ats) i _ _ (omega arith) values-out values-table

    -- of an open file
    values-by :
        (o : Result Head Refusal) (i start room : ℕ) →
        ((r : Refusal) → o ≡ Err r → ⊥) →
        PartAt (value_asked_by f lent items area (attribute_at ats i) o) start i out table →
        ((value_numbers_of (answer_in f lent items area room (attribute_at ats i) o)).refusal ≡ 11 → ⊥) →
        IsPart (value_numbers_of (answer_in f lent items area room (attribute_at ats i) o)).refusal
        (value_numbers_of (answer_in f lent items area room (attribute_at ats i) o)).length
        (value_numbers_of (answer_in f lent items area room (attribute_at ats i) o)).uncovered
        (value_numbers_of (answer_in f lent items area room (attribute_at ats i) o)).state
        (value_numbers_of (answer_in f lent items area room (attribute_at ats i) o)).replaced (buffer_in f lent items area room (attribute_at ats i) o) i out
        table
    values-by (Err r) i start room c p d = absurd (c r refl)
    values-by (Ok h) i start room c p d =
        part-is start i out table (attribute_value h (tables_in f h) lent items area (attribute_at ats i)) room (attribute_at ats i).kind p d

    pub values-single :
        (i room : ℕ) →
        i < k →
        ((value_numbers_of (value_answer f lent items area room (attribute_at ats i))).refusal ≡ 11 → ⊥) →
        IsPart (value_numbers_of (value_answer f lent items area room (attribute_at ats i))).refusal
        (value_numbers_of (value_answer f lent items area room (attribute_at ats i))).length
        (value_numbers_of (value_answer f lent items area room (attribute_at ats i))).uncovered
        (value_numbers_of (value_answer f lent items area room (attribute_at ats i))).state
        (value_numbers_of (value_answer f lent items area room (attribute_at ats i))).replaced
        (value_buffer f lent items area room (attribute_at ats i)) i out table
    unfolding value_answer value_buffer values_answer
    values-single i room h d =
        values-by (value_open f lent items area) i (length (texts_to (value_one f lent items area ats) i)) room
        (λ r e.
        let q : Err r ≡ Ok (record { count = k; length = b }) =
        sym (ap (λ (o : Result Head Refusal). values_by f lent items area ats count (length out₀) (length table₀) o) e) ∙ values-answered in
        let z : ◌≡◌ {A = ℕ} 0 1 = cc in
        let w : ⊥ = omega arith in
        w)
        (values_one i h) d

module _ (f : List ℕ) (lent : Lent) (indices out₀ table₀ out table : List ℕ) where
  pub texts-refused-zeros :
      (why : Refusal) →
      ReadsTexts f lent indices out₀ table₀ (Err why) out table →
      (out ≡ replicate (length out₀) 0) × (table ≡ replicate (length table₀) 0)
  texts-refused-zeros why x =
      let a = texts_answer f lent indices (length out₀) (length table₀) in
      let e : a ≡ Err why = sym (many_numbers_of-unique (Err why) a x.answer) in (
        x.bytes ∙ ap (λ (y : Result TextsWritten Refusal). leaves (length out₀) (texts_to (text_one f lent indices) (length indices)) y) e,
        x.words ∙ ap (λ (y : Result TextsWritten Refusal). leaves (length table₀) (words_to (text_one f lent indices) (length indices)) y) e,
      )

  module _ (k b : ℕ) (x : ReadsTexts f lent indices out₀ table₀ (Ok (record { count = k; length = b })) out table) where
    texts-answered : texts_answer f lent indices (length out₀) (length table₀) ≡ Ok (record { count = k; length = b })
    texts-answered = sym (many_numbers_of-unique (Ok (record { count = k; length = b })) (texts_answer f lent indices (length out₀) (length table₀)) x.answer)

    texts-tell : Tells (length indices) (text_one f lent indices) k b
    unfolding texts_answer
    texts-tell = go (open_of f lent) texts-answered
      where
        go : (o : Result Head Refusal) → texts_by f lent indices (length out₀) (length table₀) o ≡ Ok (record { count = k; length = b }) → Tells (length indices) (text_one f lent indices) k b
        go (Err r) e = let z : ◌≡◌ {A = ℕ} 0 1 = cc in absurd (let w : ⊥ = omega arith in w)
        go (Ok h) e = tells-many (length indices) (text_one f lent indices) (length out₀) (length table₀ / answer_width) k b e

    texts-out : out ≡ texts_to (text_one f lent indices) (length indices) ++ replicate (length out₀ - length (texts_to (text_one f lent indices) (length indices))) 0
    texts-out = x.bytes ∙ ap (λ (y : Result TextsWritten Refusal). leaves (length out₀) (texts_to (text_one f lent indices) (length indices)) y) texts-answered

    texts-table :
        table ≡ words_to (text_one f lent indices) (length indices) ++ replicate (length table₀ - length (words_to (text_one f lent indices) (length indices))) 0
    texts-table = x.words ∙ ap (λ (y : Result TextsWritten Refusal). leaves (length table₀) (words_to (text_one f lent indices) (length indices)) y) texts-answered

    pub texts-done-zeros : ZerosBehind (length out₀) (length table₀) k b out table
    texts-done-zeros = zeros-behind (length out₀) (length table₀) (length indices) (text_one f lent indices) texts-tell texts-out texts-table

    pub texts-one : (i : ℕ) → i < k → PartAt (text_one f lent indices i) (length (texts_to (text_one f lent indices) i)) i out table
    texts-one i h =
        let e = texts-tell.all in
        part_at (length indices) (text_one f lent indices) i _ _ (omega arith) texts-out texts-table

    texts-by :
        (o : Result Head Refusal) (i start room : ℕ) →
        ((r : Refusal) → o ≡ Err r → ⊥) →
        PartAt (value_in (content_by f lent (get_or indices i 0) o)) start i out table →
        ((text_numbers_of (text_answer_by room (content_by f lent (get_or indices i 0) o) o)).refusal ≡ 11 → ⊥) →
        IsPart (text_numbers_of (text_answer_by room (content_by f lent (get_or indices i 0) o) o)).refusal
        (text_numbers_of (text_answer_by room (content_by f lent (get_or indices i 0) o) o)).length 0
        (text_numbers_of (text_answer_by room (content_by f lent (get_or indices i 0) o) o)).state
        (text_numbers_of (text_answer_by room (content_by f lent (get_or indices i 0) o) o)).replaced
        (buffered room (text_in (content_by f lent (get_or indices i 0) o)) (text_answer_by room (content_by f lent (get_or indices i 0) o) o)) i out table
    texts-by (Err r) i start room c p d = absurd (c r refl)
    texts-by (Ok h) i start room c p d = text-is start i out table (content_of h (tables_in f h) lent (get_or indices i 0)) room p d

    pub texts-single :
        (i room : ℕ) →
        i < k →
        ((text_numbers_of (text_answer f lent room (get_or indices i 0))).refusal ≡ 11 → ⊥) →
        IsPart (text_numbers_of (text_answer f lent room (get_or indices i 0))).refusal (text_numbers_of (text_answer f lent room (get_or indices i 0))).length 0
        (text_numbers_of (text_answer f lent room (get_or indices i 0))).state (text_numbers_of (text_answer f lent room (get_or indices i 0))).replaced
        (text_buffer f lent room (get_or indices i 0)) i out table
    unfolding text_answer text_buffer texts_answer
    texts-single i room h d =
        texts-by (open_of f lent) i (length (texts_to (text_one f lent indices) i)) room
        (λ r e.
        let q : Err r ≡ Ok (record { count = k; length = b }) =
        sym (ap (λ (o : Result Head Refusal). texts_by f lent indices (length out₀) (length table₀) o) e) ∙ texts-answered in
        let z : ◌≡◌ {A = ℕ} 0 1 = cc in
        let w : ⊥ = omega arith in
        w)
        (texts-one i h) d
