-- Laws of specs/Inner/Going.antt. No contract cites this file.
-- In order: a text at a place (`tells-..`); the words of an answer (`puts-..`); one more (`done-..`); the whole outputs (`gives-..`); the
-- promises (`values-..`, `texts-..`).
use Rattle.std.specs.Prelude.{Result, Ok, Err}
use Prim.Native.Nat.{ℕ, zero, suc, ◌+◌, ◌-◌, ◌*◌, ◌/◌, ◌≤◌, ◌<◌, min}
use native.Mathlib.Omega.{arith}
use native.Mathlib.Numerals.{add-one}
use native.Mathlib.Nat.{le_of_eq}
use mathlib.Core.Path.{◌≡◌, refl, sym, ap, ◌∙◌}
use mathlib.Core.List.{List, [], ◌++◌, append-nil}
use mathlib.Core.Bool.{Bool, true, false, cond}
use borrow.Author.Tests.{lt-ltb, le-ltb, le-leb, lt-leb, leb-true, leb-false}
use borrow.Rule.Slice.PartMut.{put_mid, mid_of}
use lib.ListN.{length, take, drop, get_or, replicate, length-append, length-drop, drop_of_length-le}
use lib.Seq.{length-take-le, take_all, take-append-add, take_at}
use lib.Dec.{ltb, leb}
use Rattle.errors.specs.Refusal.{many_numbers_of}
use Rattle.errors.specs.declared.Refusal.{Refusal}
use Rattle.errors.specs.declared.Refusal.TheVariants.{TextShort, TablesError, AnswersFull}
use Rattle.records.specs.Words.{attribute_width}
use Rattle.many_texts.specs.Words.{answer_width, answer_words}
use Rattle.system_types.specs.Names.{Lent}
use Rattle.text.specs.declared.Head.{Head}
use Rattle.text.specs.declared.Found.{Found}
use Rattle.text.specs.declared.Found.TheVariants.{Nothing, Cut, System, Pool}
use Rattle.text.specs.Content.{Content, text_in, damage_in}
use Rattle.text.specs.Inner.Found.{Wrote as Put, part_of, is_found, ascii_in}
use Rattle.text.proofs.Read.{ascii-whole}
use Rattle.head.specs.Head.{tables_in}
use Rattle.head.specs.Ask.{open_of, state_told, content_asked_by as content_by}
use Rattle.value_text.specs.declared.Attribute.{Attribute}
use Rattle.value_text.specs.declared.Told.{Told}
use Rattle.errors.specs.Refusal.{state_of, replaced_of}
use Rattle.errors.specs.declared.TextState.{TextState}
use Rattle.errors.specs.declared.TextState.TheVariants.{Whole}
use Rattle.value_text.specs.declared.Told.TheVariants.{Shown, NoName, NoText}
use Rattle.value_text.specs.Value.{Value, no_name, no_text, shows, shown, attribute_value, value_open}
use Rattle.value_text.specs.Inner.Leads.{Tells, told_of}
use Rattle.value_text.proofs.Front.{leads-put, tells-text}
use Rattle.many_texts.specs.Many.{value_asked_by, value_in, attribute_at, words_at, texts_to, words_to, many_by, most_bytes, most_count, leaves}
use Rattle.many_texts.specs.Many.{values_by, values_answer, ReadsValues, texts_by, texts_answer, ReadsTexts}
use Rattle.many_texts.specs.Inner.Going.{TellsAt, Puts, Done, Gives, record_value, index_value}
use Rattle.errors.specs.declared.TextsWritten.{TextsWritten}

-- ---- a text at a place

-- a text at the front of what stands behind p
front_of : (p s ys : List ℕ) → take (length s) ys ≡ s → take (length p + length s) (p ++ ys) ≡ p ++ s
front_of p s ys e = take-append-add p ys (length s) ∙ ap (λ (x : List ℕ). p ++ x) e

-- written into the part of a buffer from a place on that lies in it
pub tells_at :
    {v : Value} {r : Told} (at from : ℕ) (out ys : List ℕ) →
    from ≡ min at (length out) →
    Tells v (mid_of from (length out - from) out) r ys →
    TellsAt at v out r (put_mid from (length out - from) out ys)
tells_at {v} {r} at from out ys e t =
    let m : length (drop from out) ≤ length out - from = le_of_eq (length-drop from out) in
    let q : length (mid_of from (length out - from) out) ≡ length out - from =
    ap length (take_all (length out - from) (drop from out) m) ∙ length-drop from out in
    let w : length ys ≡ length out - from = t.long ∙ q in
    let z : put_mid from (length out - from) out ys ≡ take from out ++ ys =
    ap (λ (x : List ℕ). take from out ++ (ys ++ x)) (drop_of_length-le (drop from out) m) ∙ ap (λ (x : List ℕ). take from out ++ x) (append-nil ys) in
    let k : length (take from out) ≡ from = length-take-le from out (omega arith) in
    let l : length (take from out) + length ys ≡ length out = omega arith in
    record {
      told = t.told;
      long = ap length z ∙ length-append (take from out) ys ∙ l;
      front = λ h.
          let i : from ≡ at = omega arith in
          let n : length (shown v) ≤ length (mid_of from (length out - from) out) = omega arith in
          ap (take (at + length (shown v))) z ∙ ap (λ (x : ℕ). take (x + length (shown v)) (take from out ++ ys)) (sym (k ∙ i))
          ∙ front_of (take from out) (shown v) ys (t.front n) ∙ ap (λ (x : ℕ). take x out ++ shown v) i;
    }

-- what was found for an index, told
module _ {c : Content} {out : List ℕ} (w : Bool) (t area : List ℕ) where
  pub index-none : (g : Found) → part_of w t area g ≡ c → is_found g ≡ false → Tells (value_in c) out NoName out
  index-none Nothing e p = rw (← e) (record { told = refl; long = refl; front = λ h. refl })
  index-none Cut e p = let z : ◌≡◌ {A = ℕ} 0 1 = cc in absurd (let y : ⊥ = omega arith in y)
  index-none (System at n) e p = let z : ◌≡◌ {A = ℕ} 0 1 = cc in absurd (let y : ⊥ = omega arith in y)
  index-none (Pool at n) e p = let z : ◌≡◌ {A = ℕ} 0 1 = cc in absurd (let y : ⊥ = omega arith in y)

  pub index-some :
      {k : ℕ} {after : List ℕ} (g : Found) →
      part_of w t area g ≡ c →
      is_found g ≡ true →
      Put (text_in (part_of w t area g)) out after k →
      {d : TextState} →
      d ≡ state_told (damage_in (part_of w t area g)) →
      Tells (value_in c) out (Shown k 0 d) after
  index-some Nothing e p s q = let z : ◌≡◌ {A = ℕ} 0 1 = cc in absurd (let y : ⊥ = omega arith in y)
  index-some Cut e p s q = rw (← e, q) (tells-text (leads-put s))
  index-some (System at n) e p s q = rw (← e, q) (tells-text (leads-put s))
  index-some (Pool at n) e p s q = rw (← e, q) (tells-text (leads-put s))

  pub index-ascii :
      {k : ℕ} {after : List ℕ} (g : Found) →
      part_of w t area g ≡ c →
      ascii_in (part_of w t area g) ≡ true →
      Put (text_in (part_of w t area g)) out after k →
      Tells (value_in c) out (Shown k 0 Whole) after
  index-ascii Nothing e p s = let z : ◌≡◌ {A = ℕ} 0 1 = cc in absurd (let y : ⊥ = omega arith in y)
  index-ascii Cut e p s = let z : ◌≡◌ {A = ℕ} 0 1 = cc in absurd (let y : ⊥ = omega arith in y)
  index-ascii (System at n) e p s = index-some (System at n) e refl s (ap state_told (sym (ascii-whole (part_of w t area (System at n)) p)))
  index-ascii (Pool at n) e p s = index-some (Pool at n) e refl s (ap state_told (sym (ascii-whole (part_of w t area (Pool at n)) p)))

-- the value of an attribute that is a record's
pub value-turn :
    (h : Head) (t : List ℕ) (lent : Lent) (items area ats : List ℕ) (k : ℕ) {at : ℕ} {a : Attribute} {told : Told} {out out' : List ℕ} →
    a ≡ attribute_at ats k →
    TellsAt at (attribute_value h t lent items area a) out told out' →
    TellsAt at (record_value h t lent items area ats k) out told out'
value-turn h t lent items area ats k e x = rw (← e) x

-- ---- the words of an answer

-- whether the place behind is a word
pub word-by : {b : Bool} (at n : ℕ) → at ≤ most_bytes → b ≡ leb n (most_bytes - at) → b ≡ leb (at + n) most_bytes
word-by {b} at n h e = e ∙ go (leb n (most_bytes - at)) refl
  where
    go : (t : Bool) → leb n (most_bytes - at) ≡ t → t ≡ leb (at + n) most_bytes
    go true p = let l = leb-true n (most_bytes - at) p in sym (le-leb (at + n) most_bytes (omega arith))
    go false p = let l = leb-false n (most_bytes - at) p in sym (lt-leb (at + n) most_bytes (omega arith))

pub words_at-length : (at : ℕ) (v : Value) → length (words_at at v) ≡ answer_width
words_at-length at no_name = refl
words_at-length at no_text = refl
words_at-length at (shows s u d) = refl

pub length-words : (one : ℕ → Value) (n : ℕ) → length (words_to one n) ≡ answer_width * n
unfolding words_to
length-words one zero = refl
length-words one (suc n) =
    let a = length-words one n in
    let b = words_at-length (length (texts_to one n)) (one n) in
    length-append (words_to one n) (words_at (length (texts_to one n)) (one n)) ∙ omega arith

-- words put at a place
put_front :
    (i : ℕ) (ws before after : List ℕ) →
    i + length ws ≤ length before →
    after ≡ take i before ++ ws ++ drop (i + length ws) before →
    (length after ≡ length before) × (take (i + length ws) after ≡ take i before ++ ws)
put_front i ws before after h e =
    let a : length (take i before) ≡ i = length-take-le i before (omega arith) in
    let b : length (take i before ++ ws) ≡ i + length ws = length-append (take i before) ws ∙ omega arith in
    let c : length (drop (i + length ws) before) ≡ length before - (i + length ws) = length-drop (i + length ws) before in
    let d : length (take i before ++ ws) + length (drop (i + length ws) before) ≡ length before = omega arith in (
      ap length e ∙ length-append (take i before ++ ws) (drop (i + length ws) before) ∙ d,
      ap (take (i + length ws)) e ∙ take_at (take i before ++ ws) (drop (i + length ws) before) (i + length ws) b,
    )

-- an answer with a text, and one without
pub puts-shown :
    {i u state replaced : ℕ} {d : TextState} (k at n r : ℕ) (s before after : List ℕ) →
    answer_width * k + answer_width ≤ length before →
    i ≡ answer_width * k →
    n ≡ length s →
    r ≡ min (at + n) most_count →
    state ≡ state_of d →
    replaced ≡ replaced_of d →
    after ≡ take i before ++ answer_words 0 at n u state replaced ++ drop (i + answer_width) before →
    Puts k at (shows s u d) before r after
puts-shown {i} {u} {state} {replaced} {d} k at n r s before after h j c p x y e =
    let ws : ℕ → List ℕ = λ m. answer_words 0 at m u (state_of d) (replaced_of d) in
    let e' : after ≡ take i before ++ ws n ++ drop (i + answer_width) before =
    e ∙ ap (λ (z : ℕ). take i before ++ answer_words 0 at n u z replaced ++ drop (i + answer_width) before) x
    ∙ ap (λ (z : ℕ). take i before ++ answer_words 0 at n u (state_of d) z ++ drop (i + answer_width) before) y in
    let f = put_front i (ws n) before after (omega arith) e' in
    record {
      place = p ∙ ap (λ (x : ℕ). min (at + x) most_count) c;
      long = f.0;
      words = λ l.
          ap (λ (x : ℕ). take (x + answer_width) after) (sym j) ∙ f.1 ∙ ap (λ (x : ℕ). take x before ++ ws n) j
          ∙ ap (λ (x : ℕ). take (answer_width * k) before ++ ws x) c;
    }

-- where the place or the length is no word, nothing is put
pub puts-past :
    {u : ℕ} {d : TextState} (k at n r : ℕ) (s before : List ℕ) →
    most_bytes < at + n →
    n ≡ length s →
    r ≡ min (at + n) most_count →
    Puts k at (shows s u d) before r before
puts-past k at n r s before h c p =
    record {
      place = p ∙ ap (λ (x : ℕ). min (at + x) most_count) c;
      long = refl;
      words = λ l. absurd (let z : ⊥ = omega arith in z);
    }

pub puts_none :
    {i number : ℕ} (k at : ℕ) (v : Value) (before after : List ℕ) →
    answer_width * k + answer_width ≤ length before →
    i ≡ answer_width * k →
    at ≤ most_count →
    shown v ≡ [] →
    words_at at v ≡ answer_words number 0 0 0 0 0 →
    after ≡ take i before ++ answer_words number 0 0 0 0 0 ++ drop (i + answer_width) before →
    Puts k at v before at after
puts_none {i} {number} k at v before after h j b s w e =
    let f = put_front i (answer_words number 0 0 0 0 0) before after (omega arith) e in
    let z : length (shown v) ≡ 0 = ap length s in
    record {
      place = omega arith;
      long = f.0;
      words = λ l.
          ap (λ (x : ℕ). take (x + answer_width) after) (sym j) ∙ f.1 ∙ ap (λ (x : ℕ). take x before ++ answer_words number 0 0 0 0 0) j
          ∙ ap (λ (x : List ℕ). take (answer_width * k) before ++ x) (sym w);
    }

-- by what the code told
module _ {k at r : ℕ} {before after : List ℕ} where
  pub puts-no-name :
      {told : Told} →
      told ≡ NoName →
      Puts k at no_name before r after →
      (v : Value) → told ≡ told_of v → Puts k at v before r after
  puts-no-name e p no_name q = p
  puts-no-name e p no_text q = let z : ◌≡◌ {A = ℕ} 0 1 = cc in absurd (let y : ⊥ = omega arith in y)
  puts-no-name e p (shows s u d) q = let z : ◌≡◌ {A = ℕ} 0 1 = cc in absurd (let y : ⊥ = omega arith in y)

  pub puts-no-text :
      {told : Told} →
      told ≡ NoText →
      Puts k at no_text before r after →
      (v : Value) → told ≡ told_of v → Puts k at v before r after
  puts-no-text e p no_text q = p
  puts-no-text e p no_name q = let z : ◌≡◌ {A = ℕ} 0 1 = cc in absurd (let y : ⊥ = omega arith in y)
  puts-no-text e p (shows s u d) q = let z : ◌≡◌ {A = ℕ} 0 1 = cc in absurd (let y : ⊥ = omega arith in y)

  pub puts-told :
      {told : Told} {n u : ℕ} {d : TextState} →
      told ≡ Shown n u d →
      ((s : List ℕ) → n ≡ length s → Puts k at (shows s u d) before r after) →
      (v : Value) → told ≡ told_of v → Puts k at v before r after
  puts-told e p no_name q = let z : ◌≡◌ {A = ℕ} 0 1 = cc in absurd (let y : ⊥ = omega arith in y)
  puts-told e p no_text q = let z : ◌≡◌ {A = ℕ} 0 1 = cc in absurd (let y : ⊥ = omega arith in y)
  puts-told {n = n} {u} {d} e p (shows s w x) q =
      let c : n ≡ length s = cc in
      let i : u ≡ w = cc in
      let j : d ≡ x = cc in
      rw (← i, ← j) (p s c)

-- ---- one more

pub done_first : (one : ℕ → Value) (out table : List ℕ) → Done one (length out) (length table) 0 0 out table
unfolding texts_to words_to
done_first one out table = record { place = omega arith; long = refl; utf16 = refl; bytes = λ h. refl; words = λ h. refl }

module _ (one : ℕ → Value) (k : ℕ) where
  texts-next : texts_to one (k + 1) ≡ texts_to one k ++ shown (one k)
  unfolding texts_to
  texts-next = rw add-one

  words-next : words_to one (k + 1) ≡ words_to one k ++ words_at (length (texts_to one k)) (one k)
  unfolding words_to
  words-next = rw add-one

  texts-longer : length (texts_to one (k + 1)) ≡ length (texts_to one k) + length (shown (one k))
  texts-longer = ap length texts-next ∙ length-append (texts_to one k) (shown (one k))

pub done-step :
    {one : ℕ → Value} {n m k at at' : ℕ} {told : Told} {out table out' table' : List ℕ} →
    n ≤ most_count →
    Done one n m k at out table →
    TellsAt at (one k) out told out' →
    Puts k at (one k) table at' table' →
    Done one n m (k + 1) at' out' table'
done-step {one} {n} {m} {k} {at} {at'} {told} {out} {table} {out'} {table'} b d t p =
    let s = texts_to one k in
    let x = shown (one k) in
    let l = texts-longer one k in
    let c = d.place in
    let c' = p.place in
    let w = d.long in
    let y : answer_width * k + answer_width ≡ answer_width * (k + 1) = omega arith in
    record {
      place = omega arith;
      long = t.long ∙ d.long;
      utf16 = p.long ∙ d.utf16;
      bytes = λ h.
          let i : length s ≡ at = omega arith in
          let j : length s ≤ n = omega arith in
          let f : at + length x ≤ length out = omega arith in
          ap (λ (z : ℕ). take z out') (l ∙ ap (λ (z : ℕ). z + length x) i) ∙ t.front f ∙ ap (λ (z : ℕ). take z out ++ x) (sym i)
          ∙ ap (λ (z : List ℕ). z ++ x) (d.bytes j) ∙ sym (texts-next one k);
      words = λ h.
          let i : at ≡ length s = omega arith in
          let j : length s ≤ most_bytes = omega arith in
          let f : at + length x ≤ most_bytes = omega arith in
          ap (λ (z : ℕ). take z table') (sym y) ∙ p.words f ∙ ap (λ (z : List ℕ). z ++ words_at at (one k)) (d.words j)
          ∙ ap (λ (z : ℕ). words_to one k ++ words_at z (one k)) i ∙ sym (words-next one k);
    }

pub done_all :
    {one : ℕ → Value} {n m k count at : ℕ} {out table : List ℕ} →
    k ≡ count →
    Done one n m k at out table →
    Done one n m count at out table
done_all e d = rw (← e) d

-- ---- the whole outputs

pub gives_same :
    {n m count : ℕ} {one : ℕ → Value} {a b r : Result TextsWritten Refusal} {out table : List ℕ} →
    a ≡ b →
    Gives n m count one b r out table →
    Gives n m count one a r out table
gives_same e g = rw e g

-- whether the table has as many records
module _ (ats : List ℕ) (count : ℕ) (b : Result TextsWritten Refusal) where
  pub values-unfit :
      length ats < attribute_width * count →
      cond (ltb (length ats) (attribute_width * count)) (Err (TablesError count)) b ≡ Err (TablesError count)
  values-unfit h = rw (lt-ltb (length ats) (attribute_width * count) h)

  pub values-fit :
      attribute_width * count ≤ length ats →
      cond (ltb (length ats) (attribute_width * count)) (Err (TablesError count)) b ≡ b
  values-fit h = rw (le-ltb (length ats) (attribute_width * count) h)

-- refused, whatever was asked
pub gives-refused :
    {n m count : ℕ} {one : ℕ → Value} {a r : Result TextsWritten Refusal} {why : Refusal} {out table : List ℕ} →
    a ≡ Err why →
    (r ≡ Err why) × (out ≡ replicate n 0) × (table ≡ replicate m 0) →
    Gives n m count one a r out table
gives-refused e z = rw e (record { same = z.0; bytes = z.1; words = z.2 })

-- not each has a place
pub gives-full :
    (count : ℕ) (one : ℕ → Value) (n places : ℕ) →
    places < count →
    many_by count one n places ≡ Err (AnswersFull places)
unfolding many_by
gives-full count one n places h = rw (lt-ltb places count h)

module _ {count n m at : ℕ} {one : ℕ → Value} {out table : List ℕ} (d : Done one n m count at out table) (few : answer_width * count ≤ m) where
  enough : ltb (m / answer_width) count ≡ false
  enough = le-ltb (m / answer_width) count (omega arith)

  pub gives-short : n ≤ most_count → min n most_bytes < at → many_by count one n (m / answer_width) ≡ Err (TextShort at)
  unfolding many_by
  gives-short b h =
      let c = d.place in
      let i : min n most_bytes < length (texts_to one count) = omega arith in
      rw (enough, lt-leb (length (texts_to one count)) (min n most_bytes) i, ← c)

  pub gives_all :
      {out' table' : List ℕ} →
      at ≤ n →
      at ≤ most_bytes →
      out' ≡ take at out ++ replicate (length out - at) 0 →
      table' ≡ take (answer_width * count) table ++ replicate (length table - answer_width * count) 0 →
      Gives n m count one (many_by count one n (m / answer_width)) (Ok (record { count = count; length = at })) out' table'
  unfolding many_by
  gives_all {out'} {table'} f g e i =
      let c = d.place in
      let s : length (texts_to one count) ≡ at = omega arith in
      let l : length (texts_to one count) ≤ min n most_bytes = omega arith in
      let t : take at out ≡ texts_to one count = ap (λ (z : ℕ). take z out) (sym s) ∙ d.bytes (omega arith) in
      let u : take (answer_width * count) table ≡ words_to one count = d.words (omega arith) in
      rw (enough, le-leb (length (texts_to one count)) (min n most_bytes) l)
      (record {
        same = rw s;
        bytes = e ∙ rw (t, s, d.long);
        words = i ∙ rw (u, length-words one count, d.utf16);
      })

-- the same of the buffers that came in
pub settled :
    {n m count at : ℕ} {one : ℕ → Value} {r : Result TextsWritten Refusal} {out table out' table' : List ℕ} →
    Done one n m count at out table →
    ((one : ℕ → Value) →
    Done one (length out) (length table) count at out table →
    Gives (length out) (length table) count one (many_by count one (length out) (length table / answer_width)) r out' table') →
    Gives n m count one (many_by count one n (m / answer_width)) r out' table'
settled {one = one} d s =
    let g = s one (rw (d.long, d.utf16) d) in
    rw (d.long, d.utf16) at g

-- ---- the promises

module _ (f : List ℕ) (lent : Lent) (items area ats out₀ table₀ : List ℕ) (count : ℕ) {r : Result TextsWritten Refusal} {out table : List ℕ} where
  pub values-closed :
      {why : Refusal} →
      value_open f lent items area ≡ Err why →
      (r ≡ Err why) × (out ≡ replicate (length out₀) 0) × (table ≡ replicate (length table₀) 0) →
      ReadsValues f lent items area ats out₀ table₀ count r out table
  unfolding values_answer
  values-closed e g = record { answer = rw e (ap many_numbers_of g.0); bytes = rw e g.1; words = rw e g.2 }

  pub values-open :
      {h : Head} {t : List ℕ} →
      value_open f lent items area ≡ Ok h →
      t ≡ tables_in f h →
      Gives (length out₀) (length table₀) count (record_value h t lent items area ats)
      (cond (ltb (length ats) (attribute_width * count)) (Err (TablesError count))
      (many_by count (record_value h t lent items area ats) (length out₀) (length table₀ / answer_width))) r out table →
      ReadsValues f lent items area ats out₀ table₀ count r out table
  unfolding values_answer
  values-open {h} e q g =
      let g' = rw q at g in
      let one : Result Head Refusal → ℕ → Value = λ o k. value_asked_by f lent items area (attribute_at ats k) o in
      let many : Result Head Refusal → Result TextsWritten Refusal =
      λ o. cond (ltb (length ats) (attribute_width * count)) (Err (TablesError count))
      (many_by count (one o) (length out₀) (length table₀ / answer_width)) in
      let a : values_answer f lent items area ats count (length out₀) (length table₀) ≡ many (Ok h) =
      ap (λ (o : Result Head Refusal). values_by f lent items area ats count (length out₀) (length table₀) o) e ∙ ap many e in
      let b = values_answer f lent items area ats count (length out₀) (length table₀) in
      record {
        answer = ap many_numbers_of (g'.same ∙ sym a);
        bytes =
            g'.bytes ∙ ap (λ (x : Result TextsWritten Refusal). leaves (length out₀) (texts_to (one (Ok h)) count) x) (sym a)
            ∙ ap (λ (o : Result Head Refusal). leaves (length out₀) (texts_to (one o) count) b) (sym e);
        words =
            g'.words ∙ ap (λ (x : Result TextsWritten Refusal). leaves (length table₀) (words_to (one (Ok h)) count) x) (sym a)
            ∙ ap (λ (o : Result Head Refusal). leaves (length table₀) (words_to (one o) count) b) (sym e);
      }

module _ (f : List ℕ) (lent : Lent) (indices out₀ table₀ : List ℕ) {r : Result TextsWritten Refusal} {out table : List ℕ} where
  pub texts-closed :
      {why : Refusal} →
      open_of f lent ≡ Err why →
      (r ≡ Err why) × (out ≡ replicate (length out₀) 0) × (table ≡ replicate (length table₀) 0) →
      ReadsTexts f lent indices out₀ table₀ r out table
  unfolding texts_answer
  texts-closed e g = record { answer = rw e (ap many_numbers_of g.0); bytes = rw e g.1; words = rw e g.2 }

  pub texts-open :
      {h : Head} {t : List ℕ} →
      open_of f lent ≡ Ok h →
      t ≡ tables_in f h →
      Gives (length out₀) (length table₀) (length indices) (index_value h t lent indices)
      (many_by (length indices) (index_value h t lent indices) (length out₀) (length table₀ / answer_width)) r out table →
      ReadsTexts f lent indices out₀ table₀ r out table
  unfolding texts_answer
  texts-open {h} e q g =
      let g' = rw q at g in
      let one : Result Head Refusal → ℕ → Value = λ o k. value_in (content_by f lent (get_or indices k 0) o) in
      let many : Result Head Refusal → Result TextsWritten Refusal = λ o. many_by (length indices) (one o) (length out₀) (length table₀ / answer_width) in
      let a : texts_answer f lent indices (length out₀) (length table₀) ≡ many (Ok h) =
      ap (λ (o : Result Head Refusal). texts_by f lent indices (length out₀) (length table₀) o) e ∙ ap many e in
      let b = texts_answer f lent indices (length out₀) (length table₀) in
      record {
        answer = ap many_numbers_of (g'.same ∙ sym a);
        bytes =
            g'.bytes ∙ ap (λ (x : Result TextsWritten Refusal). leaves (length out₀) (texts_to (one (Ok h)) (length indices)) x) (sym a)
            ∙ ap (λ (o : Result Head Refusal). leaves (length out₀) (texts_to (one o) (length indices)) b) (sym e);
        words =
            g'.words ∙ ap (λ (x : Result TextsWritten Refusal). leaves (length table₀) (words_to (one (Ok h)) (length indices)) x) (sym a)
            ∙ ap (λ (o : Result Head Refusal). leaves (length table₀) (words_to (one o) (length indices)) b) (sym e);
      }
