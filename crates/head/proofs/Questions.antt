-- Laws of specs/Ask.antt, for the questions and for the crates above. No contract cites this file.
-- In order: the head, or the first refusal (`headRead-..`, `open_of-in`, `open_of-out`); what an open file tells (`open_of-open`, `open_of-asks`);
-- the text question (`gives-..`, `reads-open`, `reads-closed`) and the content question (`content-open`, `content-closed`). What
-- follows from the promises: proofs/Unique.antt.
use Rattle.std.specs.Prelude.{Result, Ok, Err}
use Prim.Native.Nat.{ℕ, ◌-◌, ◌≤◌, ◌<◌}
use native.Mathlib.Omega.{arith}
use mathlib.Core.Path.{◌≡◌, refl, sym, ap, ◌∙◌}
use mathlib.Core.List.{List, [], ◌++◌}
use mathlib.Core.Bool.{Bool, true, false}
use borrow.Author.Tests.{le-leb, lt-leb}
use lib.ListN.{length, take, replicate}
use lib.Dec.{leb}
use Rattle.utf.specs.Text.{Damage, whole, replaced, unpaired, cut as cut_text, state_number, replaced_count}
use Rattle.utf.proofs.Filled.{put_text-whole, put_text-length}
use Rattle.errors.specs.Refusal.{text_numbers_of}
use Rattle.errors.specs.declared.Refusal.{Refusal}
use Rattle.errors.specs.declared.Refusal.TheVariants.{NothingFound, TextShort}
use Rattle.errors.specs.declared.TextState.{TextState}
use Rattle.errors.specs.declared.TextState.TheVariants as state_is
use Rattle.system_types.specs.Names.{Lent}
use Rattle.text.specs.declared.Head.{Head}
use Rattle.text.specs.declared.Found.{Found}
use Rattle.text.specs.declared.Found.TheVariants.{Nothing, Cut, System, Pool}
use Rattle.text.specs.Content.{Content, none, content_of, text_in, damage_in, raw_of}
use Rattle.text.specs.Inner.Found.{part_of, is_found, Asks, Wrote}
use Rattle.head.specs.Head.{opened_of, tables_in, head_is_whole, refusal_of, PoolThere}
use Rattle.head.specs.Entry.{question, Check, passes, fails, first_of, entry_checks}
use Rattle.head.specs.Inner.Entered.{entered_of}
use Rattle.head.specs.Ask.{head_read, open_by, open_of, state_told, fitted, text_by, text_answer}
use Rattle.head.specs.Ask.{text_buffer, content_answer, Gives, TextReads}
use Rattle.head.specs.declared.HeadEnd.{HeadEnd}
use Rattle.head.specs.declared.HeadEnd.TheVariants.{Whole, TooSmall, HeaderSize, PoolShort, MapShort}
use Rattle.head.specs.declared.Opened.{Opened}
use Rattle.head.proofs.Laws.{opened_of-fits}
use Rattle.head.proofs.Entering.{Passed, passed, entered-in, entered-out}
use Rattle.head.proofs.Zeros.{zero-behind}
use Rattle.errors.specs.declared.TextWritten.{TextWritten}

-- ---- the head, or the first refusal

pub head_read-whole : (o : Opened) → head_is_whole o.end ≡ true → Ok o.head ≡ head_read o
head_read-whole o w = rw w

pub head_read-cut : (o : Opened) → head_is_whole o.end ≡ false → Err (refusal_of o.end) ≡ head_read o
head_read-cut o w = rw w

module _ (f : List ℕ) (lent : Lent) where
  pub open_of-in : {o : Opened} → entered_of f lent question ≡ Ok o → head_read o ≡ open_of f lent
  unfolding open_of
  open_of-in {o} e = let q = entered-in f lent question e in rw (q.1, q.0)

  pub open_of-out : {why : Refusal} → entered_of f lent question ≡ Err why → Err why ≡ open_of f lent
  unfolding open_of
  open_of-out {why} e = rw (entered-out f lent question e)

-- ---- what an open file tells

pub record Opens (f : List ℕ) (lent : Lent) (h : Head) : Type 0 where
  pub passed : Passed f lent question
  pub whole : head_is_whole (opened_of f).end ≡ true
  pub head : (opened_of f).head ≡ h

there-of-whole : (e : HeadEnd) → head_is_whole e ≡ true → PoolThere e
there-of-whole Whole w = tt
there-of-whole (MapShort m) w = tt
there-of-whole (TooSmall n) w = let z : ◌≡◌ {A = ℕ} 0 1 = cc in absurd (let y : ⊥ = omega arith in y)
there-of-whole (HeaderSize n) w = let z : ◌≡◌ {A = ℕ} 0 1 = cc in absurd (let y : ⊥ = omega arith in y)
there-of-whole (PoolShort p) w = let z : ◌≡◌ {A = ℕ} 0 1 = cc in absurd (let y : ⊥ = omega arith in y)

module _ (f : List ℕ) (lent : Lent) {h : Head} (open' : open_of f lent ≡ Ok h) where
  pub open_of-open : Opens f lent h
  unfolding open_of
  open_of-open = go (first_of (entry_checks f lent question)) refl (head_is_whole (opened_of f).end) refl open'
    where
      go
          : (c : Check) → first_of (entry_checks f lent question) ≡ c
          → (w : Bool) → head_is_whole (opened_of f).end ≡ w
          → open_by (opened_of f) c ≡ Ok h
          → Opens f lent h
      go (fails r) p w q e = let z : ◌≡◌ {A = ℕ} 0 1 = cc in absurd (let y : ⊥ = omega arith in y)
      go passes p false q e =
          let e' = head_read-cut (opened_of f) q ∙ e in
          let z : ◌≡◌ {A = ℕ} 0 1 = cc in
          absurd (let y : ⊥ = omega arith in y)
      go passes p true q e = let e' = head_read-whole (opened_of f) q ∙ e in record { passed = passed f lent question p; whole = q; head = cc }

  pub open_of-asks : Asks (tables_in f h) lent h
  open_of-asks =
      let o = open_of-open in
      let fits = opened_of-fits f o.passed.short (there-of-whole (opened_of f).end o.whole) in
      record { fits = rw (← o.head) fits; good = o.passed.good }

-- ---- the text question

-- the state by its number
module _ {k : ℕ} where
  pub told-whole : (d : Damage) → k ≡ state_number d → k ≡ 0 → state_is.Whole ≡ state_told d
  told-whole whole e f = refl
  told-whole (replaced n) e f = absurd (let z : ⊥ = omega (arith, e, f) in z)
  told-whole unpaired e f = absurd (let z : ⊥ = omega (arith, e, f) in z)
  told-whole cut_text e f = absurd (let z : ⊥ = omega (arith, e, f) in z)

  pub told-replaced : (d : Damage) {m : ℕ} → k ≡ state_number d → k ≡ 1 → m ≡ replaced_count d → state_is.Replaced m ≡ state_told d
  told-replaced whole e f g = absurd (let z : ⊥ = omega (arith, e, f) in z)
  told-replaced (replaced n) e f g = ap state_is.Replaced g
  told-replaced unpaired e f g = absurd (let z : ⊥ = omega (arith, e, f) in z)
  told-replaced cut_text e f g = absurd (let z : ⊥ = omega (arith, e, f) in z)

  pub told-unpaired : (d : Damage) → k ≡ state_number d → k ≡ 2 → state_is.Unpaired ≡ state_told d
  told-unpaired whole e f = absurd (let z : ⊥ = omega (arith, e, f) in z)
  told-unpaired (replaced n) e f = absurd (let z : ⊥ = omega (arith, e, f) in z)
  told-unpaired unpaired e f = refl
  told-unpaired cut_text e f = absurd (let z : ⊥ = omega (arith, e, f) in z)

  pub told-cut : (d : Damage) → k ≡ state_number d → (k ≡ 0 → ⊥) → (k ≡ 1 → ⊥) → (k ≡ 2 → ⊥) → state_is.Cut ≡ state_told d
  told-cut whole e f g h = absurd (f e)
  told-cut (replaced n) e f g h = absurd (g e)
  told-cut unpaired e f g h = absurd (h e)
  told-cut cut_text e f g h = refl

-- with n the length of the text, and out the buffer that it was written to if it fits
module _ (text before after out : List ℕ) (n : ℕ) (w : Wrote text before out n) where
  as_long : length out ≡ length before
  as_long = ap length w.bytes ∙ put_text-length text before

  -- longer than the buffer
  pub gives-short
      : (state : TextState)
      → length out < n
      → after ≡ replicate (length out) 0
      → Gives (length before) text (fitted (length before) text state) (Err (TextShort n)) after
  gives-short state p z =
      let q : leb (length text) (length before) ≡ false = lt-leb (length text) (length before) (omega (arith, as_long, w.count)) in
      rw (q, w.count) (record { same = refl; out = z ∙ ap (λ (k : ℕ). replicate k 0) as_long })

  pub gives-text
      : (state : TextState) {told : TextState}
      → n ≤ length out
      → after ≡ take n out ++ replicate (length out - n) 0
      → told ≡ state
      → Gives (length before) text (fitted (length before) text state) (Ok (record { length = n; state = told })) after
  gives-text state p z e =
      let l : length text ≤ length before = omega (arith, as_long, w.count) in
      let q : leb (length text) (length before) ≡ true = le-leb (length text) (length before) l in
      rw (q, w.count, e)
      (record { same = refl; out = zero-behind text before out after n l w.count (w.bytes ∙ put_text-whole text before l) z })

part_of-none : (w : Bool) (t area : List ℕ) (f : Found) → is_found f ≡ false → part_of w t area f ≡ none
part_of-none w t area Nothing e = refl
part_of-none w t area Cut e = let z : ◌≡◌ {A = ℕ} 0 1 = cc in absurd (let y : ⊥ = omega arith in y)
part_of-none w t area (System at n) e = let z : ◌≡◌ {A = ℕ} 0 1 = cc in absurd (let y : ⊥ = omega arith in y)
part_of-none w t area (Pool at n) e = let z : ◌≡◌ {A = ℕ} 0 1 = cc in absurd (let y : ⊥ = omega arith in y)

text_by-found
    : (n : ℕ) (w : Bool) (t area : List ℕ) (f : Found)
    → is_found f ≡ true
    → text_by n (part_of w t area f) ≡ fitted n (text_in (part_of w t area f)) (state_told (damage_in (part_of w t area f)))
text_by-found n w t area Nothing e = let z : ◌≡◌ {A = ℕ} 0 1 = cc in absurd (let y : ⊥ = omega arith in y)
text_by-found n w t area Cut e = refl
text_by-found n w t area (System at k) e = refl
text_by-found n w t area (Pool at k) e = refl

module _ (n : ℕ) (w : Bool) (t area : List ℕ) (f : Found) {c : Content} (e : part_of w t area f ≡ c) {r : Result TextWritten Refusal} {after : List ℕ} where
  pub gives_none : is_found f ≡ false → Gives n (text_in c) (Err NothingFound) r after → Gives n (text_in c) (text_by n c) r after
  gives_none p g = let q : none ≡ c = sym (part_of-none w t area f p) ∙ e in rw (← q) (rw (← q) at g)

  pub Gives-found
      : is_found f ≡ true
      → Gives n (text_in (part_of w t area f)) (fitted n (text_in (part_of w t area f)) (state_told (damage_in (part_of w t area f)))) r after
      → Gives n (text_in c) (text_by n c) r after
  Gives-found p g = rw (← e, text_by-found n w t area f p) g

module _ (f : List ℕ) (lent : Lent) (before after : List ℕ) (i : ℕ) {r : Result TextWritten Refusal} where
  pub reads-open
      : {h : Head} {t : List ℕ}
      → open_of f lent ≡ Ok h
      → t ≡ tables_in f h
      → Gives (length before) (text_in (content_of h t lent i)) (text_by (length before) (content_of h t lent i)) r after
      → TextReads f lent before i r after
  unfolding text_answer text_buffer
  reads-open e q g = let g' = rw q at g in record { answer = rw e (ap text_numbers_of g'.same); out = rw e g'.out }

  pub reads-closed
      : {why : Refusal}
      → open_of f lent ≡ Err why
      → Gives (length before) [] (Err why) r after
      → TextReads f lent before i r after
  unfolding text_answer text_buffer
  reads-closed e g = record { answer = rw e (ap text_numbers_of g.same); out = rw e g.out }

-- ---- the content question

module _ (f : List ℕ) (lent : Lent) (i : ℕ) where
  pub content-open
      : {h : Head} {t : List ℕ}
      → open_of f lent ≡ Ok h
      → t ≡ tables_in f h
      → raw_of (content_of h t lent i) ≡ content_answer f lent i
  unfolding content_answer
  content-open e q = rw (q, e)

  pub content-closed : {why : Refusal} → open_of f lent ≡ Err why → [] ≡ content_answer f lent i
  unfolding content_answer
  content-closed e = rw e
