-- Lines that are due, as the code reads them one behind the other. No contract cites this file.
use Rattle.std.specs.Prelude.{Some, None}
use Prim.Native.Nat.{ℕ, zero, suc, ◌+◌, ◌*◌, ◌/◌, ◌-◌, ◌≤◌, ◌<◌, min}
use mathlib.Core.Path.{◌≡◌, refl, sym, ap, ◌∙◌}
use mathlib.Core.Bool.{true, false, cond}
use mathlib.Core.List.{List, [], ◌∷◌, ◌++◌}
use native.Mathlib.Omega.{arith}
use native.Mathlib.Nat.{mul-zero, mul-suc, mul-le-mul_left, mul-div-le, sub-zero, add-zero}
use native.Mathlib.Numerals.{add-one}
use borrow.Author.Tests.{eq-eqb, ne_eqb, lt-ltb, le-ltb}
use lib.Dec.{eqb, ltb}
use lib.ListN.{length, take, drop, get_or, drop_of_length-le, length-drop, length-append}
use lib.Seq.{take_at, sets-eq, length-take-le, drop-cons}
use Rattle.digits.specs.Written.{written}
use Rattle.listing_back.specs.Forms.{taken}
use Rattle.listing_back.specs.Due.{Step, stops, goes, any_over, stray, Test, head_by, head_line, Table, record_by, record_line, records, ended}
use Rattle.listing_back.specs.Inner.Stands.{Holds, form_at}
use Rattle.listing_back.specs.Inner.Steps.{equals_in, TakesAlone, test_by, step_of, CountsOn, table_of, RecordOn, RecordsOn, EndsOn}
use Rattle.listing_back.specs.declared.taking.Taking.{Taking}
use Rattle.listing_back.specs.declared.stepping.Kind.{Kind}
use Rattle.listing_back.specs.declared.stepping.Spot.{Spot}
use Rattle.listing_back.proofs.Lines.{any_over-first}
use Rattle.listing_back.proofs.Steps.{records-stops}
use Rattle.listing_back.proofs.Strays.{lost-of, FrontOf, front_of, taken-many, stray-ge, test-capped}

-- ---- a spot as a step

pub step_of-stops : (text ws : List ℕ) (p : Spot) → (p.fault ≡ 0 → ⊥) → step_of text ws p ≡ stops p.fault p.value
step_of-stops text ws p h = rw (ne_eqb p.fault 0 h)

pub step_of-goes : (text ws : List ℕ) (p : Spot) → p.fault ≡ 0 → step_of text ws p ≡ goes ws (drop p.at text)
step_of-goes text ws p h = rw (eq-eqb p.fault 0 h)

stopped-step : (text ws : List ℕ) (r : Spot) (a b : ℕ) → r ≡ record { fault = a; value = b; at = 0; number = 0 } → 0 < a → step_of text ws r ≡ stops a b
stopped-step text ws r a b q h = rw (q, ne_eqb a 0 (λ e. let z : ⊥ = omega arith in z))

gone-step : (text ws : List ℕ) (r : Spot) (a b : ℕ) → r ≡ record { fault = 0; value = 0; at = a; number = b } → step_of text ws r ≡ goes ws (drop a text)
gone-step text ws r a b q = rw q

stopped-inside : (text : List ℕ) (r : Spot) (a b : ℕ) → r ≡ record { fault = a; value = b; at = 0; number = 0 } → r.at ≤ length text
stopped-inside text r a b q = rw q (omega arith)

gone-inside : (text : List ℕ) (r : Spot) (a b : ℕ) → r ≡ record { fault = 0; value = 0; at = a; number = b } → a ≤ length text → r.at ≤ length text
gone-inside text r a b q h = rw q h

-- ---- a line of the head

module _ (text : List ℕ) (before : Spot) (n line : ℕ) (kind : Kind) where
  pub counts-stopped : (before.fault ≡ 0 → ⊥) → before.at ≤ length text → CountsOn text before n line kind before
  counts-stopped h i =
      record {
        step = λ ws ok f. step_of-stops text (ws ++ (before.number ∷ [])) before h ∙ sym (ap (head_line (form_at n) line ok) (step_of-stops text ws before h));
        inside = i;
      }

  module _ (g : before.fault ≡ 0) (r : Spot) where
    due-step :
        (ws : List ℕ) (ok : Test) → head_line (form_at n) line ok (step_of text ws before) ≡ head_by ok line ws (drop before.at text) (taken (form_at n) (drop before.at text))
    due-step ws ok = ap (head_line (form_at n) line ok) (step_of-goes text ws before g)

    pub counts-lost : (s : ℕ) (k : TakesAlone text None (taken (form_at n) (drop before.at text))) → s ≡ stray (drop before.at text) → r ≡ record { fault = s; value = line; at = 0; number = 0 } → CountsOn text before n line kind r
    counts-lost s k q p =
        record {
          step = λ ws ok f. stopped-step text (ws ++ (r.number ∷ [])) r s line p (let z = stray-ge (drop before.at text) in omega arith) ∙
              (ap (λ (y : ℕ). stops y line) q ∙
              sym (due-step ws ok ∙ ap (head_by ok line ws (drop before.at text)) (lost-of text 1 k.before k.after (taken (form_at n) (drop before.at text)) k.holds)));
          inside = stopped-inside text r s line p;
        }

    module _ (t : Taking) (k : TakesAlone text (Some t) (taken (form_at n) (drop before.at text))) (one : equals_in (form_at n) ≡ 1) where
      f : FrontOf text 1 k.before k.after t (taken (form_at n) (drop before.at text))
      f = front_of (taken (form_at n) (drop before.at text)) k.holds

      single : (ns : List ℕ) → length ns ≡ 1 → ns ≡ get_or ns 0 0 ∷ []
      single [] h = absurd (let z : ⊥ = omega arith in z)
      single (v ∷ []) h = refl
      single (v ∷ w ∷ ns) h = absurd (let z : ⊥ = omega arith in z)

      alone : f.numbers ≡ get_or f.numbers 0 0 ∷ []
      alone = single f.numbers (taken-many (form_at n) (drop before.at text) f.is ∙ one)

      value-first : t.first ≡ min (get_or f.numbers 0 0) 4294967296
      value-first = f.holds.first

      due-front :
          (ws : List ℕ) (ok : Test) → head_line (form_at n) line ok (step_of text ws before) ≡
          cond (ok ws (get_or f.numbers 0 0)) (cond (any_over f.numbers) (stops 25 line) (goes (ws ++ f.numbers) f.rest)) (stops 24 line)
      due-front ws ok = due-step ws ok ∙ ap (head_by ok line ws (drop before.at text)) f.is

      test-is : (ws : List ℕ) (ok : Test) → ((v : ℕ) → ok ws v ≡ test_by kind v) → ok ws (get_or f.numbers 0 0) ≡ test_by kind t.first
      test-is ws ok h = h (get_or f.numbers 0 0) ∙ sym (test-capped kind (get_or f.numbers 0 0) t.first value-first)

      pub counts-malformed : test_by kind t.first ≡ false → r ≡ record { fault = 24; value = line; at = 0; number = 0 } → CountsOn text before n line kind r
      counts-malformed b p =
          record {
            step = λ ws ok h. stopped-step text (ws ++ (r.number ∷ [])) r 24 line p (omega arith) ∙ sym (due-front ws ok ∙ rw (test-is ws ok h ∙ b));
            inside = stopped-inside text r 24 line p;
          }

      pub counts-large :
          test_by kind t.first ≡ true → t.over ≡ true → r ≡ record { fault = 25; value = line; at = 0; number = 0 } → CountsOn text before n line kind r
      counts-large b o p =
          record {
            step = λ ws ok h. stopped-step text (ws ++ (r.number ∷ [])) r 25 line p (omega arith) ∙
                sym (due-front ws ok ∙ rw (test-is ws ok h ∙ b, sym f.holds.over ∙ o));
            inside = stopped-inside text r 25 line p;
          }

      module _ (o : t.over ≡ false) where
        value-small : t.first ≡ get_or f.numbers 0 0
        value-small =
            let q : any_over (get_or f.numbers 0 0 ∷ []) ≡ false = sym (ap any_over alone) ∙ (sym f.holds.over ∙ o) in
            let h = any_over-first (get_or f.numbers 0 0) [] q in
            let w = value-first in
            omega arith

        pub counts-never : {A : Type 0} → 4294967295 < t.first → A
        counts-never l =
            let q : any_over (get_or f.numbers 0 0 ∷ []) ≡ false = sym (ap any_over alone) ∙ (sym f.holds.over ∙ o) in
            let h = any_over-first (get_or f.numbers 0 0) [] q in
            let w = value-first in
            absurd (let z : ⊥ = omega arith in z)

        pub counts-goes :
            test_by kind t.first ≡ true → r ≡ record { fault = 0; value = 0; at = t.at; number = t.first } → CountsOn text before n line kind r
        counts-goes b p =
            record {
              step = λ ws ok h.
                  ap (λ (y : ℕ). step_of text (ws ++ (y ∷ [])) r) (ap (λ (y : Spot). y.number) p ∙ value-small) ∙
                  (gone-step text (ws ++ (get_or f.numbers 0 0 ∷ [])) r t.at t.first p ∙
                  (ap (λ (y : List ℕ). goes (ws ++ y) (drop t.at text)) (sym alone) ∙
                  (ap (λ (y : List ℕ). goes (ws ++ f.numbers) y) (sym f.holds.rest) ∙
                  sym (due-front ws ok ∙ rw (test-is ws ok h ∙ b, sym f.holds.over ∙ o)))));
              inside = gone-inside text r t.at t.first p f.holds.inside;
            }

-- ---- the line of a record

take-written : (i width : ℕ) (vs words words' : List ℕ) → length vs ≡ width → i + width ≤ length words → words' ≡ written i vs words → take (i + width) words' ≡ take i words ++ vs
unfolding written
take-written i width vs words words' m h e =
    let a : i + length vs ≤ length words = omega arith in
    let b : length (take i words ++ vs) ≡ i + width = simp length-append (let c = length-take-le i words (omega arith) in omega arith) in
    rw (e, sets-eq vs words i a) (take_at (take i words ++ vs) (drop (i + length vs) words) (i + width) b)

drop-one : (ns : List ℕ) (width : ℕ) → length ns ≡ suc width → length (drop 1 ns) ≡ width
drop-one ns width h = length-drop 1 ns ∙ (let z : length ns - 1 ≡ width = omega arith in z)

module _ (text : List ℕ) (before : Spot) (line n : ℕ) (words : List ℕ) (i k places full : ℕ) (g : before.fault ≡ 0) (words' : List ℕ) (r : Spot) where
  record-step :
      record_line (table_of n places full) line k (step_of text (take i words) before) ≡
      record_by (table_of n places full) line k (take i words) (drop before.at text) (taken (form_at n) (drop before.at text))
  record-step = ap (record_line (table_of n places full) line k) (step_of-goes text (take i words) before g)

  fault-room : (a b : ℕ) → r ≡ record { fault = a; value = b; at = 0; number = 0 } → 0 < a → {A : Type 0} → r.fault ≡ 0 → A
  fault-room a b p l z = absurd (let y : a ≡ 0 = sym (ap (λ (s : Spot). s.fault) p) ∙ z in let x : ⊥ = omega arith in x)

  pub record-lost :
      (s : ℕ) → Holds text i words words' None (taken (form_at n) (drop before.at text)) → s ≡ stray (drop before.at text) → length words' ≡ length words → r ≡ record { fault = s; value = line; at = 0; number = 0 } →
      RecordOn text before line n words i k places full r words'
  record-lost s h q m p =
      let z : 0 < s = let y = stray-ge (drop before.at text) in omega arith in
      record {
        step = λ width one room never. stopped-step text (take (i + width) words') r s line p z ∙
            (ap (λ (y : ℕ). stops y line) q ∙
            sym (record-step ∙ ap (record_by (table_of n places full) line k (take i words) (drop before.at text)) (lost-of text i words words' (taken (form_at n) (drop before.at text)) h)));
        room = λ y u. fault-room s line p z y;
        inside = stopped-inside text r s line p;
        same = m;
      }

  module _ (t : Taking) (h : Holds text i words words' (Some t) (taken (form_at n) (drop before.at text))) where
    held_by : FrontOf text i words words' t (taken (form_at n) (drop before.at text))
    held_by = front_of (taken (form_at n) (drop before.at text)) h

    record-front :
        record_line (table_of n places full) line k (step_of text (take i words) before) ≡
        cond (any_over held_by.numbers) (stops 25 line) (cond (eqb (get_or held_by.numbers 0 0) k)
        (cond (ltb k places) (goes (take i words ++ drop 1 held_by.numbers) held_by.rest) (stops full places)) (stops 26 line))
    record-front = record-step ∙ ap (record_by (table_of n places full) line k (take i words) (drop before.at text)) held_by.is

    pub record-large : t.over ≡ true → r ≡ record { fault = 25; value = line; at = 0; number = 0 } → RecordOn text before line n words i k places full r words'
    record-large o p =
        record {
          step = λ width one room never. stopped-step text (take (i + width) words') r 25 line p (omega arith) ∙ sym (record-front ∙ rw (sym held_by.holds.over ∙ o));
          room = λ y u. fault-room 25 line p (omega arith) y;
          inside = stopped-inside text r 25 line p;
          same = held_by.holds.same;
        }

    module _ (o : t.over ≡ false) where
      none_over : any_over held_by.numbers ≡ false
      none_over = sym held_by.holds.over ∙ o

      first-is : (ns : List ℕ) → any_over ns ≡ false → t.first ≡ min (get_or ns 0 0) 4294967296 → t.first ≡ get_or ns 0 0
      first-is [] q w = w
      first-is (v ∷ ns) q w = let l = any_over-first v ns q in omega arith

      first-number : t.first ≡ get_or held_by.numbers 0 0
      first-number = first-is held_by.numbers none_over held_by.holds.first

      pub record-other :
          (t.first ≡ k → ⊥) → r ≡ record { fault = 26; value = line; at = 0; number = 0 } → RecordOn text before line n words i k places full r words'
      record-other w p =
          record {
            step = λ width one room never. stopped-step text (take (i + width) words') r 26 line p (omega arith) ∙
                sym (record-front ∙ rw (none_over, ne_eqb (get_or held_by.numbers 0 0) k (λ y. w (first-number ∙ y))));
            room = λ y u. fault-room 26 line p (omega arith) y;
            inside = stopped-inside text r 26 line p;
            same = held_by.holds.same;
          }

      pub record-full :
          t.first ≡ k → places ≤ k → r ≡ record { fault = full; value = places; at = 0; number = 0 } → RecordOn text before line n words i k places full r words'
      record-full w l p =
          record {
            step = λ width one room never. stopped-step text (take (i + width) words') r full places p (positive full never) ∙
                sym (record-front ∙ rw (none_over, eq-eqb (get_or held_by.numbers 0 0) k (sym first-number ∙ w), le-ltb k places l));
            room = λ y u. fault-room full places p (positive full u) y;
            inside = stopped-inside text r full places p;
            same = held_by.holds.same;
          } where
            positive : (n : ℕ) → (n ≡ 0 → ⊥) → 0 < n
            positive n f = omega arith

      pub record-goes :
          t.first ≡ k → k < places → r ≡ record { fault = 0; value = 0; at = t.at; number = 0 } → RecordOn text before line n words i k places full r words'
      record-goes w l p =
          record {
            step = λ width one room never.
                let m : length (drop 1 held_by.numbers) ≡ width = drop-one held_by.numbers width (taken-many (form_at n) (drop before.at text) held_by.is ∙ one) in
                let a : take (i + width) words' ≡ take i words ++ drop 1 held_by.numbers =
                take-written i width (drop 1 held_by.numbers) words words' m (room (omega arith)) (held_by.holds.words none_over) in
                gone-step text (take (i + width) words') r t.at 0 p ∙
                (ap (λ (y : List ℕ). goes y (drop t.at text)) a ∙
                (ap (λ (y : List ℕ). goes (take i words ++ drop 1 held_by.numbers) y) (sym held_by.holds.rest) ∙
                sym (record-front ∙ rw (none_over, eq-eqb (get_or held_by.numbers 0 0) k (sym first-number ∙ w), lt-ltb k places l))));
            room = λ y u. omega arith;
            inside = gone-inside text r t.at 0 p held_by.holds.inside;
            same = held_by.holds.same;
          }

-- ---- the records of a table

pub record RecordsSoFar (text : List ℕ) (before : Spot) (line n width count full : ℕ) (words : List ℕ) (k i : ℕ) (r : Spot) (words' : List ℕ) : Type 0 where
  pub few : k ≤ count
  pub place : i ≡ width * k
  pub room : r.fault ≡ 0 → i ≤ length words
  pub near : i ≤ length words + width
  pub inside : r.at ≤ length text
  pub same : length words' ≡ length words
  pub on : records (table_of n (length words / width) full) line 0 count (step_of text [] before) ≡
      records (table_of n (length words / width) full) (line + k) k (count - k) (step_of text (take i words') r)

pub records-first :
    (text : List ℕ) (before : Spot) (line n width count full : ℕ) (words : List ℕ) → before.at ≤ length text →
    RecordsSoFar text before line n width count full words 0 0 before words
records-first text before line n width count full words h =
    record {
      few = omega arith;
      place = sym (mul-zero width);
      room = λ z. omega arith;
      near = omega arith;
      inside = h;
      same = refl;
      on = rw (add-zero line, sub-zero count);
    }

records-step :
    (t : Table) (line k m : ℕ) (st : Step) → k < m → records t (line + k) k (m - k) st ≡ records t (line + (k + 1)) (k + 1) (m - (k + 1)) (record_line t (line + k) k st)
unfolding records
records-step t line k m st h = go (m - k) (m - (k + 1)) (omega arith) where
  go : (a b : ℕ) → a ≡ b + 1 → records t (line + k) k a st ≡ records t (line + (k + 1)) (k + 1) b (record_line t (line + k) k st)
  go zero b e = absurd (let z : ⊥ = omega arith in z)
  go (suc a) b e =
      let p : a ≡ b = omega arith in
      let q : line + k + 1 ≡ line + (k + 1) = omega arith in
      rw (p, q)

places-room : (width k m len : ℕ) → k + 1 ≤ len / width → m ≡ width * k → m + width ≤ len
places-room width k m len h e =
    let a : width * (k + 1) ≤ width * (len / width) = mul-le-mul_left width h in
    let b : width * (len / width) ≤ len = mul-div-le len width in
    let c : width * (k + 1) ≡ width * k + width = ap (λ (x : ℕ). width * x) (add-one k) ∙ mul-suc width k in
    omega arith

pub records-more :
    (text : List ℕ) (before : Spot) (line n width count full : ℕ) (words : List ℕ) (k i : ℕ) (p r : Spot) (ws ws' : List ℕ) →
    RecordsSoFar text before line n width count full words k i p ws → k < count → p.fault ≡ 0 → equals_in (form_at n) ≡ suc width → 0 < full →
    RecordOn text p (line + k) n ws i k (length words / width) full r ws' → RecordsSoFar text before line n width count full words (k + 1) (i + width) r ws'
records-more text before line n width count full words k i p r ws ws' s h z one l o =
    let d = s.place in
    let sm = s.same in
    let rm = s.room z in
    let never : full ≡ 0 → ⊥ = λ y. let x : ⊥ = omega arith in x in
    record {
      few = omega arith;
      place = (let c = ap (λ (x : ℕ). width * x) (add-one k) ∙ mul-suc width k in let e : i + width ≡ width * (k + 1) = omega arith in e);
      room = λ y. places-room width k i (length words) (o.room y never) d;
      near = omega arith;
      inside = o.inside;
      same = o.same ∙ sm;
      on = s.on ∙ (records-step (table_of n (length words / width) full) line k count (step_of text (take i ws) p) h ∙
          ap (λ (y : Step). records (table_of n (length words / width) full) (line + (k + 1)) (k + 1) (count - (k + 1)) y)
          (sym (o.step width one (λ y. rw sm (places-room width k i (length words) y d)) never)));
    }

records-none : (t : Table) (line k : ℕ) (st : Step) (m : ℕ) → m ≡ 0 → records t line k m st ≡ st
unfolding records
records-none t line k st m e = rw e

module _ (text : List ℕ) (before : Spot) (line n width count full : ℕ) (words : List ℕ) (k i : ℕ) (r : Spot) (ws : List ℕ)
    (s : RecordsSoFar text before line n width count full words k i r ws) where
  pub records-stopped : (r.fault ≡ 0 → ⊥) → RecordsOn text before line n width count full words r ws
  records-stopped h =
      record {
        step = step_of-stops text (take (width * count) ws) r h ∙
            sym (s.on ∙ (ap (records (table_of n (length words / width) full) (line + k) k (count - k)) (step_of-stops text (take i ws) r h) ∙
            records-stops (table_of n (length words / width) full) (line + k) k (count - k) r.fault r.value));
        room = λ z. absurd (h z);
        inside = s.inside;
        same = s.same;
      }

  pub records-done : count ≤ k → RecordsOn text before line n width count full words r ws
  records-done h =
      let f = s.few in
      let e : k ≡ count = omega arith in
      let d : i ≡ width * count = s.place ∙ ap (λ (x : ℕ). width * x) e in
      let z : count - k ≡ 0 = omega arith in
      record {
        step = ap (λ (x : ℕ). step_of text (take x ws) r) (sym d) ∙ sym (s.on ∙ records-none (table_of n (length words / width) full) (line + k) k (step_of text (take i ws) r) (count - k) z);
        room = λ y. rw (← d) (s.room y);
        inside = s.inside;
        same = s.same;
      }

-- ---- the end

module _ (text : List ℕ) (before : Spot) (line : ℕ) where
  pub ends-stopped : (before.fault ≡ 0 → ⊥) → before.at ≤ length text → EndsOn text before line before
  ends-stopped h i = record { step = λ ws. step_of-stops text ws before h ∙ sym (ap (ended line) (step_of-stops text ws before h)); inside = i }

  pub ends_there : before.fault ≡ 0 → before.at ≡ length text → EndsOn text before line before
  ends_there g e =
      record { step = λ ws. step_of-goes text ws before g ∙ sym (ap (ended line) (step_of-goes text ws before g) ∙ at-end ws); inside = (let z : before.at ≤ length text = omega arith in z) } where
        at-end : (ws : List ℕ) → ended line (goes ws (drop before.at text)) ≡ goes ws (drop before.at text)
        at-end ws = rw (drop_of_length-le text (let z : length text ≤ before.at = omega arith in z))

  pub ends-stray :
      (s : ℕ) (r : Spot) → before.fault ≡ 0 → before.at < length text → s ≡ stray (drop before.at text) → r ≡ record { fault = s; value = line; at = 0; number = 0 } →
      EndsOn text before line r
  ends-stray s r g h q p =
      record {
        step = λ ws. stopped-step text ws r s line p (let y = stray-ge (drop before.at text) in omega arith) ∙
            (ap (λ (y : ℕ). stops y line) q ∙ sym (ap (ended line) (step_of-goes text ws before g) ∙ at_more ws));
        inside = stopped-inside text r s line p;
      } where
        at_more : (ws : List ℕ) → ended line (goes ws (drop before.at text)) ≡ stops (stray (drop before.at text)) line
        at_more ws = rw (drop-cons text before.at 0 h)
