-- Lines that are due: what is printed is taken, and what is taken is what is printed. No contract cites this file.
-- In order: refusals, numbers of 32 bits, a line of the head, a record, the records of a table.
use Prim.Native.Nat.{ℕ, zero, suc, ◌+◌, ◌*◌, ◌≤◌, ◌<◌}
use mathlib.Core.Path.{◌≡◌, refl, sym, ap, ◌∙◌}
use mathlib.Core.Bool.{Bool, true, false, cond, ◌||◌}
use mathlib.Core.List.{List, [], ◌∷◌, ◌++◌, append_assoc, append-nil}
use native.Mathlib.Omega.{arith}
use native.Mathlib.Nat.{mul-zero, mul-suc, add_comm}
use borrow.Author.Tests.{eq-eqb, eqb-true, lt-ltb, le-ltb, ltb-true}
use lib.Dec.{eqb, ltb}
use lib.ListN.{length, take, drop, get_or, length-append, length-drop}
use lib.Seq.{take-add, drop_at}
use Rattle.listing_text.specs.Listing.{Field, Line, field, line_text, lines_text, record_lines}
use Rattle.listing_back.specs.Forms.{form_text, Front, lost, front, held, taken}
use Rattle.listing_back.specs.Due.{Step, stops, goes, is_over, any_over, stray, Test, head_by, head_line, Table, record_by, record_line, records}
use Rattle.listing_back.specs.Back.{head_form}
use Rattle.listing_back.proofs.Lines.{plain_key, plain_keys, numbers_in, fill, neither, any_over-first, any_over-others, Lined, line_taken, line-back}
use Rattle.listing_back.proofs.Sorts.{Sort, numbers-take, filled-by}

-- ---- refusals stay

pub records-stops : (t : Table) (line k n a b : ℕ) → records t line k n (stops a b) ≡ stops a b
unfolding records
records-stops t line k zero a b = refl
records-stops t line k (suc n) a b = records-stops t (line + 1) (k + 1) n a b

pub stops-never : (a b : ℕ) (ms r : List ℕ) {A : Type 0} → stops a b ≡ goes ms r → A
stops-never a b ms r e = absurd (let z : ◌≡◌ {A = ℕ} 0 1 = cc in let y : ⊥ = omega arith in y)

-- ---- numbers of 32 bits

or_assoc : (a b c : Bool) → (a || (b || c)) ≡ ((a || b) || c)
or_assoc true b c = refl
or_assoc false b c = refl

pub any_over-append : (a b : List ℕ) → any_over (a ++ b) ≡ (any_over a || any_over b)
unfolding any_over
any_over-append [] b = refl
any_over-append (n ∷ a) b = rw (any_over-append a b) (or_assoc (is_over n) (any_over a) (any_over b))

pub any_over-cons : (n : ℕ) (ns : List ℕ) → n < 4294967296 → any_over ns ≡ false → any_over (n ∷ ns) ≡ false
unfolding any_over
any_over-cons n ns h e = rw (le-ltb 4294967295 n (omega arith)) e

pub no-over : any_over [] ≡ false
unfolding any_over
no-over = refl

-- ---- a line of the head

head-goes : (line n : ℕ) (ok : Test) (ws s r : List ℕ) → ok ws n ≡ true → n < 4294967296 → head_by ok line ws s (front (n ∷ []) r) ≡ goes (ws ++ (n ∷ [])) r
head-goes line n ok ws s r o h = rw (o, any_over-cons n [] h no-over)

pub head-taken :
    (key : List ℕ) (line n : ℕ) (ok : Test) (ws r : List ℕ) → plain_key key ≡ true → ok ws n ≡ true → n < 4294967296 →
    head_line (head_form key) line ok (goes ws (line_text (field key n ∷ []) ++ r)) ≡ goes (ws ++ (n ∷ [])) r
unfolding form_text numbers_in plain_keys
head-taken key line n ok ws r p o h =
    ap (λ (x : Front). head_by ok line ws (line_text (field key n ∷ []) ++ r) x)
    (line_taken (field key n) [] [] r (rw p) (any_over-cons n [] h no-over)) ∙
    head-goes line n ok ws (line_text (field key n ∷ []) ++ r) r o h

record OneLine (key s ns u : List ℕ) : Type 0 where
  value : ℕ
  all : ns ≡ value ∷ []
  printed : value < 4294967296 → s ≡ line_text (field key value ∷ []) ++ u

one_line : (key s : List ℕ) {ns u : List ℕ} → plain_key key ≡ true → taken (head_form key) s ≡ front ns u → OneLine key s ns u
unfolding plain_keys fill
one_line key s {ns} {u} p e =
    let l = line-back (field key 0) [] [] s (rw p) e in
    go l.values l.many l.all l.printed where
      go :
          (vs : List ℕ) → length vs ≡ 1 → ns ≡ vs → (any_over vs ≡ false → s ≡ line_text (fill (field key 0 ∷ []) vs) ++ u) → OneLine key s ns u
      go [] m a q = absurd (let z : ⊥ = omega arith in z)
      go (v ∷ []) m a q = record { value = v; all = a; printed = λ h. q (any_over-cons v [] h no-over) }
      go (v ∷ w ∷ vs) m a q = absurd (let z : ⊥ = omega arith in z)

pub record Headed (key : List ℕ) (ok : Test) (st : Step) (ms r : List ℕ) : Type 0 where
  pub before : List ℕ
  pub text : List ℕ
  pub value : ℕ
  pub from : st ≡ goes before text
  pub all : ms ≡ before ++ (value ∷ [])
  pub printed : text ≡ line_text (field key value ∷ []) ++ r
  pub passed : ok before value ≡ true
  pub small : value < 4294967296

headed :
    (key : List ℕ) (ok : Test) (ws s : List ℕ) {ns u ms r : List ℕ} → OneLine key s ns u → ok ws (get_or ns 0 0) ≡ true → any_over ns ≡ false →
    goes (ws ++ ns) u ≡ goes ms r → Headed key ok (goes ws s) ms r
headed key ok ws s {ns} {u} {ms} {r} o p q e =
    let g : get_or ns 0 0 ≡ o.value = ap (λ (x : List ℕ). get_or x 0 0) o.all in
    let h : o.value < 4294967296 = any_over-first o.value [] (sym (ap any_over o.all) ∙ q) in
    let a : ws ++ ns ≡ ms = cc in
    let b : u ≡ r = cc in
    record {
      before = ws;
      text = s;
      value = o.value;
      from = refl;
      all = sym a ∙ ap (λ (x : List ℕ). ws ++ x) o.all;
      printed = o.printed h ∙ ap (λ (x : List ℕ). line_text (field key o.value ∷ []) ++ x) b;
      passed = sym (ap (ok ws) g) ∙ p;
      small = h;
    }

pub head-back :
    (key : List ℕ) (line : ℕ) (ok : Test) (st : Step) {ms r : List ℕ} → plain_key key ≡ true → head_line (head_form key) line ok st ≡ goes ms r →
    Headed key ok st ms r
head-back key line ok (stops a b) {ms} {r} p e = stops-never a b ms r e
head-back key line ok (goes ws s) {ms} {r} p e = by_front (taken (head_form key) s) refl e where
  by_tests :
      (ns u : List ℕ) (a b : Bool) → taken (head_form key) s ≡ front ns u → ok ws (get_or ns 0 0) ≡ a → any_over ns ≡ b →
      cond a (cond b (stops 25 line) (goes (ws ++ ns) u)) (stops 24 line) ≡ goes ms r → Headed key ok (goes ws s) ms r
  by_tests ns u false b q x y f = stops-never 24 line ms r f
  by_tests ns u true true q x y f = stops-never 25 line ms r f
  by_tests ns u true false q x y f = headed key ok ws s (one_line key s p q) x y f

  by_front : (x : Front) → taken (head_form key) s ≡ x → head_by ok line ws s x ≡ goes ms r → Headed key ok (goes ws s) ms r
  by_front lost q f = stops-never (stray s) line ms r f
  by_front (front ns u) q f = by_tests ns u (ok ws (get_or ns 0 0)) (any_over ns) q refl refl f

-- ---- a line that is known by its fields

line-taken-by :
    (l : Line) (f : Field) (fs : Line) (r : List ℕ) → l ≡ f ∷ fs → plain_keys l ≡ true → any_over (numbers_in l) ≡ false →
    held (form_text l) (front [] (line_text l ++ r)) ≡ front (numbers_in l) r
line-taken-by l f fs r e p q = rw e (line_taken f fs [] r (rw e at p) (rw e at q))

line-back-by :
    (l : Line) (f : Field) (fs : Line) (s : List ℕ) {ns u : List ℕ} → l ≡ f ∷ fs → plain_keys l ≡ true → held (form_text l) (front [] s) ≡ front ns u →
    Lined l [] s ns u
line-back-by l f fs s e p q = rw e (line-back f fs [] s (rw e at p) (rw e at q))

-- ---- records

pub record OneRecord (places width : ℕ) (line : ℕ → List ℕ → Line) (k : ℕ) (ws s ms r : List ℕ) : Type 0 where
  pub values : List ℕ
  pub all : ms ≡ ws ++ values
  pub many : length values ≡ width
  pub small : any_over values ≡ false
  pub room : k < places
  pub printed : (more : List ℕ) → s ≡ line_text (line k (values ++ more)) ++ r

pub record ManyRecords (places width : ℕ) (line : ℕ → List ℕ → Line) (k n : ℕ) (ws s ms r : List ℕ) : Type 0 where
  pub values : List ℕ
  pub all : ms ≡ ws ++ values
  pub many : length values ≡ width * n
  pub small : any_over values ≡ false
  pub room : 0 < n → k + n ≤ places
  pub printed : (more : List ℕ) → s ≡ lines_text (record_lines width line k n (values ++ more)) ++ r

lines_more :
    (width : ℕ) (line : ℕ → List ℕ → Line) (k n : ℕ) (w r : List ℕ) → width ≤ length w →
    lines_text (record_lines width line k (suc n) w) ++ r ≡ line_text (line k w) ++ (lines_text (record_lines width line (k + 1) n (drop width w)) ++ r)
unfolding lines_text record_lines
lines_more width line k n w r h = rw (le-ltb (length w) width h) (append_assoc (line_text (line k w)) (lines_text (record_lines width line (k + 1) n (drop width w))) r)

module _ (t : Table) {width : ℕ} {line : ℕ → List ℕ → Line} (sort : Sort width line) (same : t.form ≡ form_text (line 0 [])) where
  record-front :
      (k : ℕ) (w r : List ℕ) → width ≤ length w → any_over (k ∷ take width w) ≡ false → taken t.form (line_text (line k w) ++ r) ≡ front (k ∷ take width w) r
  record-front k w r h o =
      let e = numbers-take sort k w h in
      ap (λ (x : List ℕ). held x (front [] (line_text (line k w) ++ r))) (same ∙ sym (sort.form k w)) ∙
      (line-taken-by (line k w) (sort.first k w) (sort.others k w) r (sort.shape k w) (sort.plain k w) (ap any_over e ∙ o) ∙
      ap (λ (x : List ℕ). front x r) e)

  record-goes :
      (ln k : ℕ) (ws s vs r : List ℕ) → any_over (k ∷ vs) ≡ false → k < t.places → record_by t ln k ws s (front (k ∷ vs) r) ≡ goes (ws ++ vs) r
  record-goes ln k ws s vs r o h = rw (o, eq-eqb k k refl, lt-ltb k t.places h)

  pub record-taken :
      (ln k : ℕ) (ws w r : List ℕ) → width ≤ length w → any_over (k ∷ take width w) ≡ false → k < t.places →
      record_line t ln k (goes ws (line_text (line k w) ++ r)) ≡ goes (ws ++ take width w) r
  record-taken ln k ws w r h o p =
      ap (λ (x : Front). record_by t ln k ws (line_text (line k w) ++ r) x) (record-front k w r h o) ∙
      record-goes ln k ws (line_text (line k w) ++ r) (take width w) r o p

  pub records-taken :
      (n ln k : ℕ) (ws w r : List ℕ) → k + n ≤ t.places → k + n ≤ 4294967296 → width * n ≤ length w → any_over (take (width * n) w) ≡ false →
      records t ln k n (goes ws (lines_text (record_lines width line k n w) ++ r)) ≡ goes (ws ++ take (width * n) w) r
  unfolding records lines_text record_lines
  records-taken zero ln k ws w r a b c d = rw (mul-zero width, append-nil)
  records-taken (suc n) ln k ws w r a b c d =
      let m : width * suc n ≡ width + width * n = mul-suc width n ∙ add_comm (width * n) width in
      let s : take (width * suc n) w ≡ take width w ++ take (width * n) (drop width w) = ap (λ (x : ℕ). take x w) m ∙ take-add width (width * n) w in
      let o = neither (any_over (take width w)) (any_over (take (width * n) (drop width w)))
      (sym (any_over-append (take width w) (take (width * n) (drop width w))) ∙ (ap any_over (sym s) ∙ d)) in
      let h : width ≤ length w = omega arith in
      let i : width * n ≤ length (drop width w) = rw (length-drop width w) (omega arith) in
      let rest : List ℕ = lines_text (record_lines width line (k + 1) n (drop width w)) ++ r in
      ap (λ (x : List ℕ). records t ln k (suc n) (goes ws x)) (lines_more width line k n w r h) ∙
      (ap (λ (x : Step). records t (ln + 1) (k + 1) n x) (record-taken ln k ws w rest h (any_over-cons k (take width w) (omega arith) o.0) (omega arith)) ∙
      (records-taken n (ln + 1) (k + 1) (ws ++ take width w) (drop width w) r (omega arith) (omega arith) i o.1 ∙
      ap (λ (x : List ℕ). goes x r) (append_assoc ws (take width w) (take (width * n) (drop width w)) ∙ ap (λ (x : List ℕ). ws ++ x) (sym s))))

  record-made :
      (k v : ℕ) (vs ws s : List ℕ) {u ms r : List ℕ} → length vs ≡ width → v ≡ k → any_over (v ∷ vs) ≡ false →
      s ≡ line_text (fill (line 0 []) (v ∷ vs)) ++ u → goes (ws ++ vs) u ≡ goes ms r → k < t.places → OneRecord t.places width line k ws s ms r
  record-made k v vs ws s {u} {ms} {r} m e o p f h =
      let a : ws ++ vs ≡ ms = cc in
      let b : u ≡ r = cc in
      record {
        values = vs;
        all = sym a;
        many = m;
        small = any_over-others v vs o;
        room = h;
        printed = λ more. p ∙ (ap (λ (x : Line). line_text x ++ u) (ap (λ (x : ℕ). fill (line 0 []) (x ∷ vs)) e ∙ filled-by sort k vs more m) ∙
            ap (λ (x : List ℕ). line_text (line k (vs ++ more)) ++ x) b);
      }

  record-fields :
      (k : ℕ) (ns ws s : List ℕ) {u ms r : List ℕ} → Lined (line 0 []) [] s ns u → get_or ns 0 0 ≡ k → any_over ns ≡ false →
      goes (ws ++ drop 1 ns) u ≡ goes ms r → k < t.places → OneRecord t.places width line k ws s ms r
  record-fields k ns ws s {u} {ms} {r} l e o f h = go ns l.all e o f where
    utf16 : (ns : List ℕ) → ns ≡ l.values → length ns ≡ suc width
    utf16 ns q = ap length q ∙ (l.many ∙ sort.many)

    text : (ns : List ℕ) → ns ≡ l.values → any_over ns ≡ false → s ≡ line_text (fill (line 0 []) ns) ++ u
    text ns q o = l.printed (sym (ap any_over q) ∙ o) ∙ ap (λ (x : List ℕ). line_text (fill (line 0 []) x) ++ u) (sym q)

    go :
        (ns : List ℕ) → ns ≡ l.values → get_or ns 0 0 ≡ k → any_over ns ≡ false → goes (ws ++ drop 1 ns) u ≡ goes ms r →
        OneRecord t.places width line k ws s ms r
    go [] q e o f = absurd (let z : ⊥ = omega (arith, utf16 [] q) in z)
    go (v ∷ vs) q e o f = record-made k v vs ws s (let z = utf16 (v ∷ vs) q in omega arith) e o (text (v ∷ vs) q o) f h

  pub record-back : (ln k : ℕ) (ws s : List ℕ) {ms r : List ℕ} → record_line t ln k (goes ws s) ≡ goes ms r → OneRecord t.places width line k ws s ms r
  record-back ln k ws s {ms} {r} e = by_front (taken t.form s) refl e where
    by_tests :
        (ns u : List ℕ) (a b c : Bool) → taken t.form s ≡ front ns u → any_over ns ≡ a → eqb (get_or ns 0 0) k ≡ b → ltb k t.places ≡ c →
        cond a (stops 25 ln) (cond b (cond c (goes (ws ++ drop 1 ns) u) (stops t.full t.places)) (stops 26 ln)) ≡ goes ms r →
        OneRecord t.places width line k ws s ms r
    by_tests ns u true b c q x y z f = stops-never 25 ln ms r f
    by_tests ns u false false c q x y z f = stops-never 26 ln ms r f
    by_tests ns u false true false q x y z f = stops-never t.full t.places ms r f
    by_tests ns u false true true q x y z f =
        let l = line-back-by (line 0 []) (sort.first 0 []) (sort.others 0 []) s (sort.shape 0 []) (sort.plain 0 [])
        (sym (ap (λ (v : List ℕ). held v (front [] s)) same) ∙ q) in
        record-fields k ns ws s l (eqb-true (get_or ns 0 0) k y) x f (ltb-true k t.places z)

    by_front : (x : Front) → taken t.form s ≡ x → record_by t ln k ws s x ≡ goes ms r → OneRecord t.places width line k ws s ms r
    by_front lost q f = stops-never (stray s) ln ms r f
    by_front (front ns u) q f = by_tests ns u (any_over ns) (eqb (get_or ns 0 0) k) (ltb k t.places) q refl refl refl f

  records-made :
      (k n : ℕ) (ws ws' s s' : List ℕ) {ms r : List ℕ} → OneRecord t.places width line k ws s ws' s' →
      ManyRecords t.places width line (k + 1) n ws' s' ms r → ManyRecords t.places width line k (suc n) ws s ms r
  records-made k n ws ws' s s' {ms} {r} o m =
      record {
        values = o.values ++ m.values;
        all = m.all ∙ (ap (λ (x : List ℕ). x ++ m.values) o.all ∙ append_assoc ws o.values m.values);
        many =
            length-append o.values m.values ∙
            (let a = o.many in let b = m.many in let c = mul-suc width n in let d : length o.values + length m.values ≡ width * suc n =
            omega arith in d);
        small = any_over-append o.values m.values ∙ rw o.small m.small;
        room = λ z. room n m.room;
        printed = λ more. text more;
      } where
        room : (n : ℕ) → (0 < n → k + 1 + n ≤ t.places) → k + suc n ≤ t.places
        room zero f = let h = o.room in omega arith
        room (suc n) f = let h = f (omega arith) in omega arith

        text : (more : List ℕ) → s ≡ lines_text (record_lines width line k (suc n) ((o.values ++ m.values) ++ more)) ++ r
        text more =
            let w : List ℕ = o.values ++ (m.values ++ more) in
            let a : (o.values ++ m.values) ++ more ≡ w = append_assoc o.values m.values more in
            let d : drop width w ≡ m.values ++ more = drop_at o.values (m.values ++ more) width o.many in
            let h : width ≤ length w = simp length-append (let b = o.many in omega arith) in
            o.printed (m.values ++ more) ∙
            (ap (λ (x : List ℕ). line_text (line k w) ++ x)
            (m.printed more ∙ ap (λ (x : List ℕ). lines_text (record_lines width line (k + 1) n x) ++ r) (sym d)) ∙
            (sym (lines_more width line k n w r h) ∙ ap (λ (x : List ℕ). lines_text (record_lines width line k (suc n) x) ++ r) (sym a)))

  pub records-back :
      (n ln k : ℕ) (ws s : List ℕ) {ms r : List ℕ} → records t ln k n (goes ws s) ≡ goes ms r → ManyRecords t.places width line k n ws s ms r
  unfolding records lines_text record_lines
  records-back zero ln k ws s {ms} {r} e =
      let a : ws ≡ ms = cc in
      let b : s ≡ r = cc in
      record { values = []; all = sym a ∙ sym (append-nil ws); many = sym (mul-zero width); small = no-over; room = λ z. absurd (let y : ⊥ = omega arith in y); printed = λ more. b }
  records-back (suc n) ln k ws s {ms} {r} e = go (record_line t ln k (goes ws s)) refl (λ ws' s' f. records-back n (ln + 1) (k + 1) ws' s' f) e where
    go :
        (st : Step) → record_line t ln k (goes ws s) ≡ st →
        ((ws' s' : List ℕ) → records t (ln + 1) (k + 1) n (goes ws' s') ≡ goes ms r → ManyRecords t.places width line (k + 1) n ws' s' ms r) →
        records t (ln + 1) (k + 1) n st ≡ goes ms r → ManyRecords t.places width line k (suc n) ws s ms r
    go (stops a b) q i f = stops-never a b ms r (sym (records-stops t (ln + 1) (k + 1) n a b) ∙ f)
    go (goes ws' s') q i f = records-made k n ws ws' s s' (record-back ln k ws s q) (i ws' s' f)
