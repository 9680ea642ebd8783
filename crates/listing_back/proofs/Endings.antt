-- The whole of `read_listing`, from what its parts promise. No contract cites this file.
-- In order: the head, the tables, the reader's own refusals, refusals from their numbers, zeros.
use Rattle.std.specs.Prelude.{Err}
use Prim.Native.Nat.{ℕ, zero, suc, ◌+◌, ◌*◌, ◌-◌, ◌/◌, ◌≤◌, ◌<◌}
use mathlib.Core.Path.{◌≡◌, refl, sym, ap, subst, ◌∙◌}
use mathlib.Core.Bool.{Bool, true, false, cond, not, ◌&&◌, ◌||◌}
use mathlib.Core.List.{List, [], ◌∷◌, ◌++◌}
use native.Mathlib.Omega.{arith}
use native.Mathlib.Nat.{sub-zero}
use borrow.Author.Tests.{eq-eqb, ne_eqb, le-leb, eqb-true, eqb-false, leb-true, ltb-true, ltb-false}
use lib.Dec.{eqb, leb, ltb}
use lib.ListN.{length, take, drop, get_or, replicate}
use lib.Seq.{length-take-le}
use Rattle.digits.specs.Written.{fitted}
use Rattle.errors.specs.declared.Numbers.{Numbers}
use Rattle.errors.specs.declared.Refusal.{Refusal}
use Rattle.errors.specs.Refusal.{numbers_of}
use Rattle.records.specs.Words.{node_width, attribute_width, note_width}
use Rattle.listing_text.specs.Keys.{refusal_key, value_key, cap_key, starts_key, nodes_key, attributes_key, notes_key}
use Rattle.listing_back.specs.Forms.{Front, lost, front, taken, forms_of, forms}
use Rattle.listing_back.specs.Due.{Step, stops, goes, any_over, stray_by, stray_in, stray, Test, head_by, head_line, Table, record_by, record_line, records, ended}
use Rattle.listing_back.specs.Back.{is_listed, is_plain, zero_where, refusal_test, value_test, any_test, count_test, notes_test, head_form, head_of}
use Rattle.listing_back.specs.Back.{head_numbers, Words, Relisting, Found, fault, found, node_table, attribute_table, note_table, in_notes}
use Rattle.listing_back.specs.Back.{in_attributes, in_nodes, in_head, relisting, fault_numbers, Relists}
use Rattle.listing_back.specs.Inner.Stands.{form_at}
use Rattle.listing_back.specs.Inner.Steps.{test_by, step_of, CountsOn, table_of, RecordsOn, EndsOn}
use Rattle.listing_back.specs.Inner.Whole.{heading_list, heading_numbers, spot_of, ReadsHead, TestedHeading, is_own, Sayable, Says, relisting_of, ReadsAll}
use Rattle.listing_back.specs.declared.stepping.Kind.{Kind}
use Rattle.listing_back.specs.declared.stepping.Kind.TheVariants.{Any, Code}
use Rattle.listing_back.specs.declared.stepping.Spot.{Spot}
use Rattle.listing_back.specs.declared.opening.Heading.{Heading}
use Rattle.listing_back.specs.declared.Relisted.{Relisted}
use Rattle.listing_back.proofs.Numerals.{both}
use Rattle.listing_back.proofs.Holding.{contra}
use Rattle.listing_back.proofs.Steps.{stops-never, records-stops}
use Rattle.listing_back.proofs.Strays.{listed-none, listed-gap, listed-map}
use Rattle.listing_back.proofs.Spots.{step_of-stops, step_of-goes}
use Rattle.listing_back.proofs.Heads.{line1, line2, line3, line4, line5, line6, head_of-lines}
use Rattle.listing_back.proofs.Whole.{relisting-said}

-- ---- the head

pub start-inside : (text : List ℕ) (s : Spot) → s ≡ record { fault = 0; value = 0; at = 0; number = 0 } → s.at ≤ length text
start-inside text s q = rw q (omega arith)

head-steps :
    (text : List ℕ) (s a b c d e f g : Spot) (kv kc kn : Kind) → s ≡ record { fault = 0; value = 0; at = 0; number = 0 } → CountsOn text s 0 1 Code a → CountsOn text a 1 2 kv b →
    ((v : ℕ) → zero_where (is_plain a.number) v ≡ test_by kv v) → CountsOn text b 2 3 Any c → ((v : ℕ) → zero_where (not (eqb a.number 0)) v ≡ test_by kc v) →
    CountsOn text c 3 4 kc d → CountsOn text d 4 5 kc e → CountsOn text e 5 6 kc f →
    ((v : ℕ) → (zero_where (not (eqb a.number 0)) v && zero_where (eqb c.number 0) v) ≡ test_by kn v) → CountsOn text f 6 7 kn g →
    step_of text (a.number ∷ b.number ∷ c.number ∷ d.number ∷ e.number ∷ f.number ∷ g.number ∷ []) g ≡ head_of text
unfolding form_at forms_of
head-steps text s a b c d e f g kv kc kn q h1 h2 t2 h3 tc h4 h5 h6 t7 h7 =
    let l1 : List ℕ = a.number ∷ [] in
    let l2 : List ℕ = a.number ∷ b.number ∷ [] in
    let l3 : List ℕ = a.number ∷ b.number ∷ c.number ∷ [] in
    let l4 : List ℕ = a.number ∷ b.number ∷ c.number ∷ d.number ∷ [] in
    let l5 : List ℕ = a.number ∷ b.number ∷ c.number ∷ d.number ∷ e.number ∷ [] in
    let l6 : List ℕ = a.number ∷ b.number ∷ c.number ∷ d.number ∷ e.number ∷ f.number ∷ [] in
    let s0 : step_of text [] s ≡ goes [] text = rw q in
    let s1 : step_of text l1 a ≡ head_line (head_form refusal_key) 1 refusal_test (goes [] text) =
    h1.step [] refusal_test (λ v. refl) ∙ ap (head_line (head_form refusal_key) 1 refusal_test) s0 in
    let s2 = h2.step l1 value_test t2 ∙ ap (head_line (head_form value_key) 2 value_test) s1 in
    let s3 = h3.step l2 any_test (λ v. refl) ∙ ap (head_line (head_form cap_key) 3 any_test) s2 in
    let s4 = h4.step l3 count_test tc ∙ ap (head_line (head_form starts_key) 4 count_test) s3 in
    let s5 = h5.step l4 count_test tc ∙ ap (head_line (head_form nodes_key) 5 count_test) s4 in
    let s6 = h6.step l5 count_test tc ∙ ap (head_line (head_form attributes_key) 6 count_test) s5 in
    h7.step l6 notes_test t7 ∙ (ap (head_line (head_form notes_key) 7 notes_test) s6 ∙ sym (head_of-lines text))

pub head_read :
    (text : List ℕ) (s a b c d e f g : Spot) (kv kc kn : Kind) (r : Heading) → s ≡ record { fault = 0; value = 0; at = 0; number = 0 } → CountsOn text s 0 1 Code a →
    CountsOn text a 1 2 kv b → ((v : ℕ) → zero_where (is_plain a.number) v ≡ test_by kv v) → CountsOn text b 2 3 Any c →
    ((v : ℕ) → zero_where (not (eqb a.number 0)) v ≡ test_by kc v) → CountsOn text c 3 4 kc d → CountsOn text d 4 5 kc e → CountsOn text e 5 6 kc f →
    ((v : ℕ) → (zero_where (not (eqb a.number 0)) v && zero_where (eqb c.number 0) v) ≡ test_by kn v) → CountsOn text f 6 7 kn g →
    r ≡ record {
      fault = g.fault;
      stop = g.value;
      at = g.at;
      refusal = a.number;
      value = b.number;
      cap = c.number;
      starts = d.number;
      nodes = e.number;
      attributes = f.number;
      notes = g.number;
    } → ReadsHead text r
head_read text s a b c d e f g kv kc kn r q h1 h2 t2 h3 tc h4 h5 h6 t7 h7 z =
    rw z (record { step = head-steps text s a b c d e f g kv kc kn q h1 h2 t2 h3 tc h4 h5 h6 t7 h7; inside = h7.inside })

-- ---- the tables

record Same (r p : Spot) : Type 0 where
  fault : r.fault ≡ p.fault
  value : r.value ≡ p.value

same-fault : (text ws : List ℕ) (r p : Spot) → step_of text ws r ≡ stops p.fault p.value → Same r p
same-fault text ws r p e = go (eqb r.fault 0) e where
  go : (t : Bool) → cond t (goes ws (drop r.at text)) (stops r.fault r.value) ≡ stops p.fault p.value → Same r p
  go true f = stops-never p.fault p.value ws (drop r.at text) (sym f)
  go false f = record { fault = cc; value = cc }

stage-same :
    (text : List ℕ) (t : Table) (line count : ℕ) (ws : List ℕ) (p r : Spot) → step_of text ws r ≡ records t line 0 count (step_of text [] p) → (p.fault ≡ 0 → ⊥) → Same r p
stage-same text t line count ws p r e h =
    same-fault text ws r p (e ∙ (ap (records t line 0 count) (step_of-stops text [] p h) ∙ records-stops t line 0 count p.fault p.value))

end_same : (text : List ℕ) (line : ℕ) (p r : Spot) → EndsOn text p line r → (p.fault ≡ 0 → ⊥) → Same r p
end_same text line p r e h = same-fault text [] r p (e.step [] ∙ ap (ended line) (step_of-stops text [] p h))

same-on : (q r p : Spot) → Same r p → Same q r → Same q p
same-on q r p a b = record { fault = b.fault ∙ a.fault; value = b.value ∙ a.value }

same-never : (r p : Spot) → Same r p → (p.fault ≡ 0 → ⊥) → r.fault ≡ 0 → ⊥
same-never r p s h e = h (sym s.fault ∙ e)

end_by : (r p : Spot) (x : Relisting) → Same r p → (p.fault ≡ 0 → ⊥) → fault p.fault p.value ≡ cond (eqb r.fault 0) (found x) (fault r.fault r.value)
end_by r p x s h = rw (s.fault, s.value, ne_eqb p.fault 0 h)

notes-by :
    (text hl ns ats os : List ℕ) (r : Spot) → in_notes hl ns ats (step_of text os r) ≡
    cond (eqb r.fault 0) (in_notes hl ns ats (goes os (drop r.at text))) (fault r.fault r.value)
notes-by text hl ns ats os r = go (eqb r.fault 0) where
  go :
      (t : Bool) → in_notes hl ns ats (cond t (goes os (drop r.at text)) (stops r.fault r.value)) ≡
      cond t (in_notes hl ns ats (goes os (drop r.at text))) (fault r.fault r.value)
  go true = refl
  go false = refl

module _ (text : List ℕ) (h : Heading) (ns ats os ns' ats' os' : List ℕ) (s a b c r : Spot) (q : s ≡ spot_of h) (k : ReadsHead text h)
    (m1 : RecordsOn text s 8 7 node_width h.nodes 8 ns a ns') (m2 : RecordsOn text a (8 + h.nodes) 8 attribute_width h.attributes 9 ats b ats')
    (m3 : RecordsOn text b (8 + h.nodes + h.attributes) 9 note_width h.notes 10 os c os')
    (m4 : EndsOn text c (8 + h.nodes + h.attributes + h.notes) r) where
  all-step :
      relisting (record { nodes = length ns; attributes = length ats; notes = length os }) text ≡
      cond (eqb r.fault 0) (found (relisting_of h ns' ats' os')) (fault r.fault r.value)
  unfolding relisting form_at forms_of
  all-step = by0 (eqb s.fault 0) refl where
    w : Words
    w = record { nodes = length ns; attributes = length ats; notes = length os }

    x : Relisting
    x = relisting_of h ns' ats' os'

    hl : List ℕ
    hl = heading_list h

    n1 : List ℕ
    n1 = take (node_width * h.nodes) ns'

    n2 : List ℕ
    n2 = take (attribute_width * h.attributes) ats'

    n3 : List ℕ
    n3 = take (note_width * h.notes) os'

    end : Found
    end = cond (eqb r.fault 0) (found x) (fault r.fault r.value)

    d3 : (c.fault ≡ 0 → ⊥) → Same r c
    d3 z = end_same text (8 + h.nodes + h.attributes + h.notes) c r m4 z

    d2 : (b.fault ≡ 0 → ⊥) → Same r b
    d2 z =
        let e = stage-same text (table_of 9 (length os / note_width) 10) (8 + h.nodes + h.attributes) h.notes n3 b c m3.step z in
        same-on r c b e (d3 (same-never c b e z))

    d1 : (a.fault ≡ 0 → ⊥) → Same r a
    d1 z =
        let e = stage-same text (table_of 8 (length ats / attribute_width) 9) (8 + h.nodes) h.attributes n2 a b m2.step z in
        same-on r b a e (d2 (same-never b a e z))

    d0 : (s.fault ≡ 0 → ⊥) → Same r s
    d0 z =
        let e = stage-same text (table_of 7 (length ns / node_width) 8) 8 h.nodes n1 s a m1.step z in
        same-on r a s e (d1 (same-never a s e z))

    s0 : step_of text hl s ≡ head_of text
    s0 = ap (step_of text hl) q ∙ k.step

    by3 : (t : Bool) → eqb c.fault 0 ≡ t → in_notes hl n1 n2 (ended (8 + h.nodes + h.attributes + h.notes) (step_of text n3 c)) ≡ end
    by3 t e = ap (in_notes hl n1 n2) (sym (m4.step n3)) ∙ notes-by text hl n1 n2 n3 r

    by2 : (t : Bool) → eqb b.fault 0 ≡ t → in_attributes w hl n1 (step_of text n2 b) ≡ end
    by2 true e =
        let g = step_of-goes text n2 b (eqb-true b.fault 0 e) in
        let g0 = step_of-goes text [] b (eqb-true b.fault 0 e) in
        ap (in_attributes w hl n1) g ∙
        (ap (λ (st : Step). in_notes hl n1 n2 (ended (8 + h.nodes + h.attributes + h.notes) (records (note_table w) (8 + h.nodes + h.attributes) 0 h.notes st))) (sym g0) ∙
        (ap (λ (st : Step). in_notes hl n1 n2 (ended (8 + h.nodes + h.attributes + h.notes) st)) (sym m3.step) ∙ by3 (eqb c.fault 0) refl))
    by2 false e =
        let z = eqb-false b.fault 0 e in
        ap (in_attributes w hl n1) (step_of-stops text n2 b z) ∙ end_by r b x (d2 z) z

    by1 : (t : Bool) → eqb a.fault 0 ≡ t → in_nodes w hl (step_of text n1 a) ≡ end
    by1 true e =
        let g = step_of-goes text n1 a (eqb-true a.fault 0 e) in
        let g0 = step_of-goes text [] a (eqb-true a.fault 0 e) in
        ap (in_nodes w hl) g ∙
        (ap (λ (st : Step). in_attributes w hl n1 (records (attribute_table w) (8 + h.nodes) 0 h.attributes st)) (sym g0) ∙
        (ap (in_attributes w hl n1) (sym m2.step) ∙ by2 (eqb b.fault 0) refl))
    by1 false e =
        let z = eqb-false a.fault 0 e in
        ap (in_nodes w hl) (step_of-stops text n1 a z) ∙ end_by r a x (d1 z) z

    by0 : (t : Bool) → eqb s.fault 0 ≡ t → in_head w (head_of text) ≡ end
    by0 true e =
        let g = step_of-goes text hl s (eqb-true s.fault 0 e) in
        let g0 = step_of-goes text [] s (eqb-true s.fault 0 e) in
        ap (in_head w) (sym s0 ∙ g) ∙
        (ap (λ (st : Step). in_nodes w hl (records (node_table w) 8 0 h.nodes st)) (sym g0) ∙
        (ap (in_nodes w hl) (sym m1.step) ∙ by1 (eqb a.fault 0) refl))
    by0 false e =
        let z = eqb-false s.fault 0 e in
        ap (in_head w) (sym s0 ∙ step_of-stops text hl s z) ∙ end_by r s x (d0 z) z

  r-zero : (p : Spot) → ((p.fault ≡ 0 → ⊥) → Same r p) → r.fault ≡ 0 → p.fault ≡ 0
  r-zero p d e = go (eqb p.fault 0) refl where
    go : (t : Bool) → eqb p.fault 0 ≡ t → p.fault ≡ 0
    go true f = eqb-true p.fault 0 f
    go false f = let z = eqb-false p.fault 0 f in sym (d z).fault ∙ e

  e3 : (c.fault ≡ 0 → ⊥) → Same r c
  e3 z = end_same text (8 + h.nodes + h.attributes + h.notes) c r m4 z

  e2 : (b.fault ≡ 0 → ⊥) → Same r b
  e2 z =
      let e = stage-same text (table_of 9 (length os / note_width) 10) (8 + h.nodes + h.attributes) h.notes (take (note_width * h.notes) os') b c m3.step z in
      same-on r c b e (e3 (same-never c b e z))

  e1 : (a.fault ≡ 0 → ⊥) → Same r a
  e1 z =
      let e = stage-same text (table_of 8 (length ats / attribute_width) 9) (8 + h.nodes) h.attributes (take (attribute_width * h.attributes) ats') a b m2.step z in
      same-on r b a e (e2 (same-never b a e z))

  pub all_read : ReadsAll text h ns ats os r ns' ats' os'
  all_read =
      record {
        stops = λ z. all-step ∙ rw (ne_eqb r.fault 0 z);
        goes = λ z. all-step ∙ rw (eq-eqb r.fault 0 z);
        nodes = ((λ z. m1.room (r-zero a e1 z)), m1.same);
        attributes = ((λ z. m2.room (r-zero b e2 z)), m2.same);
        notes = ((λ z. m3.room (r-zero c e3 z)), m3.same);
      }

-- ---- the reader's own refusals

abbrev Own : Step → Type 0
Own (stops a b) = is_own a ≡ true
Own (goes ws s) = Unit {0}

stray_by-own : (x : Front) (m : ℕ) → is_own m ≡ true → is_own (stray_by x m) ≡ true
stray_by-own lost m h = h
stray_by-own (front ns r) m h = by (any_over ns) where
  by : (t : Bool) → is_own (cond t 25 26) ≡ true
  by true = refl
  by false = refl

stray_in-own : (fs : List (List ℕ)) (s : List ℕ) → is_own (stray_in fs s) ≡ true
unfolding stray_in
stray_in-own [] s = refl
stray_in-own (form ∷ fs) s = stray_by-own (taken form s) (stray_in fs s) (stray_in-own fs s)

stray-own : (s : List ℕ) → is_own (stray s) ≡ true
unfolding stray
stray-own [] = refl
stray-own (b ∷ s) = stray_in-own forms (b ∷ s)

head-own : (form : List ℕ) (line : ℕ) (ok : Test) (st : Step) → Own st → Own (head_line form line ok st)
head-own form line ok (stops a b) h = h
head-own form line ok (goes ws s) h = go (taken form s) where
  by : (a b : Bool) (ns r : List ℕ) → Own (cond a (cond b (stops 25 line) (goes (ws ++ ns) r)) (stops 24 line))
  by false b ns r = refl
  by true true ns r = refl
  by true false ns r = tt

  go : (x : Front) → Own (head_by ok line ws s x)
  go lost = stray-own s
  go (front ns r) = by (ok ws (get_or ns 0 0)) (any_over ns) ns r

record-own : (t : Table) (line k : ℕ) (st : Step) → is_own t.full ≡ true → Own st → Own (record_line t line k st)
record-own t line k (stops a b) f h = h
record-own t line k (goes ws s) f h = go (taken t.form s) where
  by :
      (a b c : Bool) (ns r : List ℕ) →
      Own (cond a (stops 25 line) (cond b (cond c (goes (ws ++ drop 1 ns) r) (stops t.full t.places)) (stops 26 line)))
  by true b c ns r = refl
  by false false c ns r = refl
  by false true false ns r = f
  by false true true ns r = tt

  go : (x : Front) → Own (record_by t line k ws s x)
  go lost = stray-own s
  go (front ns r) = by (any_over ns) (eqb (get_or ns 0 0) k) (ltb k t.places) ns r

records-own : (t : Table) (line k n : ℕ) (st : Step) → is_own t.full ≡ true → Own st → Own (records t line k n st)
unfolding records
records-own t line k zero st f h = h
records-own t line k (suc n) st f h = records-own t (line + 1) (k + 1) n (record_line t line k st) f (record-own t line k st f h)

ended-own : (line : ℕ) (st : Step) → Own st → Own (ended line st)
ended-own line (stops a b) h = h
ended-own line (goes ws []) h = tt
ended-own line (goes ws (b ∷ s)) h = stray-own (b ∷ s)

head_of-own : (s : List ℕ) → Own (head_of s)
head_of-own s =
    let s1 = line1 (goes [] s) in
    let s2 = line2 s1 in
    let s3 = line3 s2 in
    let s4 = line4 s3 in
    let s5 = line5 s4 in
    let s6 = line6 s5 in
    let o1 : Own s1 = head-own (head_form refusal_key) 1 refusal_test (goes [] s) tt in
    let o2 : Own s2 = head-own (head_form value_key) 2 value_test s1 o1 in
    let o3 : Own s3 = head-own (head_form cap_key) 3 any_test s2 o2 in
    let o4 : Own s4 = head-own (head_form starts_key) 4 count_test s3 o3 in
    let o5 : Own s5 = head-own (head_form nodes_key) 5 count_test s4 o4 in
    let o6 : Own s6 = head-own (head_form attributes_key) 6 count_test s5 o5 in
    subst Own (sym (head_of-lines s)) (head-own (head_form notes_key) 7 notes_test s6 o6)

abbrev OwnFault : Found → Type 0
OwnFault (fault a b) = is_own a ≡ true
OwnFault (found x) = Unit {0}

whole-own : (w : Words) (s : List ℕ) → OwnFault (relisting w s)
unfolding relisting
whole-own w s = by-head (head_of s) (head_of-own s) where
  by-notes : (h ns ats : List ℕ) (st : Step) → Own st → OwnFault (in_notes h ns ats st)
  by-notes h ns ats (stops a b) o = o
  by-notes h ns ats (goes os r) o = tt

  by-attributes : (h ns : List ℕ) (st : Step) → Own st → OwnFault (in_attributes w h ns st)
  by-attributes h ns (stops a b) o = o
  by-attributes h ns (goes ats r) o =
      let line = 8 + (head_numbers h).nodes + (head_numbers h).attributes in
      let st = records (note_table w) line 0 (head_numbers h).notes (goes [] r) in
      by-notes h ns ats (ended (line + (head_numbers h).notes) st)
      (ended-own (line + (head_numbers h).notes) st (records-own (note_table w) line 0 (head_numbers h).notes (goes [] r) refl tt))

  by-nodes : (h : List ℕ) (st : Step) → Own st → OwnFault (in_nodes w h st)
  by-nodes h (stops a b) o = o
  by-nodes h (goes ns r) o =
      by-attributes h ns (records (attribute_table w) (8 + (head_numbers h).nodes) 0 (head_numbers h).attributes (goes [] r))
      (records-own (attribute_table w) (8 + (head_numbers h).nodes) 0 (head_numbers h).attributes (goes [] r) refl tt)

  by-head : (st : Step) → Own st → OwnFault (in_head w st)
  by-head (stops a b) o = o
  by-head (goes h r) o =
      by-nodes h (records (node_table w) 8 0 (head_numbers h).nodes (goes [] r)) (records-own (node_table w) 8 0 (head_numbers h).nodes (goes [] r) refl tt)

pub relisting-own : (w : Words) (s : List ℕ) (a b : ℕ) → relisting w s ≡ fault a b → is_own a ≡ true
relisting-own w s a b e = subst OwnFault e (whole-own w s)

pub own-last :
    (n : ℕ) → is_own n ≡ true → (n ≡ 8 → ⊥) → (n ≡ 9 → ⊥) → (n ≡ 10 → ⊥) → (n ≡ 24 → ⊥) → (n ≡ 25 → ⊥) → 26 ≡ n
own-last n h a b c d e = go (leb 8 n && leb n 10) refl h where
  go : (t : Bool) → (leb 8 n && leb n 10) ≡ t → (t || (leb 24 n && leb n 26)) ≡ true → 26 ≡ n
  go true p q = let x = both (leb 8 n) (leb n 10) p in let y = leb-true 8 n x.0 in let z = leb-true n 10 x.1 in absurd (let v : ⊥ = omega arith in v)
  go false p q = let x = both (leb 24 n) (leb n 26) q in let y = leb-true 24 n x.0 in let z = leb-true n 26 x.1 in omega arith

-- ---- refusals from their numbers

behind-pool : (n : ℕ) → 41 ≤ n → (n ≡ 41 → ⊥) → (n ≡ 42 → ⊥) → (n ≡ 43 → ⊥) → (n ≡ 44 → ⊥) → (n ≡ 45 → ⊥) → 45 < n
behind-pool n l a b c d e = omega arith

above-three : (n : ℕ) → 41 ≤ n → 3 < n
above-three n l = omega arith

not-six : (n : ℕ) → 41 ≤ n → n ≡ 6 → ⊥
not-six n l e = omega arith

last-part : (n : ℕ) → 51 ≤ n → n ≤ 52 → (n ≡ 51 → ⊥) → 52 ≡ n
last-part n l u f = omega arith

pub part-last :
    (n v : ℕ) → Sayable n v → 41 ≤ n → (n ≡ 41 → ⊥) → (n ≡ 42 → ⊥) → (n ≡ 43 → ⊥) → (n ≡ 44 → ⊥) → (n ≡ 45 → ⊥) → (n ≡ 51 → ⊥) → 52 ≡ n
part-last n v s l a b c d e f =
    let low : 3 < n = above-three n l in
    let six : n ≡ 6 → ⊥ = not-six n l in
    let high : 45 < n = behind-pool n l a b c d e in
    go (ltb n 51) refl low six high where
      go : (t : Bool) → ltb n 51 ≡ t → 3 < n → (n ≡ 6 → ⊥) → 45 < n → 52 ≡ n
      go true p low six high = contra (is_listed n) s.listed (sym (listed-gap n low six l high (ltb-true n 51 p)))
      go false p low six high =
          let m = ltb-false n 51 p in
          let u = leb-true n 52 (listed-map n low six l high m ∙ s.listed) in
          last-part n m u f

pub root-last : (n v : ℕ) → Sayable n v → n < 41 → (n ≡ 1 → ⊥) → (n ≡ 2 → ⊥) → (n ≡ 3 → ⊥) → 6 ≡ n
root-last n v s l a b c = go (eqb n 6) refl (above n s.some a b c) where
  above : (n : ℕ) → (n ≡ 0 → ⊥) → (n ≡ 1 → ⊥) → (n ≡ 2 → ⊥) → (n ≡ 3 → ⊥) → 3 < n
  above n z a b c = omega arith

  go : (t : Bool) → eqb n 6 ≡ t → 3 < n → 6 ≡ n
  go true p h = sym (eqb-true n 6 p)
  go false p h = contra (is_listed n) s.listed (sym (listed-none n h (eqb-false n 6 p) l))

plain-zero : (n v : ℕ) → is_plain n ≡ true → zero_where (is_plain n) v ≡ true → 0 ≡ v
plain-zero n v p h = let q : eqb v 0 ≡ true = sym (ap (λ (b : Bool). zero_where b v) p) ∙ h in sym (eqb-true v 0 q)

pub two-plain : (n v : ℕ) → Sayable n v → n ≡ 2 → 0 ≡ v
two-plain n v s e = plain-zero n v (ap is_plain e) s.value

pub six-plain : (n v : ℕ) → Sayable n v → 6 ≡ n → 0 ≡ v
six-plain n v s e = plain-zero n v (ap is_plain (sym e)) s.value

numbers-by :
    {a a' b b' c c' d d' e e' f f' : ℕ} → a ≡ a' → b ≡ b' → c ≡ c' → d ≡ d' → e ≡ e' → f ≡ f' →
    ◌≡◌ {A = Numbers} (record { refusal = a; value = b; starts = c; nodes = d; attributes = e; notes = f })
    (record { refusal = a'; value = b'; starts = c'; nodes = d'; attributes = e'; notes = f' })
numbers-by p q r s t u = rw (p, q, r, s, t, u)

none-counted : (n v : ℕ) → (n ≡ 0 → ⊥) → zero_where (not (eqb n 0)) v ≡ true → 0 ≡ v
none-counted n v z h = sym (eqb-true v 0 (rw (ne_eqb n 0 z) at h))

pub answer-counted :
    (h : Heading) → h.refusal ≡ 0 → TestedHeading h →
    ◌≡◌ {A = Numbers} (record { refusal = 0; value = 0; starts = h.starts; nodes = h.nodes; attributes = h.attributes; notes = h.notes }) (heading_numbers h)
answer-counted h e t = numbers-by (sym e) (plain-zero h.refusal h.value (ap is_plain e) t.value) refl refl refl refl

pub heading-sayable : (h : Heading) → (h.refusal ≡ 0 → ⊥) → TestedHeading h → Sayable h.refusal h.value
heading-sayable h z t = record { listed = t.listed; value = t.value; some = z }

pub answer-refused : (h : Heading) (x : Refusal) → (h.refusal ≡ 0 → ⊥) → TestedHeading h → Says h.refusal h.value x → numbers_of (Err x) ≡ heading_numbers h
unfolding numbers_of
answer-refused h x z t s =
    numbers-by s.number s.value (none-counted h.refusal h.starts z t.starts) (none-counted h.refusal h.nodes z t.nodes)
    (none-counted h.refusal h.attributes z t.attributes) (none-counted h.refusal h.notes z t.notes)

pub answer-fault : (n v : ℕ) (x : Refusal) → Says n v x → numbers_of (Err x) ≡ fault_numbers n v
unfolding numbers_of
answer-fault n v x s = numbers-by s.number s.value refl refl refl refl

heading-tested : (w : Words) (text : List ℕ) (h : Heading) (ns ats os : List ℕ) → relisting w text ≡ found (relisting_of h ns ats os) → TestedHeading h
heading-tested w text h ns ats os e =
    let t = (relisting-said w text (relisting_of h ns ats os) e).tested in
    record {
      listed = t.listed;
      value = t.value;
      starts = t.starts;
      nodes = t.nodes;
      attributes = t.attributes;
      notes = (both (zero_where (not (eqb h.refusal 0)) h.notes) (zero_where (eqb h.cap 0) h.notes) t.notes).0;
    }

-- ---- zeros

pub used-fits : (u w a b : ℕ) → u ≡ w → w ≤ a → b ≡ a → u ≤ b
used-fits u w a b p q r = omega arith

fitted_none : (n : ℕ) → fitted [] n ≡ replicate n 0
unfolding fitted
fitted_none n = rw (le-leb 0 n (omega arith), sub-zero n)

fitted-front : (u v n : ℕ) (l : List ℕ) → u ≡ v → v ≤ n → length l ≡ n → take u l ++ replicate (length l - u) 0 ≡ fitted (take v l) n
unfolding fitted
fitted-front u v n l e h m =
    let a : length (take v l) ≡ v = length-take-le v l (omega arith) in
    rw (e, a, le-leb v n h, m)

module _ {text : List ℕ} {h : Heading} {ns ats os : List ℕ} {p : Spot} {ns₁ ats₁ os₁ : List ℕ} (all : ReadsAll text h ns ats os p ns₁ ats₁ os₁) where
  pub all_own : (p.fault ≡ 0 → ⊥) → is_own p.fault ≡ true
  all_own n = relisting-own (record { nodes = length ns; attributes = length ats; notes = length os }) text p.fault p.value (all.stops n)

  pub all_tested : p.fault ≡ 0 → TestedHeading h
  all_tested f = heading-tested (record { nodes = length ns; attributes = length ats; notes = length os }) text h ns₁ ats₁ os₁ (all.goes f)

module _ {text : List ℕ} {h : Heading} {ns ats os : List ℕ} {p : Spot} {ns₁ ats₁ os₁ : List ℕ} (all : ReadsAll text h ns ats os p ns₁ ats₁ os₁) (r : Relisted)
    (ns' ats' os' : List ℕ) where
  pub relists-refused :
      (p.fault ≡ 0 → ⊥) → (numbers_of r.answer ≡ fault_numbers p.fault p.value) × (r.cap ≡ 0) → ns' ≡ replicate (length ns₁) 0 →
      ats' ≡ replicate (length ats₁) 0 → os' ≡ replicate (length os₁) 0 → Relists text ns ats os r ns' ats' os'
  relists-refused n q x y z =
      let e = all.stops n in
      record {
        answer = rw e q.0;
        capped = rw e q.1;
        nodes = rw e (x ∙ (ap (λ (m : ℕ). replicate m 0) all.nodes.1 ∙ sym (fitted_none (length ns))));
        attributes = rw e (y ∙ (ap (λ (m : ℕ). replicate m 0) all.attributes.1 ∙ sym (fitted_none (length ats))));
        notes = rw e (z ∙ (ap (λ (m : ℕ). replicate m 0) all.notes.1 ∙ sym (fitted_none (length os))));
      }

  pub relists-accepted :
      {u₁ u₂ u₃ : ℕ} → p.fault ≡ 0 → (numbers_of r.answer ≡ heading_numbers h) × (r.cap ≡ h.cap) → u₁ ≡ node_width * h.nodes →
      u₂ ≡ attribute_width * h.attributes → u₃ ≡ note_width * h.notes → ns' ≡ take u₁ ns₁ ++ replicate (length ns₁ - u₁) 0 →
      ats' ≡ take u₂ ats₁ ++ replicate (length ats₁ - u₂) 0 → os' ≡ take u₃ os₁ ++ replicate (length os₁ - u₃) 0 → Relists text ns ats os r ns' ats' os'
  relists-accepted {u₁} {u₂} {u₃} f q p₁ p₂ p₃ x y z =
      let e = all.goes f in
      record {
        answer = rw e q.0;
        capped = rw e q.1;
        nodes = rw e (x ∙ fitted-front u₁ (node_width * h.nodes) (length ns) ns₁ p₁ (all.nodes.0 f) all.nodes.1);
        attributes = rw e (y ∙ fitted-front u₂ (attribute_width * h.attributes) (length ats) ats₁ p₂ (all.attributes.0 f) all.attributes.1);
        notes = rw e (z ∙ fitted-front u₃ (note_width * h.notes) (length os) os₁ p₃ (all.notes.0 f) all.notes.1);
      }

-- ---- small facts of the code

pub both_zero : (n v : ℕ) → (zero_where true v && zero_where (eqb n 0) v) ≡ eqb v 0
both_zero n v = go (eqb n 0) (eqb v 0) where
  go : (a b : Bool) → (b && cond a b true) ≡ b
  go true true = refl
  go true false = refl
  go false true = refl
  go false false = refl

pub spot-inside : (text : List ℕ) (h : Heading) (s : Spot) → s ≡ spot_of h → h.at ≤ length text → s.at ≤ length text
spot-inside text h s q i = rw q i

-- ---- the two sorts of refusals do not meet

pub own-never : (n : ℕ) → is_own n ≡ true → n ≡ 0 → ⊥
own-never n h e = let z : ◌≡◌ {A = ℕ} 0 1 = (let q : is_own 0 ≡ true = rw e at h in cc) in omega arith

pub listed-own : (n : ℕ) → is_listed n ≡ true → is_own n ≡ true → ⊥
listed-own n l o = go (leb 8 n && leb n 10) refl o where
  gap : 3 < n → (n ≡ 6 → ⊥) → n < 41 → ⊥
  gap a b c = contra (is_listed n) l (sym (listed-none n a b c))

  go : (t : Bool) → (leb 8 n && leb n 10) ≡ t → (t || (leb 24 n && leb n 26)) ≡ true → ⊥
  go true p q =
      let x = both (leb 8 n) (leb n 10) p in
      let y = leb-true 8 n x.0 in
      let z = leb-true n 10 x.1 in
      gap (omega arith) (λ e. let v : ⊥ = omega arith in v) (omega arith)
  go false p q =
      let x = both (leb 24 n) (leb n 26) q in
      let y = leb-true 24 n x.0 in
      let z = leb-true n 26 x.1 in
      gap (omega arith) (λ e. let v : ⊥ = omega arith in v) (omega arith)
