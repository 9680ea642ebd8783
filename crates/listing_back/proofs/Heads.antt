-- The seven lines of the head: what is printed is taken, and what is taken is what is printed. No contract cites this file.
use Prim.Native.Nat.{ℕ}
use mathlib.Core.Path.{◌≡◌, refl, sym, ap, ◌∙◌}
use mathlib.Core.Bool.{true, false, not, ◌&&◌}
use mathlib.Core.List.{List, [], ◌∷◌, ◌++◌, append_assoc}
use lib.Dec.{eqb}
use lib.ListN.{get_or}
use Rattle.errors.specs.declared.Numbers.{Numbers}
use Rattle.listing_text.specs.Keys.{refusal_key, value_key, cap_key, starts_key, nodes_key, attributes_key, notes_key}
use Rattle.listing_text.specs.Listing.{field, line_text, lines_text, head_lines}
use Rattle.listing_back.specs.Due.{Step, goes, any_over, head_line}
use Rattle.listing_back.specs.Back.{is_listed, is_plain, zero_where, refusal_test, value_test, any_test, count_test, notes_test, head_form, head_of, head_numbers, head_cap}
use Rattle.listing_back.proofs.Lines.{plain_key, any_over-first, any_over-others}
use Rattle.listing_back.proofs.Steps.{head-taken, head-back, any_over-cons, no-over}

abbrev pub line1 : Step → Step
line1 st = head_line (head_form refusal_key) 1 refusal_test st

abbrev pub line2 : Step → Step
line2 st = head_line (head_form value_key) 2 value_test st

abbrev pub line3 : Step → Step
line3 st = head_line (head_form cap_key) 3 any_test st

abbrev pub line4 : Step → Step
line4 st = head_line (head_form starts_key) 4 count_test st

abbrev pub line5 : Step → Step
line5 st = head_line (head_form nodes_key) 5 count_test st

abbrev pub line6 : Step → Step
line6 st = head_line (head_form attributes_key) 6 count_test st

abbrev pub line7 : Step → Step
line7 st = head_line (head_form notes_key) 7 notes_test st

pub head_of-lines : (s : List ℕ) → head_of s ≡ line7 (line6 (line5 (line4 (line3 (line2 (line1 (goes [] s)))))))
unfolding head_of
head_of-lines s = refl

head-text :
    (a b c d e f g : List ℕ) (r : List ℕ) → (a ++ (b ++ (c ++ (d ++ (e ++ (f ++ (g ++ []))))))) ++ r ≡ a ++ (b ++ (c ++ (d ++ (e ++ (f ++ (g ++ r))))))
head-text a b c d e f g r = simp append_assoc

lines-text :
    (cap : ℕ) (n : Numbers) (r : List ℕ) → lines_text (head_lines cap n) ++ r ≡
    line_text (field refusal_key n.refusal ∷ []) ++ (line_text (field value_key n.value ∷ []) ++ (line_text (field cap_key cap ∷ []) ++
    (line_text (field starts_key n.starts ∷ []) ++ (line_text (field nodes_key n.nodes ∷ []) ++
    (line_text (field attributes_key n.attributes ∷ []) ++ (line_text (field notes_key n.notes ∷ []) ++ r))))))
unfolding lines_text
lines-text most n r =
    head-text (line_text (field refusal_key n.refusal ∷ [])) (line_text (field value_key n.value ∷ [])) (line_text (field cap_key most ∷ []))
    (line_text (field starts_key n.starts ∷ [])) (line_text (field nodes_key n.nodes ∷ [])) (line_text (field attributes_key n.attributes ∷ []))
    (line_text (field notes_key n.notes ∷ [])) r

-- the numbers of a head, and what is tested of them
abbrev pub head_list : ℕ → Numbers → List ℕ
head_list cap n = n.refusal ∷ n.value ∷ cap ∷ n.starts ∷ n.nodes ∷ n.attributes ∷ n.notes ∷ []

pub record Tested (h : List ℕ) : Type 0 where
  pub listed : is_listed (get_or h 0 0) ≡ true
  pub value : zero_where (is_plain (get_or h 0 0)) (get_or h 1 0) ≡ true
  pub starts : zero_where (not (eqb (get_or h 0 0) 0)) (get_or h 3 0) ≡ true
  pub nodes : zero_where (not (eqb (get_or h 0 0) 0)) (get_or h 4 0) ≡ true
  pub attributes : zero_where (not (eqb (get_or h 0 0) 0)) (get_or h 5 0) ≡ true
  pub notes : (zero_where (not (eqb (get_or h 0 0) 0)) (get_or h 6 0) && zero_where (eqb (get_or h 2 0) 0) (get_or h 6 0)) ≡ true
  pub small : any_over h ≡ false

plain-keys :
    (plain_key refusal_key ≡ true) × (plain_key value_key ≡ true) × (plain_key cap_key ≡ true) × (plain_key starts_key ≡ true) × (plain_key nodes_key ≡ true) ×
    (plain_key attributes_key ≡ true) × (plain_key notes_key ≡ true)
unfolding plain_key
plain-keys = (refl, refl, refl, refl, refl, refl, refl)

pub head-of-taken : (cap : ℕ) (n : Numbers) (r : List ℕ) → Tested (head_list cap n) → head_of (lines_text (head_lines cap n) ++ r) ≡ goes (head_list cap n) r
head-of-taken most n r t =
    let a = n.refusal in
    let b = n.value in
    let d = n.starts in
    let e = n.nodes in
    let f = n.attributes in
    let g = n.notes in
    let o1 = t.small in
    let o2 = any_over-others a (b ∷ most ∷ d ∷ e ∷ f ∷ g ∷ []) o1 in
    let o3 = any_over-others b (most ∷ d ∷ e ∷ f ∷ g ∷ []) o2 in
    let o4 = any_over-others most (d ∷ e ∷ f ∷ g ∷ []) o3 in
    let o5 = any_over-others d (e ∷ f ∷ g ∷ []) o4 in
    let o6 = any_over-others e (f ∷ g ∷ []) o5 in
    let o7 = any_over-others f (g ∷ []) o6 in
    let x7 : List ℕ = line_text (field notes_key g ∷ []) ++ r in
    let x6 : List ℕ = line_text (field attributes_key f ∷ []) ++ x7 in
    let x5 : List ℕ = line_text (field nodes_key e ∷ []) ++ x6 in
    let x4 : List ℕ = line_text (field starts_key d ∷ []) ++ x5 in
    let x3 : List ℕ = line_text (field cap_key most ∷ []) ++ x4 in
    let x2 : List ℕ = line_text (field value_key b ∷ []) ++ x3 in
    let x1 : List ℕ = line_text (field refusal_key a ∷ []) ++ x2 in
    let s1 : line1 (goes [] x1) ≡ goes (a ∷ []) x2 = head-taken refusal_key 1 a refusal_test [] x2 plain-keys.0 t.listed (any_over-first a _ o1) in
    let s2 : line2 (goes (a ∷ []) x2) ≡ goes (a ∷ b ∷ []) x3 = head-taken value_key 2 b value_test (a ∷ []) x3 plain-keys.1 t.value (any_over-first b _ o2) in
    let s3 : line3 (goes (a ∷ b ∷ []) x3) ≡ goes (a ∷ b ∷ most ∷ []) x4 = head-taken cap_key 3 most any_test (a ∷ b ∷ []) x4 plain-keys.2 refl (any_over-first most _ o3) in
    let s4 : line4 (goes (a ∷ b ∷ most ∷ []) x4) ≡ goes (a ∷ b ∷ most ∷ d ∷ []) x5 =
    head-taken starts_key 4 d count_test (a ∷ b ∷ most ∷ []) x5 plain-keys.3 t.starts (any_over-first d _ o4) in
    let s5 : line5 (goes (a ∷ b ∷ most ∷ d ∷ []) x5) ≡ goes (a ∷ b ∷ most ∷ d ∷ e ∷ []) x6 =
    head-taken nodes_key 5 e count_test (a ∷ b ∷ most ∷ d ∷ []) x6 plain-keys.4 t.nodes (any_over-first e _ o5) in
    let s6 : line6 (goes (a ∷ b ∷ most ∷ d ∷ e ∷ []) x6) ≡ goes (a ∷ b ∷ most ∷ d ∷ e ∷ f ∷ []) x7 =
    head-taken attributes_key 6 f count_test (a ∷ b ∷ most ∷ d ∷ e ∷ []) x7 plain-keys.5 t.attributes (any_over-first f _ o6) in
    let s7 : line7 (goes (a ∷ b ∷ most ∷ d ∷ e ∷ f ∷ []) x7) ≡ goes (a ∷ b ∷ most ∷ d ∷ e ∷ f ∷ g ∷ []) r =
    head-taken notes_key 7 g notes_test (a ∷ b ∷ most ∷ d ∷ e ∷ f ∷ []) r plain-keys.6 t.notes (any_over-first g _ o7) in
    ap head_of (lines-text most n r) ∙
    (head_of-lines x1 ∙
    (ap (λ (x : Step). line7 (line6 (line5 (line4 (line3 (line2 x)))))) s1 ∙
    (ap (λ (x : Step). line7 (line6 (line5 (line4 (line3 x))))) s2 ∙
    (ap (λ (x : Step). line7 (line6 (line5 (line4 x)))) s3 ∙
    (ap (λ (x : Step). line7 (line6 (line5 x))) s4 ∙
    (ap (λ (x : Step). line7 (line6 x)) s5 ∙
    (ap (λ (x : Step). line7 x) s6 ∙ s7)))))))

pub record HeadBack (s h r : List ℕ) : Type 0 where
  pub printed : s ≡ lines_text (head_lines (head_cap h) (head_numbers h)) ++ r
  pub tested : Tested h
  pub whole : h ≡ head_list (head_cap h) (head_numbers h)

head-made :
    (a b c d e f g : ℕ) {s x2 x3 x4 x5 x6 x7 r h : List ℕ} → h ≡ a ∷ b ∷ c ∷ d ∷ e ∷ f ∷ g ∷ [] → s ≡ line_text (field refusal_key a ∷ []) ++ x2 →
    x2 ≡ line_text (field value_key b ∷ []) ++ x3 → x3 ≡ line_text (field cap_key c ∷ []) ++ x4 → x4 ≡ line_text (field starts_key d ∷ []) ++ x5 →
    x5 ≡ line_text (field nodes_key e ∷ []) ++ x6 → x6 ≡ line_text (field attributes_key f ∷ []) ++ x7 → x7 ≡ line_text (field notes_key g ∷ []) ++ r →
    Tested (a ∷ b ∷ c ∷ d ∷ e ∷ f ∷ g ∷ []) → HeadBack s h r
head-made a b c d e f g {r = r} p q1 q2 q3 q4 q5 q6 q7 t =
    rw p (record {
      printed = rw (q1, q2, q3, q4, q5, q6, q7) (sym (lines-text c (record { refusal = a; value = b; starts = d; nodes = e; attributes = f; notes = g }) r));
      tested = t;
      whole = refl;
    })

-- the numbers before a line, one line more at a time
grown : {h before : List ℕ} (known : List ℕ) (v : ℕ) → h ≡ before ++ (v ∷ []) → before ≡ known → h ≡ known ++ (v ∷ [])
grown known v e f = e ∙ ap (λ (x : List ℕ). x ++ (v ∷ [])) f

goes-numbers : {a b c d : List ℕ} → goes a b ≡ goes c d → c ≡ a
goes-numbers e = cc

goes-rest : {a b c d : List ℕ} → goes a b ≡ goes c d → b ≡ d
goes-rest e = cc

pub head-of-back : (s : List ℕ) {h r : List ℕ} → head_of s ≡ goes h r → HeadBack s h r
head-of-back s {h} {r} z =
    let b7 = head-back notes_key 7 notes_test (line6 (line5 (line4 (line3 (line2 (line1 (goes [] s))))))) plain-keys.6 (sym (head_of-lines s) ∙ z) in
    let b6 = head-back attributes_key 6 count_test (line5 (line4 (line3 (line2 (line1 (goes [] s)))))) plain-keys.5 b7.from in
    let b5 = head-back nodes_key 5 count_test (line4 (line3 (line2 (line1 (goes [] s))))) plain-keys.4 b6.from in
    let b4 = head-back starts_key 4 count_test (line3 (line2 (line1 (goes [] s)))) plain-keys.3 b5.from in
    let b3 = head-back cap_key 3 any_test (line2 (line1 (goes [] s))) plain-keys.2 b4.from in
    let b2 = head-back value_key 2 value_test (line1 (goes [] s)) plain-keys.1 b3.from in
    let b1 = head-back refusal_key 1 refusal_test (goes [] s) plain-keys.0 b2.from in
    let a = b1.value in
    let b = b2.value in
    let c = b3.value in
    let d = b4.value in
    let e = b5.value in
    let f = b6.value in
    let g = b7.value in
    let k1 : b1.before ≡ [] = goes-numbers b1.from in
    let t1 : s ≡ b1.text = goes-rest b1.from in
    let k2 : b2.before ≡ a ∷ [] = grown [] a b1.all k1 in
    let k3 : b3.before ≡ a ∷ b ∷ [] = grown (a ∷ []) b b2.all k2 in
    let k4 : b4.before ≡ a ∷ b ∷ c ∷ [] = grown (a ∷ b ∷ []) c b3.all k3 in
    let k5 : b5.before ≡ a ∷ b ∷ c ∷ d ∷ [] = grown (a ∷ b ∷ c ∷ []) d b4.all k4 in
    let k6 : b6.before ≡ a ∷ b ∷ c ∷ d ∷ e ∷ [] = grown (a ∷ b ∷ c ∷ d ∷ []) e b5.all k5 in
    let k7 : b7.before ≡ a ∷ b ∷ c ∷ d ∷ e ∷ f ∷ [] = grown (a ∷ b ∷ c ∷ d ∷ e ∷ []) f b6.all k6 in
    let k8 : h ≡ a ∷ b ∷ c ∷ d ∷ e ∷ f ∷ g ∷ [] = grown (a ∷ b ∷ c ∷ d ∷ e ∷ f ∷ []) g b7.all k7 in
    head-made a b c d e f g k8 (t1 ∙ b1.printed) b2.printed b3.printed b4.printed b5.printed b6.printed b7.printed
    (record {
      listed = b1.passed;
      value = sym (ap (λ (x : List ℕ). value_test x b) k2) ∙ b2.passed;
      starts = sym (ap (λ (x : List ℕ). count_test x d) k4) ∙ b4.passed;
      nodes = sym (ap (λ (x : List ℕ). count_test x e) k5) ∙ b5.passed;
      attributes = sym (ap (λ (x : List ℕ). count_test x f) k6) ∙ b6.passed;
      notes = sym (ap (λ (x : List ℕ). notes_test x g) k7) ∙ b7.passed;
      small = any_over-cons a _ b1.small (any_over-cons b _ b2.small (any_over-cons c _ b3.small (any_over-cons d _ b4.small
          (any_over-cons e _ b5.small (any_over-cons f _ b6.small (any_over-cons g [] b7.small no-over))))));
    })
