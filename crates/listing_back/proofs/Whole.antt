-- The two theorems: what can be printed reads back, and what is read is what is printed. No contract cites this file.
--
--   Listable           what a listing can say in tables with so many words: the numbers pass the tests of the head, 32 bits hold each, and each
--                      table has the words of just its records, for which there is room
--   Printable          the same of tables that may have more words than those of their records: the words of a reading, zeros behind them
--   relisting-taken    READ BEHIND PRINTED; relisting-trimmed of longer tables, whose first words come back
--   relisting-back     PRINTED BEHIND READ: the text of what was read is the text that was read, so that there is no other
use Prim.Native.Nat.{ℕ, zero, suc, ◌+◌, ◌*◌, ◌/◌, ◌≤◌, ◌<◌}
use mathlib.Core.Path.{◌≡◌, refl, sym, ap, subst, ◌∙◌}
use mathlib.Core.Bool.{false}
use mathlib.Core.List.{List, [], ◌∷◌, ◌++◌, append-nil}
use native.Mathlib.Omega.{arith}
use native.Mathlib.Nat.{mul-le-mul_left, mul-div-le}
use lib.ListN.{length, take}
use lib.Seq.{take_all}
use Rattle.records.specs.Words.{node_width, attribute_width, note_width}
use Rattle.listing_text.specs.Listing.{Line, lines_text, head_lines, node_line, attribute_line, record_lines}
use Rattle.listing_text.proofs.Laws.{lines_text-append}
use Rattle.listing_back.specs.Forms.{form_text}
use Rattle.listing_back.specs.Due.{Step, stops, goes, any_over, stray, Table, records, ended}
use Rattle.listing_back.specs.Back.{head_of, head_numbers, head_cap, Relisting, fault, found, Words, node_table, attribute_table, note_table, in_notes, in_attributes, in_nodes, in_head, relisting, note_words_line, relist_text}
use Rattle.listing_back.proofs.Lines.{any_over-first, any_over-others}
use Rattle.listing_back.proofs.Steps.{stops-never, ManyRecords, records-taken, records-back}
use Rattle.listing_back.proofs.Sorts.{Sort, node_sort, attribute_sort, note_sort}
use Rattle.listing_back.proofs.Heads.{head_list, Tested, head-of-taken, HeadBack, head-of-back}

pub fault-never : (a b : ℕ) (x : Relisting) {A : Type 0} → fault a b ≡ found x → A
fault-never a b x e = absurd (let z : ◌≡◌ {A = ℕ} 0 1 = cc in let y : ⊥ = omega arith in y)

-- n records of so many words in a table with so many places
pub record Filled (width n places : ℕ) (w : List ℕ) : Type 0 where
  pub many : length w ≡ width * n
  pub small : any_over w ≡ false
  pub room : n ≤ places

-- so a table with these places takes its words
pub filled-le : (width n len : ℕ) (w : List ℕ) → Filled width n (len / width) w → length w ≤ len
filled-le width n len w f =
    let a = f.many in
    let b : width * n ≤ width * (len / width) = mul-le-mul_left width f.room in
    let c = mul-div-le len width in
    omega arith

pub record Listable (w : Words) (x : Relisting) : Type 0 where
  pub tested : Tested (head_list x.cap x.numbers)
  pub nodes : Filled node_width x.numbers.nodes (w.nodes / node_width) x.nodes
  pub attributes : Filled attribute_width x.numbers.attributes (w.attributes / attribute_width) x.attributes
  pub notes : Filled note_width x.numbers.notes (w.notes / note_width) x.notes

pub record Leading (width n places : ℕ) (w : List ℕ) : Type 0 where
  pub many : width * n ≤ length w
  pub small : any_over (take (width * n) w) ≡ false
  pub room : n ≤ places

pub record Printable (w : Words) (x : Relisting) : Type 0 where
  pub tested : Tested (head_list x.cap x.numbers)
  pub nodes : Leading node_width x.numbers.nodes (w.nodes / node_width) x.nodes
  pub attributes : Leading attribute_width x.numbers.attributes (w.attributes / attribute_width) x.attributes
  pub notes : Leading note_width x.numbers.notes (w.notes / note_width) x.notes

-- the words of just its records
abbrev pub trimmed : Relisting → Relisting
trimmed x = record {
  cap = x.cap;
  numbers = x.numbers;
  nodes = take (node_width * x.numbers.nodes) x.nodes;
  attributes = take (attribute_width * x.numbers.attributes) x.attributes;
  notes = take (note_width * x.numbers.notes) x.notes;
}

four-texts : (a b c d : List Line) → lines_text (a ++ (b ++ (c ++ d))) ≡ lines_text a ++ (lines_text b ++ (lines_text c ++ (lines_text d ++ [])))
four-texts a b c d = simp (lines_text-append, append-nil)

relist_text-parts :
    (x : Relisting) → relist_text x ≡ lines_text (head_lines x.cap x.numbers) ++
    (lines_text (record_lines node_width node_line 0 x.numbers.nodes x.nodes) ++
    (lines_text (record_lines attribute_width attribute_line 0 x.numbers.attributes x.attributes) ++
    (lines_text (record_lines note_width note_words_line 0 x.numbers.notes x.notes) ++ [])))
unfolding relist_text
relist_text-parts x =
    four-texts (head_lines x.cap x.numbers) (record_lines node_width node_line 0 x.numbers.nodes x.nodes)
    (record_lines attribute_width attribute_line 0 x.numbers.attributes x.attributes) (record_lines note_width note_words_line 0 x.numbers.notes x.notes)

-- ---- read behind printed

table_taken :
    (t : Table) {width : ℕ} {line : ℕ → List ℕ → Line} (sort : Sort width line) (same : t.form ≡ form_text (line 0 [])) (n ln : ℕ) (w r : List ℕ) →
    Leading width n t.places w → n < 4294967296 → records t ln 0 n (goes [] (lines_text (record_lines width line 0 n w) ++ r)) ≡ goes (take (width * n) w) r
table_taken t sort same n ln w r f h =
    records-taken t sort same n ln 0 [] w r (let m = f.room in omega arith) (omega arith) f.many f.small

-- the counts of a head are numbers of 32 bits
few : (a b c d e f g : ℕ) → any_over (a ∷ b ∷ c ∷ d ∷ e ∷ f ∷ g ∷ []) ≡ false → (e < 4294967296) × (f < 4294967296) × (g < 4294967296)
few a b c d e f g o =
    let o5 = any_over-others d (e ∷ f ∷ g ∷ []) (any_over-others c (d ∷ e ∷ f ∷ g ∷ []) (any_over-others b (c ∷ d ∷ e ∷ f ∷ g ∷ []) (any_over-others a (b ∷ c ∷ d ∷ e ∷ f ∷ g ∷ []) o))) in
    let o6 = any_over-others e (f ∷ g ∷ []) o5 in
    (any_over-first e (f ∷ g ∷ []) o5, any_over-first f (g ∷ []) o6, any_over-first g [] (any_over-others f (g ∷ []) o6))

pub relisting-trimmed : (w : Words) (x : Relisting) → Printable w x → relisting w (relist_text x) ≡ found (trimmed x)
unfolding relisting
relisting-trimmed w x l =
    let n = x.numbers in
    let h = head_list x.cap n in
    let m = few n.refusal n.value x.cap n.starts n.nodes n.attributes n.notes l.tested.small in
    let cs : List ℕ = lines_text (record_lines note_width note_words_line 0 n.notes x.notes) ++ [] in
    let bs : List ℕ = lines_text (record_lines attribute_width attribute_line 0 n.attributes x.attributes) ++ cs in
    let as' : List ℕ = lines_text (record_lines node_width node_line 0 n.nodes x.nodes) ++ bs in
    let y = trimmed x in
    let s0 : head_of (relist_text x) ≡ goes h as' = ap head_of (relist_text-parts x) ∙ head-of-taken x.cap n as' l.tested in
    let s1 = table_taken (node_table w) node_sort refl n.nodes 8 x.nodes bs l.nodes m.0 in
    let s2 = table_taken (attribute_table w) attribute_sort refl n.attributes (8 + n.nodes) x.attributes cs l.attributes m.1 in
    let s3 = table_taken (note_table w) note_sort refl n.notes (8 + n.nodes + n.attributes) x.notes [] l.notes m.2 in
    ap (in_head w) s0 ∙
    (ap (in_nodes w h) s1 ∙
    (ap (in_attributes w h y.nodes) s2 ∙
    ap (λ (st : Step). in_notes h y.nodes y.attributes (ended (8 + n.nodes + n.attributes + n.notes) st)) s3))

leads : {width n places : ℕ} {w : List ℕ} → Filled width n places w → Leading width n places w
leads {width} {n} {places} {w} f =
    let a : take (width * n) w ≡ w = take_all (width * n) w (let m = f.many in omega arith) in
    record { many = (let m = f.many in omega arith); small = ap any_over a ∙ f.small; room = f.room }

whole_words : {width n places : ℕ} {w : List ℕ} → Filled width n places w → take (width * n) w ≡ w
whole_words {width} {n} {places} {w} f = take_all (width * n) w (let m = f.many in omega arith)

pub relisting-taken : (w : Words) (x : Relisting) → Listable w x → relisting w (relist_text x) ≡ found x
relisting-taken w x l =
    relisting-trimmed w x (record { tested = l.tested; nodes = leads l.nodes; attributes = leads l.attributes; notes = leads l.notes }) ∙
    trimmed-by x (whole_words l.nodes) (whole_words l.attributes) (whole_words l.notes) where
      trimmed-by :
          (x : Relisting) → take (node_width * x.numbers.nodes) x.nodes ≡ x.nodes → take (attribute_width * x.numbers.attributes) x.attributes ≡ x.attributes →
          take (note_width * x.numbers.notes) x.notes ≡ x.notes → found (trimmed x) ≡ found x
      trimmed-by x p q r = rw (p, q, r)

-- ---- printed behind read

table-text :
    {places width : ℕ} {line : ℕ → List ℕ → Line} (n : ℕ) {s ms r : List ℕ} → ManyRecords places width line 0 n [] s ms r →
    s ≡ lines_text (record_lines width line 0 n ms) ++ r
table-text {places} {width} {line} n {s} {ms} {r} m =
    m.printed [] ∙ ap (λ (x : List ℕ). lines_text (record_lines width line 0 n x) ++ r) (append-nil m.values ∙ sym m.all)

table_filled :
    {places width : ℕ} {line : ℕ → List ℕ → Line} (n : ℕ) {s ms r : List ℕ} → ManyRecords places width line 0 n [] s ms r → Filled width n places ms
table_filled {places} n m =
    record { many = ap length m.all ∙ m.many; small = ap any_over m.all ∙ m.small; room = go n m.room } where
      go : (n : ℕ) → (0 < n → 0 + n ≤ places) → n ≤ places
      go zero f = omega arith
      go (suc n) f = let h = f (omega arith) in omega arith

ended-back : (line : ℕ) (st : Step) {ms r : List ℕ} → ended line st ≡ goes ms r → st ≡ goes ms []
ended-back line (stops a b) {ms} {r} e = stops-never a b ms r e
ended-back line (goes ws []) e = cc
ended-back line (goes ws (b ∷ s)) {ms} {r} e = stops-never (stray (b ∷ s)) line ms r e

pub record Said (w : Words) (s : List ℕ) (x : Relisting) : Type 0 where
  pub printed : s ≡ relist_text x
  pub tested : Tested (head_list x.cap x.numbers)
  pub nodes : Filled node_width x.numbers.nodes (w.nodes / node_width) x.nodes
  pub attributes : Filled attribute_width x.numbers.attributes (w.attributes / attribute_width) x.attributes
  pub notes : Filled note_width x.numbers.notes (w.notes / note_width) x.notes

said :
    (w : Words) (s h : List ℕ) {r u v ns ats os : List ℕ} → HeadBack s h r →
    ManyRecords (w.nodes / node_width) node_width node_line 0 (head_numbers h).nodes [] r ns u →
    ManyRecords (w.attributes / attribute_width) attribute_width attribute_line 0 (head_numbers h).attributes [] u ats v →
    ManyRecords (w.notes / note_width) note_width note_words_line 0 (head_numbers h).notes [] v os [] →
    Said w s (record { cap = head_cap h; numbers = head_numbers h; nodes = ns; attributes = ats; notes = os })
said w s h {r} {u} {v} {ns} {ats} {os} b m1 m2 m3 =
    let n = head_numbers h in
    let x : Relisting = record { cap = head_cap h; numbers = n; nodes = ns; attributes = ats; notes = os } in
    let hs = lines_text (head_lines (head_cap h) n) in
    let a1 = lines_text (record_lines node_width node_line 0 n.nodes ns) in
    let a2 = lines_text (record_lines attribute_width attribute_line 0 n.attributes ats) in
    record {
      printed = b.printed ∙ (ap (λ (y : List ℕ). hs ++ y) (table-text n.nodes m1 ∙
          ap (λ (y : List ℕ). a1 ++ y) (table-text n.attributes m2 ∙ ap (λ (y : List ℕ). a2 ++ y) (table-text n.notes m3))) ∙ sym (relist_text-parts x));
      tested = tested-whole h b.whole b.tested;
      nodes = table_filled n.nodes m1;
      attributes = table_filled n.attributes m2;
      notes = table_filled n.notes m3;
    } where
      tested-whole : (h : List ℕ) → h ≡ head_list (head_cap h) (head_numbers h) → Tested h → Tested (head_list (head_cap h) (head_numbers h))
      tested-whole h e t = subst Tested e t

pub relisting-said : (w : Words) (s : List ℕ) (x : Relisting) → relisting w s ≡ found x → Said w s x
unfolding relisting
relisting-said w s x e = by-head (head_of s) refl e where
  by-notes :
      (h r u v ns ats : List ℕ) (st : Step) → HeadBack s h r → ManyRecords (w.nodes / node_width) node_width node_line 0 (head_numbers h).nodes [] r ns u →
      ManyRecords (w.attributes / attribute_width) attribute_width attribute_line 0 (head_numbers h).attributes [] u ats v →
      ended (8 + (head_numbers h).nodes + (head_numbers h).attributes + (head_numbers h).notes)
      (records (note_table w) (8 + (head_numbers h).nodes + (head_numbers h).attributes) 0 (head_numbers h).notes (goes [] v)) ≡ st →
      in_notes h ns ats st ≡ found x → Said w s x
  by-notes h r u v ns ats (stops a b) b0 m1 m2 q f = fault-never a b x f
  by-notes h r u v ns ats (goes os z) b0 m1 m2 q f =
      let m3 = records-back (note_table w) note_sort refl (head_numbers h).notes (8 + (head_numbers h).nodes + (head_numbers h).attributes) 0 [] v
      (ended-back (8 + (head_numbers h).nodes + (head_numbers h).attributes + (head_numbers h).notes) _ q) in
      let g : record { cap = head_cap h; numbers = head_numbers h; nodes = ns; attributes = ats; notes = os } ≡ x = cc in
      subst (Said w s) g (said w s h b0 m1 m2 m3)

  by-attributes :
      (h r u ns : List ℕ) (st : Step) → HeadBack s h r → ManyRecords (w.nodes / node_width) node_width node_line 0 (head_numbers h).nodes [] r ns u →
      records (attribute_table w) (8 + (head_numbers h).nodes) 0 (head_numbers h).attributes (goes [] u) ≡ st → in_attributes w h ns st ≡ found x → Said w s x
  by-attributes h r u ns (stops a b) b0 m1 q f = fault-never a b x f
  by-attributes h r u ns (goes ats v) b0 m1 q f =
      by-notes h r u v ns ats _ b0 m1
      (records-back (attribute_table w) attribute_sort refl (head_numbers h).attributes (8 + (head_numbers h).nodes) 0 [] u q) refl f

  by-nodes :
      (h r : List ℕ) (st : Step) → HeadBack s h r → records (node_table w) 8 0 (head_numbers h).nodes (goes [] r) ≡ st → in_nodes w h st ≡ found x → Said w s x
  by-nodes h r (stops a b) b0 q f = fault-never a b x f
  by-nodes h r (goes ns u) b0 q f =
      by-attributes h r u ns _ b0 (records-back (node_table w) node_sort refl (head_numbers h).nodes 8 0 [] r q) refl f

  by-head : (st : Step) → head_of s ≡ st → in_head w st ≡ found x → Said w s x
  by-head (stops a b) q f = fault-never a b x f
  by-head (goes h r) q f = by-nodes h r _ (head-of-back s q) refl f

pub relisting-back : (w : Words) (s : List ℕ) (x : Relisting) → relisting w s ≡ found x → relist_text x ≡ s
relisting-back w s x e = sym (relisting-said w s x e).printed
