-- What is told of a text, from the promises of `read_listing` and of the printer. No contract cites this file.
-- In order: the reader's own refusals; notes as the printer takes them; tables with zeros behind their records print the same; a fault, a listing.
use Rattle.std.specs.Prelude.{Result, Ok}
use Rattle.std.specs.Result.{result_unwrap_or}
use Prim.Native.Nat.{ℕ, zero, suc, ◌+◌, ◌-◌, ◌*◌, ◌/◌, ◌≤◌, ◌<◌}
use mathlib.Core.Path.{◌≡◌, refl, sym, ap, ◌∙◌}
use mathlib.Core.Bool.{true, false}
use mathlib.Core.List.{List, [], ◌∷◌, ◌++◌}
use native.Mathlib.Omega.{arith}
use native.Mathlib.Nat.{le_refl}
use native.Mathlib.Numerals.{add-one}
use borrow.Author.Tests.{lt-leb, le-leb, lt-ltb, le-ltb}
use lib.Dec.{leb}
use lib.ListN.{length, take, drop, get_or, set, replicate, length-drop, length-append, length-replicate}
use lib.Seq.{get_or-drop, drop-drop, take_at}
use Rattle.anomaly.specs.declared.Note.{Note}
use Rattle.digits.specs.Written.{fitted}
use Rattle.errors.specs.Refusal.{numbers_of}
use Rattle.errors.specs.declared.Numbers.{Numbers}
use Rattle.errors.proofs.Laws.{lines_numbers_of-unique}
use Rattle.records.specs.Words.{node_width, attribute_width, note_width, note_kind, note_a, note_b}
use Rattle.records.specs.Limits.{listed_notes}
use Rattle.listing_text.specs.Listing.{Line, lines_text, head_lines, node_lines, attribute_lines, record_lines, note_lines, listing, listing_text}
use Rattle.listing_text.specs.Printed.{listing_answer, Printed}
use Rattle.listing_back.specs.Due.{any_over}
use Rattle.listing_back.specs.Back.{Words, Relisting, Found, fault, found, relisting, told, note_words_line, relist_text, Relists}
use Rattle.listing_back.specs.Inner.Whole.{is_own}
use Rattle.listing_back.specs.declared.Relisted.{Relisted}
use Rattle.listing_back.proofs.Holding.{contra}
use Rattle.listing_back.proofs.Whole.{Filled, filled-le, Leading, trimmed, relisting-trimmed, relisting-said, relisting-back}
use Rattle.listing_back.proofs.Endings.{relisting-own, listed-own}
use Rattle.relist.specs.Inner.Judged.{note_in, notes_from, Judges}
use Rattle.errors.specs.declared.Refusal.{Refusal}

module _ (n : ℕ) where
  pub own-low : n < 8 → false ≡ is_own n
  own-low h = let a : n < 24 = omega arith in rw (lt-leb 8 n h, lt-leb 24 n a)

  pub own_room : 8 ≤ n → n ≤ 10 → true ≡ is_own n
  own_room h i = rw (le-leb 8 n h, le-leb n 10 i)

  pub own-gap : 8 ≤ n → 10 < n → n < 24 → false ≡ is_own n
  own-gap h i j = rw (le-leb 8 n h, lt-leb n 10 i, lt-leb 24 n j)

  pub own_line : 8 ≤ n → 10 < n → 24 ≤ n → leb n 26 ≡ is_own n
  own_line h i j = rw (le-leb 8 n h, lt-leb n 10 i, le-leb 24 n j)

-- for `relist::is_own`
pub ruleset owns = (own-low, own_room, own-gap, own_line)

-- an array of n bytes is as long
pub as_long : (n : ℕ) → n ≤ length {A = ℕ} (replicate n 0)
as_long n = rw (length-replicate {A = ℕ} n 0) (le_refl n)

-- ---- notes as the printer takes them

-- the words of a note, read one by one
pub note-drop : (i : ℕ) (w : List ℕ) {a b c : ℕ} → a ≡ get_or w (i + note_kind) 0 → b ≡ get_or w (i + note_a) 0 → c ≡ get_or w (i + note_b) 0 →
    record { kind = a; a = b; b = c } ≡ note_in (drop i w)
note-drop i w p q r = rw (p, q, r, get_or-drop i w note_kind 0, get_or-drop i w note_a 0, get_or-drop i w note_b 0)

pub length-notes : (n : ℕ) (w : List ℕ) → length (notes_from n w) ≡ n
unfolding notes_from
length-notes zero w = refl
length-notes (suc n) w = ap suc (length-notes n (drop note_width w))

-- the first i notes, and the others of an array
unfoldable pub notes_over : ℕ → List ℕ → List Note → List Note
notes_over zero w os = os
notes_over (suc i) w [] = []
notes_over (suc i) w (o ∷ os) = note_in w ∷ notes_over i (drop note_width w) os

-- a turn of the loop: one note more
pub notes-put : (i : ℕ) (w : List ℕ) (os : List Note) → set (notes_over i w os) i (note_in (drop (note_width * i) w)) ≡ notes_over (suc i) w os
unfolding notes_over
notes-put zero w [] = refl
notes-put zero w (o ∷ os) = refl
notes-put (suc i) w [] = refl
notes-put (suc i) w (o ∷ os) =
    let e : note_width * suc i ≡ note_width + note_width * i = omega arith in
    ap (λ (l : List Note). note_in w ∷ l)
    (ap (λ (d : List ℕ). set (notes_over i (drop note_width w) os) i (note_in d)) (ap (λ (n : ℕ). drop n w) e ∙ sym (drop-drop (note_width * i) note_width w)) ∙
    notes-put i (drop note_width w) os)

pub notes-all : (n : ℕ) (w : List ℕ) (os : List Note) → length os ≡ n → notes_over n w os ≡ notes_from n w
unfolding notes_over notes_from
notes-all zero w [] e = refl
notes-all zero w (o ∷ os) e = absurd (let z : ⊥ = omega (arith, e) in z)
notes-all (suc n) w [] e = absurd (let z : ⊥ = omega (arith, e) in z)
notes-all (suc n) w (o ∷ os) e = ap (λ (l : List Note). note_in w ∷ l) (notes-all n (drop note_width w) os (omega (arith, e)))

-- the loop's first, each of its turns, and its end
abbrev zero_notes : List Note
zero_notes = replicate listed_notes (record { kind = 0; a = 0; b = 0 })

pub notes-start : (w : List ℕ) (os : List Note) → os ≡ notes_over 0 w os
unfolding notes_over
notes-start w os = refl

pub notes-turn : (i : ℕ) (w : List ℕ) (os : List Note) (o : Note) → os ≡ notes_over i w zero_notes → o ≡ note_in (drop (note_width * i) w) →
    set os i o ≡ notes_over (i + 1) w zero_notes
notes-turn i w os o p q = rw (p, q, add-one i) (notes-put i w zero_notes)

pub notes-end : (i : ℕ) (w : List ℕ) (os : List Note) → os ≡ notes_over i w zero_notes → i ≤ listed_notes → listed_notes ≤ i → os ≡ notes_from listed_notes w
notes-end i w os p h g =
    let e : i ≡ listed_notes = omega arith in
    p ∙ (ap (λ (n : ℕ). notes_over n w zero_notes) e ∙ notes-all listed_notes w zero_notes (length-replicate {A = Note} listed_notes (record { kind = 0; a = 0; b = 0 })))

notes-lines : (k n m : ℕ) (w : List ℕ) → length w ≡ note_width * m → note_lines k n (notes_from m w) ≡ record_lines note_width note_words_line k n w
unfolding note_lines record_lines notes_from
notes-lines k zero m w e = refl
notes-lines k (suc n) zero w e = sym (rw (lt-ltb (length w) note_width (omega (arith, e))))
notes-lines k (suc n) (suc m) w e =
    rw (le-ltb (length w) note_width (omega (arith, e)), notes-lines (k + 1) n m (drop note_width w) (omega (arith, e, length-drop note_width w)))

text_of :
    (cap : ℕ) (n : Numbers) (ns ats os : List ℕ) (m : ℕ) → length os ≡ note_width * m →
    listing_text cap n ns ats (notes_from m os) ≡ relist_text (record { cap = cap; numbers = n; nodes = ns; attributes = ats; notes = os })
unfolding listing_text listing relist_text
text_of cap n ns ats os m e =
    ap (λ (x : List Line). lines_text (head_lines cap n ++ (node_lines 0 n.nodes ns ++ (attribute_lines 0 n.attributes ats ++ x)))) (notes-lines 0 n.notes m os e)

-- ---- tables with zeros behind their records

fitted-long : (w : List ℕ) (len : ℕ) → length w ≤ len → fitted w len ≡ w ++ replicate (len - length w) 0
unfolding fitted
fitted-long w len h = rw (le-leb (length w) len h)

length-fitted : (w : List ℕ) (len : ℕ) → length w ≤ len → length (fitted w len) ≡ len
length-fitted w len h =
    ap length (fitted-long w len h) ∙ (length-append w (replicate (len - length w) 0) ∙ rw (length-replicate {A = ℕ} (len - length w) 0) (omega (arith, h)))

module _ (width n len : ℕ) (w : List ℕ) (f : Filled width n (len / width) w) where
  front : take (width * n) (fitted w len) ≡ w
  front = ap (take (width * n)) (fitted-long w len (filled-le width n len w f)) ∙ take_at w (replicate (len - length w) 0) (width * n) f.many

  leads : Leading width n (len / width) (fitted w len)
  leads = record {
    many = let l = length-fitted w len (filled-le width n len w f) in let m = f.many in let h = filled-le width n len w f in omega arith;
    small = ap any_over front ∙ f.small;
    room = f.room;
  }

same-relisting :
    (x : Relisting) {a b c : List ℕ} → a ≡ x.nodes → b ≡ x.attributes → c ≡ x.notes →
    record { cap = x.cap; numbers = x.numbers; nodes = a; attributes = b; notes = c } ≡ x
same-relisting x p q r = rw (p, q, r)

module _ (w : Words) (text : List ℕ) (x : Relisting) (e : relisting w text ≡ found x) where
  -- what was read, as it stands in the tables
  abbrev there : Relisting
  there = record {
    cap = x.cap;
    numbers = x.numbers;
    nodes = fitted x.nodes w.nodes;
    attributes = fitted x.attributes w.attributes;
    notes = fitted x.notes w.notes;
  }

  there-text : relist_text there ≡ text
  there-text =
      let s = relisting-said w text x e in
      let n = x.numbers in
      let p = relisting-trimmed w there (record {
        tested = s.tested;
        nodes = leads node_width n.nodes w.nodes x.nodes s.nodes;
        attributes = leads attribute_width n.attributes w.attributes x.attributes s.attributes;
        notes = leads note_width n.notes w.notes x.notes s.notes;
      }) in
      let same : trimmed there ≡ x =
      same-relisting x (front node_width n.nodes w.nodes x.nodes s.nodes) (front attribute_width n.attributes w.attributes x.attributes s.attributes)
      (front note_width n.notes w.notes x.notes s.notes) in
      sym (relisting-back w (relist_text there) x (p ∙ ap found same)) ∙ relisting-back w text x e

-- ---- a fault

-- by what the text says
judged-own :
    (w : Words) (text : List ℕ) (x : Found) (n : Numbers) → relisting w text ≡ x → n ≡ (told x).numbers → is_own n.refusal ≡ true →
    relisting w text ≡ fault n.refusal n.value
judged-own w text (fault a c) n e q o = e ∙ sym (ap (λ (m : Numbers). fault m.refusal m.value) q)
judged-own w text (found x) n e q o =
    absurd (listed-own x.numbers.refusal (relisting-said w text x e).tested.listed (sym (ap (λ (m : Numbers). is_own m.refusal) q) ∙ o))

-- ---- a listing

printed-whole :
    (text t before after : List ℕ) (a : Result ℕ Refusal) → t ≡ text → Printed t before a after → length text ≤ length before →
    (a ≡ Ok (length text)) × (take (length text) after ≡ text) × (length text ≤ length after)
unfolding listing_answer
printed-whole text t before after a e p h =
    let q : after ≡ text ++ replicate (length before - length text) 0 = p.out ∙ (ap (λ (x : List ℕ). fitted x (length before)) e ∙ fitted-long text (length before) h) in (
      lines_numbers_of-unique a (Ok (length text)) (p.answer ∙ rw (e, le-leb (length text) (length before) h)),
      ap (take (length text)) q ∙ take_at text (replicate (length before - length text) 0) (length text) refl,
      let l : length after ≡ length before = ap length p.out ∙ (ap (λ (x : List ℕ). length (fitted x (length before))) e ∙ length-fitted text (length before) h) in
          omega (arith, l, h),
    )

module _ {text ns ats os : List ℕ} {r : Relisted} {ns' ats' os' : List ℕ} (h : Relists text ns ats os r ns' ats' os') (n : Numbers) (q : n ≡ numbers_of r.answer) where
  abbrev w : Words
  w = record { nodes = length ns; attributes = length ats; notes = length os }

  pub judges-own : is_own n.refusal ≡ true → relisting w text ≡ fault n.refusal n.value
  judges-own o = judged-own w text _ n refl (q ∙ h.answer) o

  module _
      (before after : List ℕ) (a : Result ℕ Refusal) (notes : List Note) (places : length os ≡ note_width * listed_notes) (room : length text ≤ length before)
      (records : notes ≡ notes_from listed_notes os') (p : Printed (listing_text r.cap n ns' ats' notes) before a after)
      (o : is_own n.refusal ≡ false) where
    by-found : (x : Found) → relisting w text ≡ x → n ≡ (told x).numbers → r.cap ≡ (told x).cap → ns' ≡ fitted (told x).nodes (length ns) →
        ats' ≡ fitted (told x).attributes (length ats) → os' ≡ fitted (told x).notes (length os) → Judges text (length ns) (length ats) (length os) (Ok (result_unwrap_or a 0)) after
    by-found (fault b c) e m k f g i = contra (is_own b) (relisting-own w text b c e) (sym (ap (λ (m : Numbers). is_own m.refusal) m) ∙ o)
    by-found (found x) e m k f g i =
        let s = relisting-said w text x e in
        let long : length os' ≡ note_width * listed_notes = ap length i ∙ (length-fitted x.notes (length os) (filled-le note_width x.numbers.notes (length os) x.notes s.notes) ∙ places) in
        let same : listing_text r.cap n ns' ats' notes ≡ text =
        ap (listing_text r.cap n ns' ats') records ∙ (text_of r.cap n ns' ats' os' listed_notes long ∙ (rw (m, k, f, g, i) refl ∙ there-text w text x e)) in
        let d = printed-whole text (listing_text r.cap n ns' ats' notes) before after a same p room in
        rw d.0 (record { said = x; says = e; prints = d.1 ∙ s.printed; same = d.1 }, d.2)

    pub judges-listing : Judges text (length ns) (length ats) (length os) (Ok (result_unwrap_or a 0)) after
    judges-listing = by-found _ refl (q ∙ h.answer) h.capped h.nodes h.attributes h.notes
