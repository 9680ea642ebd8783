-- What the listing program prints reads back to its reading: docs/FORMAT.md, L9. No contract cites this file.
--
--   value-plain, listed_small, refused-tested, done-tested   what a listing can say
--   all-behind    behind the records of what is listed stand zeros
--   listed_back   THE THEOREM: the text of a file's listing reads back to what was listed
use Rattle.std.specs.Prelude.{Result, Ok, Err}
use Prim.Native.Nat.{ℕ, zero, suc, ◌+◌, ◌*◌, ◌/◌, ◌<◌}
use native.Mathlib.Omega.{arith}
use native.Mathlib.Nat.{mul-zero, sub-zero}
use mathlib.Core.Path.{◌≡◌, refl, sym, ◌∙◌, ap, subst}
use mathlib.Core.List.{List, [], ◌∷◌, ◌++◌}
use mathlib.Core.Bool.{Bool, true, false, not}
use borrow.Author.Tests.{le-ltb, ltb-true, ltb-false}
use lib.ListN.{length, replicate, length-replicate}
use lib.Dec.{ltb, eqb}
use Rattle.anomaly.specs.declared.Note.{Note}
use Rattle.errors.specs.Refusal.{refusal_number, refusal_value, numbers_of}
use Rattle.errors.specs.declared.Refusal.{Refusal}
use Rattle.errors.specs.declared.Refusal.TheVariants.{TooSmallError, TooLargeError, HeaderSizeError, MissingRoot, SystemNamesError, NodesFull, AttributesFull}
use Rattle.errors.specs.declared.Refusal.TheVariants.{NotesFull, TextShort, NothingFound, TablesError, ItemsError, NoPlainText, ModeError, PairsError, AnswersFull}
use Rattle.errors.specs.declared.Refusal.TheVariants.{ListingMalformed, ListingNumber, ListingOrder, NotesOff, ListFull, RoundUpFull}
use Rattle.errors.specs.declared.Refusal.TheVariants.{StringPoolGarbage, StringPoolHeader, StringPoolOffsets, StringPoolStyles, StringPoolData, ResourceMapHeader, ResourceMapIds}
use Rattle.errors.specs.declared.ReadCounts.{ReadCounts}
use Rattle.errors.specs.declared.Numbers.{Numbers}
use Rattle.records.specs.Words.{node_width, attribute_width, note_width, note_words, merged}
use Rattle.records.specs.Limits.{listed_file, listed_nodes, listed_attributes, listed_notes, listed_cap}
use Rattle.system_types.specs.Names.{lends}
use Rattle.walk.specs.Reading.{Reading, zero_note}
use Rattle.listing_text.specs.Listing.{Line, lines_text, head_lines, node_lines, attribute_lines, record_lines, note_lines, listing, listing_text}
use Rattle.listed.specs.Lists.{listed_room, listed, listed_text}
use Rattle.c_api.specs.Words.{words_of}
use Rattle.c_api.proofs.Noting.{length-words}
use Rattle.listing_back.specs.Due.{any_over}
use Rattle.listing_back.specs.Back.{is_listed, is_plain, zero_where, Relisting, found, relisting, note_words_line, relist_text}
use Rattle.listing_back.proofs.Lines.{any_over-first, any_over-others}
use Rattle.listing_back.proofs.Strays.{listed-over}
use Rattle.listing_back.proofs.Steps.{any_over-cons, no-over}
use Rattle.listing_back.proofs.Heads.{head_list, Tested}
use Rattle.listing_back.proofs.Whole.{Leading, Printable, relisting-trimmed}
use Rattle.claims.specs.Cleared.{ZeroBehind}
use Rattle.claims.specs.Readers.{all_below}
use Rattle.claims.specs.Relisted.{listed_words, said_by}
use Rattle.claims.proofs.Calls.Readings.{reading-left}
use Rattle.claims.proofs.Calls.Listing.{listed-long, listed-short, unread-zeros, read-zeros}
use Rattle.claims.proofs.Small.Readings.{In32, over-take, listed-in32}
use Rattle.claims.proofs.Room.Theorem.{SaidBy, said-by, listing-suffices}
use Rattle.claims.proofs.Calls.Zeros.{behind, refused-zeros, done-zeros}

-- ---- notes as words

note_lines-words : (k n : ℕ) (os : List Note) → note_lines k n os ≡ record_lines note_width note_words_line k n (words_of os)
unfolding note_lines record_lines words_of
note_lines-words k zero os = refl
note_lines-words k (suc n) [] = refl
note_lines-words k (suc n) (o ∷ os) =
    rw (le-ltb (length (note_words o.kind o.a o.b ++ words_of os)) note_width (omega arith), note_lines-words (k + 1) n os)

listing-words :
    (most : ℕ) (n : Numbers) (ns ats : List ℕ) (os : List Note) → listing_text most n ns ats os ≡
    relist_text (record { cap = most; numbers = n; nodes = ns; attributes = ats; notes = words_of os })
unfolding listing_text listing relist_text
listing-words most n ns ats os =
    ap (λ (x : List Line). lines_text (head_lines most n ++ (node_lines 0 n.nodes ns ++ (attribute_lines 0 n.attributes ats ++ x)))) (note_lines-words 0 n.notes os)

-- ---- what a listing can say

value-plain : (x : Refusal) → zero_where (is_plain (refusal_number x)) (refusal_value x) ≡ true
unfolding refusal_number refusal_value
value-plain (TooSmallError v) = refl
value-plain TooLargeError = refl
value-plain (HeaderSizeError v) = refl
value-plain MissingRoot = refl
value-plain (SystemNamesError v) = refl
value-plain (NodesFull v) = refl
value-plain (AttributesFull v) = refl
value-plain (NotesFull v) = refl
value-plain (TextShort v) = refl
value-plain NothingFound = refl
value-plain (TablesError v) = refl
value-plain (ItemsError v) = refl
value-plain (NoPlainText v) = refl
value-plain (ModeError v) = refl
value-plain (PairsError v) = refl
value-plain (AnswersFull v) = refl
value-plain (ListingMalformed v) = refl
value-plain (ListingNumber v) = refl
value-plain (ListingOrder v) = refl
value-plain NotesOff = refl
value-plain (ListFull v) = refl
value-plain RoundUpFull = refl
value-plain (StringPoolGarbage v) = refl
value-plain (StringPoolHeader v) = refl
value-plain (StringPoolOffsets v) = refl
value-plain (StringPoolStyles v) = refl
value-plain (StringPoolData v) = refl
value-plain (ResourceMapHeader v) = refl
value-plain (ResourceMapIds v) = refl

zero-where : (b : Bool) → zero_where b 0 ≡ true
zero-where true = refl
zero-where false = refl

listed_small : (n : ℕ) → is_listed n ≡ true → n < 4294967296
listed_small n h = go (ltb n 4294967296) refl where
  go : (t : Bool) → ltb n 4294967296 ≡ t → n < 4294967296
  go true e = ltb-true n 4294967296 e
  go false e =
      let z : ◌≡◌ {A = ℕ} 0 1 = let q = listed-over n (ltb-false n 4294967296 e) in cc in
      absurd (let y : ⊥ = omega arith in y)

head_small :
    (a b c d e f g : ℕ) → a < 4294967296 → c < 4294967296 → any_over (b ∷ d ∷ []) ≡ false → any_over (e ∷ f ∷ g ∷ []) ≡ false →
    any_over (a ∷ b ∷ c ∷ d ∷ e ∷ f ∷ g ∷ []) ≡ false
head_small a b c d e f g p q v w =
    let v' : any_over (d ∷ []) ≡ false = any_over-others b (d ∷ []) v in
    any_over-cons a _ p (any_over-cons b _ (any_over-first b (d ∷ []) v) (any_over-cons c _ q (any_over-cons d _ (any_over-first d [] v') w)))

done-tested : (c : ReadCounts) → any_over (head_list listed_cap (numbers_of (Ok c))) ≡ false → Tested (head_list listed_cap (numbers_of (Ok c)))
unfolding numbers_of
done-tested c o = record { listed = refl; value = refl; starts = refl; nodes = refl; attributes = refl; notes = refl; small = o }

refused-tested :
    (x : Refusal) → is_listed (refusal_number x) ≡ true → any_over (head_list listed_cap (numbers_of (Err x))) ≡ false → Tested (head_list listed_cap (numbers_of (Err x)))
unfolding numbers_of
refused-tested x l o =
    let z = zero-where (not (eqb (refusal_number x) 0)) in
    record { listed = l; value = value-plain x; starts = z; nodes = z; attributes = z; notes = rw z; small = o }

none-leading : (width places : ℕ) (w : List ℕ) → Leading width 0 places w
none-leading width places w = record { many = rw (mul-zero width) (omega arith); small = rw (mul-zero width) no-over; room = omega arith }

-- zeros alone are zeros behind nothing
none-behind : {A : Type 0} (z : A) (l l' : List A) → l' ≡ replicate (length l) z → ZeroBehind z 0 l l'
none-behind z l l' e = behind z 0 (length l) [] l l' refl refl (omega arith) (e ∙ ap (λ (n : ℕ). replicate n z) (sym (sub-zero (length l))))

module _ (f ns ats : List ℕ) where
  abbrev all : Reading
  all = listed f (length ns) (length ats)

  -- behind the notes of a success stand zeros, and a refusal leaves nothing else
  read-notes : (c : ReadCounts) → all.answer ≡ Ok c → ZeroBehind zero_note c.notes (replicate listed_notes zero_note) all.notes
  unfolding numbers_of
  read-notes c e = go (ltb listed_file (length f)) refl where
    go : (b : Bool) → ltb listed_file (length f) ≡ b → ZeroBehind zero_note c.notes (replicate listed_notes zero_note) all.notes
    go true q =
        let l : Ok c ≡ Err TooLargeError = sym e ∙ ap (λ (y : Reading). y.answer) (listed-long f (length ns) (length ats) q) in
        let z : ◌≡◌ {A = ℕ} 0 1 = cc in absurd (let y : ⊥ = omega arith in y)
    go false q =
        (done-zeros f (lends [] []) ns ats (replicate listed_notes zero_note) listed_cap merged c _ _ _
        (reading-left f (lends [] []) ns ats listed_notes listed_cap merged all (listed-short f (length ns) (length ats) q) (Ok c) e)).note_records

  unread-notes : (x : Refusal) → all.answer ≡ Err x → all.notes ≡ replicate (length (replicate listed_notes zero_note)) zero_note
  unread-notes x e = go (ltb listed_file (length f)) refl where
    go : (b : Bool) → ltb listed_file (length f) ≡ b → all.notes ≡ replicate (length (replicate listed_notes zero_note)) zero_note
    go true q =
        ap (λ (y : Reading). y.notes) (listed-long f (length ns) (length ats) q) ∙
        ap (λ (n : ℕ). replicate n zero_note) (sym (length-replicate listed_notes zero_note))
    go false q =
        (refused-zeros f (lends [] []) ns ats (replicate listed_notes zero_note) listed_cap merged x _ _ _
        (reading-left f (lends [] []) ns ats listed_notes listed_cap merged all (listed-short f (length ns) (length ats) q) (Err x) e)).note_records

  pub record Behind (n : Numbers) : Type 0 where
    pub nodes : ZeroBehind 0 (node_width * n.nodes) ns all.nodes
    pub attributes : ZeroBehind 0 (attribute_width * n.attributes) ats all.attributes
    pub notes : ZeroBehind zero_note n.notes (replicate listed_notes zero_note) all.notes

  pub all-behind : (a : Result ReadCounts Refusal) → all.answer ≡ a → Behind (numbers_of a)
  unfolding numbers_of
  all-behind (Ok c) e = let z = read-zeros f ns ats c e in record { nodes = z.0; attributes = z.1; notes = read-notes c e }
  all-behind (Err x) e =
      let z = unread-zeros f ns ats x e in
      record { nodes = none-behind 0 ns _ z.0; attributes = none-behind 0 ats _ z.1; notes = none-behind zero_note _ _ (unread-notes x e) }

  -- in the room of a listing its refusal is one that a listing can say
  module _ (room₁ : length ns ≡ node_width * listed_nodes) (room₂ : length ats ≡ attribute_width * listed_attributes) where
    listed-said : SaidBy all.answer
    unfolding refusal_number
    listed-said = go (ltb listed_file (length f)) refl where
      go : (b : Bool) → ltb listed_file (length f) ≡ b → SaidBy all.answer
      go true q = subst SaidBy (sym (ap (λ (y : Reading). y.answer) (listed-long f (length ns) (length ats) q))) refl
      go false q =
          let s = listing-suffices (length f) (ltb-false listed_file (length f) q) in
          subst SaidBy (sym (ap (λ (y : Reading). y.answer) (listed-short f (length ns) (length ats) q)))
          (said-by (listed_room (length ns) (length ats)) f (omega (arith, s.0)) (omega (arith, s.1)) s.2 refl refl)

    said-listed : (a : Result ReadCounts Refusal) → SaidBy a → is_listed (numbers_of a).refusal ≡ true
    unfolding numbers_of
    said-listed (Ok c) h = refl
    said-listed (Err y) h = h

    is-listed : is_listed (numbers_of all.answer).refusal ≡ true
    is-listed = said-listed all.answer listed-said

  module _ (bytes : all_below 256 f ≡ true) (room₁ : length ns ≡ node_width * listed_nodes) (room₂ : length ats ≡ attribute_width * listed_attributes) where
    b : In32 all
    b = listed-in32 f (length ns) (length ats) bytes (omega (arith, room₁)) (omega (arith, room₂))

    abbrev x : Relisting
    x = record { cap = listed_cap; numbers = numbers_of all.answer; nodes = all.nodes; attributes = all.attributes; notes = words_of all.notes }

    head-fits : any_over (head_list listed_cap (numbers_of all.answer)) ≡ false
    head-fits =
        let n = numbers_of all.answer in
        head_small n.refusal n.value listed_cap n.starts n.nodes n.attributes n.notes (listed_small n.refusal (is-listed room₁ room₂)) (omega arith) b.value b.counts

    printable-at :
        (a : Result ReadCounts Refusal) → all.answer ≡ a →
        Printable (listed_words (length ns) (length ats)) (record { cap = listed_cap; numbers = numbers_of a; nodes = all.nodes; attributes = all.attributes; notes = words_of all.notes })
    unfolding numbers_of
    printable-at (Err y) e =
        record {
          tested = refused-tested y (ap (λ (z : Result ReadCounts Refusal). is_listed (numbers_of z).refusal) (sym e) ∙ is-listed room₁ room₂)
              (ap (λ (z : Result ReadCounts Refusal). any_over (head_list listed_cap (numbers_of z))) (sym e) ∙ head-fits);
          nodes = none-leading node_width (length ns / node_width) all.nodes;
          attributes = none-leading attribute_width (length ats / attribute_width) all.attributes;
          notes = none-leading note_width (note_width * listed_notes / note_width) (words_of all.notes);
        }
    printable-at (Ok c) e =
        let z = read-zeros f ns ats c e in
        let m = read-notes c e in
        let l = length-words all.notes in
        let o = length-replicate listed_notes zero_note in
        let n1 = z.0.there in
        let n2 = z.0.long in
        let a1 = z.1.there in
        let a2 = z.1.long in
        let m1 = m.there in
        let m2 = m.long in
        record {
          tested = done-tested c (ap (λ (z : Result ReadCounts Refusal). any_over (head_list listed_cap (numbers_of z))) (sym e) ∙ head-fits);
          nodes = record { many = omega arith; small = over-take (node_width * c.nodes) all.nodes b.nodes; room = omega arith };
          attributes = record { many = omega arith; small = over-take (attribute_width * c.attributes) all.attributes b.attributes; room = omega arith };
          notes = record { many = omega arith; small = over-take (note_width * c.notes) (words_of all.notes) b.notes; room = omega arith };
        }

    pub listed_back : relisting (listed_words (length ns) (length ats)) (listed_text f (length ns) (length ats)) ≡ found (said_by all)
    listed_back =
        ap (relisting (listed_words (length ns) (length ats))) (listing-words listed_cap (numbers_of all.answer) all.nodes all.attributes all.notes) ∙
        relisting-trimmed (listed_words (length ns) (length ats)) x (printable-at all.answer refl)
