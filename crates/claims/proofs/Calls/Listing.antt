-- The claims of the listing's function, `listed::list_into`: docs/FORMAT.md, L1, L2, B7, B8, P1. No contract cites this file.
--
--   printed-refused, printed-done   zeros in the buffer
--   listed-long, listed-short       a file that is too long for a listing is not read; of another its reading is listed
--   unread-zeros, read-zeros        zeros in the tables
--   list-suffices                   the room of a listing suffices
use Rattle.std.specs.Prelude.{Ok, Err}
use Prim.Native.Nat.{ℕ, ◌*◌}
use native.Mathlib.Omega.{arith}
use mathlib.Core.Path.{◌≡◌, refl, sym, ◌∙◌, ap, subst}
use mathlib.Core.List.{List, []}
use mathlib.Core.Bool.{Bool, true, false}
use borrow.Author.Tests.{leb-true, ltb-false}
use lib.ListN.{length, replicate}
use lib.Dec.{ltb, leb}
use Rattle.digits.specs.Written.{fitted}
use Rattle.errors.specs.Refusal.{refusal_number, numbers_of}
use Rattle.errors.specs.declared.Refusal.{Refusal}
use Rattle.errors.specs.declared.Refusal.TheVariants.{TooLargeError, TextShort}
use Rattle.errors.specs.declared.ReadCounts.{ReadCounts}
use Rattle.errors.proofs.Laws.{lines_numbers_of-unique}
use Rattle.records.specs.Words.{node_width, attribute_width, merged}
use Rattle.records.specs.Limits.{listed_file, listed_notes, listed_cap}
use Rattle.system_types.specs.Names.{lends}
use Rattle.walk.specs.Reading.{Reading, zero_note, refuses, reading}
use Rattle.listing_text.specs.Printed.{listing_answer, Printed}
use Rattle.listed.specs.Lists.{listed_room, listed}
use Rattle.listed.specs.Roomy.{Roomy}
use Rattle.claims.specs.Cleared.{ZeroBehind}
use Rattle.claims.specs.Room.{HasRoom}
use Rattle.claims.proofs.Calls.Readings.{reading-left}
use Rattle.claims.proofs.Room.Theorem.{suffices, listing-suffices}
use Rattle.claims.proofs.Calls.Zeros.{behind, refused-zeros, done-zeros}

-- ---- the buffer

module _ (text before after : List ℕ) where
  pub printed-refused : (x : Refusal) → Printed text before (Err x) after → after ≡ replicate (length before) 0
  unfolding listing_answer fitted
  printed-refused x h = go (leb (length text) (length before)) refl
    where
      go : (b : Bool) → leb (length text) (length before) ≡ b → after ≡ replicate (length before) 0
      go true e =
          let q : Err x ≡ Ok (length text) = lines_numbers_of-unique _ _ (h.answer ∙ rw e) in
          let z : ◌≡◌ {A = ℕ} 0 1 = cc in absurd (let y : ⊥ = omega arith in y)
      go false e = h.out ∙ rw e

  pub printed-done : (k : ℕ) → Printed text before (Ok k) after → ZeroBehind 0 k before after
  unfolding listing_answer fitted
  printed-done k h = go (leb (length text) (length before)) refl
    where
      go : (b : Bool) → leb (length text) (length before) ≡ b → ZeroBehind 0 k before after
      go true e =
          let q : Ok k ≡ Ok (length text) = lines_numbers_of-unique _ _ (h.answer ∙ rw e) in
          let w : k ≡ length text = cc in
          rw w (behind 0 (length text) (length before) text before after refl refl (leb-true (length text) (length before) e) (h.out ∙ rw e))
      go false e =
          let q : Ok k ≡ Err (TextShort (length text)) = lines_numbers_of-unique _ _ (h.answer ∙ rw e) in
          let z : ◌≡◌ {A = ℕ} 0 1 = cc in absurd (let y : ⊥ = omega arith in y)

-- ---- the tables

pub listed-long : (f : List ℕ) (n m : ℕ) → ltb listed_file (length f) ≡ true → listed f n m ≡ refuses (listed_room n m) TooLargeError
unfolding listed
listed-long f n m e = rw e

pub listed-short : (f : List ℕ) (n m : ℕ) → ltb listed_file (length f) ≡ false → listed f n m ≡ reading (listed_room n m) f (lends [] [])
unfolding listed
listed-short f n m e = rw e

module _ (f ns ats : List ℕ) where
  abbrev all : Reading
  all = listed f (length ns) (length ats)

  pub unread-zeros : (x : Refusal) → all.answer ≡ Err x → (all.nodes ≡ replicate (length ns) 0) × (all.attributes ≡ replicate (length ats) 0)
  unread-zeros x e = go (ltb listed_file (length f)) refl
    where
      go : (b : Bool) → ltb listed_file (length f) ≡ b → (all.nodes ≡ replicate (length ns) 0) × (all.attributes ≡ replicate (length ats) 0)
      go true q =
          let l = listed-long f (length ns) (length ats) q in
          (ap (λ (y : Reading). y.nodes) l, ap (λ (y : Reading). y.attributes) l)
      go false q =
          let z = refused-zeros f (lends [] []) ns ats (replicate listed_notes zero_note) listed_cap merged x _ _ _
          (reading-left f (lends [] []) ns ats listed_notes listed_cap merged all (listed-short f (length ns) (length ats) q) (Err x) e) in
          (z.node_words, z.attribute_words)

  pub read-zeros : (c : ReadCounts) → all.answer ≡ Ok c
      → ZeroBehind 0 (node_width * c.nodes) ns all.nodes × ZeroBehind 0 (attribute_width * c.attributes) ats all.attributes
  unfolding numbers_of
  read-zeros c e = go (ltb listed_file (length f)) refl
    where
      go : (b : Bool) → ltb listed_file (length f) ≡ b
          → ZeroBehind 0 (node_width * c.nodes) ns all.nodes × ZeroBehind 0 (attribute_width * c.attributes) ats all.attributes
      go true q =
          let l : Ok c ≡ Err TooLargeError = sym e ∙ ap (λ (y : Reading). y.answer) (listed-long f (length ns) (length ats) q) in
          let z : ◌≡◌ {A = ℕ} 0 1 = cc in absurd (let y : ⊥ = omega arith in y)
      go false q =
          let z = done-zeros f (lends [] []) ns ats (replicate listed_notes zero_note) listed_cap merged c _ _ _
          (reading-left f (lends [] []) ns ats listed_notes listed_cap merged all (listed-short f (length ns) (length ats) q) (Ok c) e) in
          (z.node_words, z.attribute_words)

-- ---- its room suffices

pub list-suffices : (f : List ℕ) (n m room : ℕ) → Roomy n m room → HasRoom (listed f n m).answer
unfolding refusal_number
list-suffices f n m room h = go (ltb listed_file (length f)) refl
  where
    go : (b : Bool) → ltb listed_file (length f) ≡ b → HasRoom (listed f n m).answer
    go true q = subst (λ (y : Reading). HasRoom y.answer) (sym (listed-long f n m q)) refl
    go false q =
        let s = listing-suffices (length f) (ltb-false listed_file (length f) q) in
        subst (λ (y : Reading). HasRoom y.answer) (sym (listed-short f n m q))
        (suffices (listed_room n m) f (lends [] []) (omega (arith, s.0, h.nodes)) (omega (arith, s.1, h.attributes)) s.2)
