-- Laws of specs/Lists.antt: refusal 2, what was read, and the listing of it. No contract cites this file.
use Rattle.std.specs.Prelude.{Result, Err}
use Prim.Native.Nat.{ℕ, ◌≤◌, ◌<◌}
use native.Mathlib.Omega.{arith}
use mathlib.Core.Path.{◌≡◌, sym, ◌∙◌}
use mathlib.Core.List.{List, [], ◌++◌}
use borrow.Author.Tests.{lt-ltb, le-ltb}
use lib.ListN.{length, replicate, length-append}
use Rattle.anomaly.specs.declared.Note.{Note}
use Rattle.errors.specs.Refusal.{numbers_of}
use Rattle.errors.specs.declared.Numbers.{Numbers}
use Rattle.errors.specs.declared.Refusal.TheVariants.{TooLargeError}
use Rattle.records.specs.Limits.{listed_file, listed_notes, listed_cap}
use Rattle.records.specs.Words.{merged}
use Rattle.system_types.specs.Names.{lends}
use Rattle.walk.specs.Reading.{Reads, zero_note, refuses}
use Rattle.listing_text.specs.Listing.{listing_text}
use Rattle.listing_text.specs.Printed.{Printed}
use Rattle.listed.specs.Lists.{listed_room, listed, ReadsToList, Lists}
use Rattle.errors.specs.declared.ReadCounts.{ReadCounts}
use Rattle.errors.specs.declared.Refusal.{Refusal}

module _ (f ns ats ns' ats' : List ℕ) (r : Result ReadCounts Refusal) (os : List Note) where
  pub refused-unread : listed_file < length f → ns' ≡ replicate (length ns) 0 → ats' ≡ replicate (length ats) 0 → r ≡ Err TooLargeError
      → os ≡ replicate listed_notes zero_note → ReadsToList f ns ats r ns' ats' os
  unfolding listed
  refused-unread h e g x k =
      let q = lt-ltb listed_file (length f) h in
      record { answer = rw (q, x); nodes = rw q e; attributes = rw q g; notes = rw q k }

  pub read-whole : length f ≤ listed_file → Reads f (lends [] []) ns ats (replicate listed_notes zero_note) listed_cap merged r ns' ats' os
      → ReadsToList f ns ats r ns' ats' os
  unfolding listed
  read-whole h g =
      let q = le-ltb listed_file (length f) h in
      record { answer = rw q g.answer; nodes = rw q g.nodes; attributes = rw q g.attributes; notes = rw q g.notes }

  pub lists-read : (n : Numbers) (before after : List ℕ) (p : Result ℕ Refusal) → ReadsToList f ns ats r ns' ats' os → n ≡ numbers_of r
      → Printed (listing_text listed_cap n ns' ats' os) before p after → Lists f ns ats before p ns' ats' after
  lists-read n before after p g e w = record {
    printed = rw (← g.answer, ← g.nodes, ← g.attributes, ← g.notes, ← e) w;
    nodes = g.nodes;
    attributes = g.attributes;
  }

-- ---- what is above the limit, and whatever follows it

listed-large : (f : List ℕ) (a b : ℕ) → listed_file < length f → listed f a b ≡ refuses (listed_room a b) TooLargeError
unfolding listed
listed-large f a b h = rw (lt-ltb listed_file (length f) h)

pub lists-longer :
    (f more ns ats before : List ℕ) (r : Result ℕ Refusal) (ns' ats' after : List ℕ) → listed_file < length f → Lists f ns ats before r ns' ats' after →
    Lists (f ++ more) ns ats before r ns' ats' after
lists-longer f more ns ats before r ns' ats' after h p =
    let l : listed_file < length (f ++ more) = rw (length-append f more) (omega arith) in
    let e : listed (f ++ more) (length ns) (length ats) ≡ listed f (length ns) (length ats) =
    listed-large (f ++ more) (length ns) (length ats) l ∙ sym (listed-large f (length ns) (length ats) h) in
    record { printed = rw e p.printed; nodes = rw e p.nodes; attributes = rw e p.attributes }
