-- The buffer at the end: the whole text and zeros behind it, or zeros alone. No contract cites this file.
use Rattle.std.specs.Prelude.{Ok, Err}
use Prim.Native.Nat.{ℕ, ◌-◌, ◌≤◌, ◌<◌}
use mathlib.Core.Path.{◌≡◌}
use mathlib.Core.List.{List, ◌++◌}
use native.Mathlib.Omega.{arith}
use borrow.Author.Tests.{le-leb, lt-leb}
use borrow.Rule.Slice.PartMut.{put_mid, mid_of}
use lib.ListN.{length, replicate}
use Rattle.anomaly.specs.declared.Note.{Note}
use Rattle.errors.specs.declared.Numbers.{Numbers}
use Rattle.errors.specs.declared.Refusal.TheVariants.{TextShort}
use Rattle.listing_text.specs.Listing.{Line, lines_text, head_lines, node_lines, attribute_lines, note_lines, listing, listing_text}
use Rattle.listing_text.specs.Printed.{Printed, listing_answer}
use Rattle.listing_text.proofs.Laws.{lines_text-append}
use Rattle.digits.specs.Written.{Wrote}
use Rattle.digits.proofs.Fitted.{wrote-length, wrote-same, fitted-whole, fitted_short}

lines_text-four : (a b c d : List Line) → lines_text a ++ (lines_text b ++ (lines_text c ++ lines_text d)) ≡ lines_text (a ++ (b ++ (c ++ d)))
lines_text-four a b c d = simp lines_text-append

-- the parts of a listing's text, in order
pub listing_text-parts :
    (cap : ℕ) (n : Numbers) (ns ats : List ℕ) (os : List Note) → lines_text (head_lines cap n) ++
    (lines_text (node_lines 0 n.nodes ns) ++ (lines_text (attribute_lines 0 n.attributes ats) ++ lines_text (note_lines 0 n.notes os))) ≡
    listing_text cap n ns ats os
unfolding listing_text listing
listing_text-parts most n ns ats os =
    lines_text-four (head_lines most n) (node_lines 0 n.nodes ns) (attribute_lines 0 n.attributes ats) (note_lines 0 n.notes os)

module _ {m end : ℕ} {text l k : List ℕ} (w : Wrote m 0 text l end k) where
  -- zeros in the part from the end of the text on
  pub printed-whole :
      (ys : List ℕ) → end ≤ length k → ys ≡ replicate (length (mid_of end (length k - end) k)) 0 →
      Printed text l (Ok end) (put_mid end (length k - end) k ys)
  unfolding listing_answer
  printed-whole ys h e =
      let a = wrote-length w in
      let b = wrote-same w in
      let f : length text ≤ length l = omega arith in
      record { answer = rw (le-leb (length text) (length l) f, a); out = fitted-whole w ys h e }

  pub printed-short : (ys : List ℕ) → length k < end → ys ≡ replicate (length k) 0 → Printed text l (Err (TextShort end)) ys
  unfolding listing_answer
  printed-short ys h e =
      let a = wrote-length w in
      let b = wrote-same w in
      let f : length l < length text = omega arith in
      record { answer = rw (lt-leb (length text) (length l) f, a); out = fitted_short w ys h e }
