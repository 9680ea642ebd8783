-- How the structs of the code stand for a whole listing.
--
--   heading_list, heading_numbers, spot_of   the numbers of the head, and the spot behind it
--   ReadsHead       the head is read; TestedHeading: its numbers have passed the tests
--   is_own, Sayable  the refusals of the reader's own, and those that a listing can have, with their value
--   Says            the refusal with this number and this value
--   ReadsAll        all lines are read: the fault of the first that has one, or the words of each table at its front
use Rattle.std.specs.Prelude.{ℕ, ◌*◌, ◌≤◌, ◌≡◌, Bool, true, not, ◌&&◌, ◌||◌, List, [], ◌∷◌, length, take, eqb, leb}
use Rattle.errors.specs.declared.Numbers.{Numbers}
use Rattle.errors.specs.declared.Refusal.{Refusal}
use Rattle.errors.specs.Refusal.{refusal_number, refusal_value}
use Rattle.records.specs.Words.{node_width, attribute_width, note_width}
use Rattle.listing_back.specs.Back.{is_listed, is_plain, zero_where, head_of, Relisting, fault, found, relisting}
use Rattle.listing_back.specs.Inner.Steps.{step_of}
use Rattle.listing_back.specs.declared.opening.Heading.{Heading}
use Rattle.listing_back.specs.declared.stepping.Spot.{Spot}

abbrev pub heading_list : Heading → List ℕ
heading_list h = h.refusal ∷ h.value ∷ h.cap ∷ h.starts ∷ h.nodes ∷ h.attributes ∷ h.notes ∷ []

abbrev pub heading_numbers : Heading → Numbers
heading_numbers h = record {
  refusal = h.refusal;
  value = h.value;
  starts = h.starts;
  nodes = h.nodes;
  attributes = h.attributes;
  notes = h.notes;
}

abbrev pub spot_of : Heading → Spot
spot_of h = record { fault = h.fault; value = h.stop; at = h.at; number = 0 }

pub record ReadsHead (text : List ℕ) (h : Heading) : Type 0 where
  pub step : step_of text (heading_list h) (spot_of h) ≡ head_of text
  pub inside : h.at ≤ length text

pub record TestedHeading (h : Heading) : Type 0 where
  pub listed : is_listed h.refusal ≡ true
  pub value : zero_where (is_plain h.refusal) h.value ≡ true
  pub starts : zero_where (not (eqb h.refusal 0)) h.starts ≡ true
  pub nodes : zero_where (not (eqb h.refusal 0)) h.nodes ≡ true
  pub attributes : zero_where (not (eqb h.refusal 0)) h.attributes ≡ true
  pub notes : zero_where (not (eqb h.refusal 0)) h.notes ≡ true

abbrev pub is_own : ℕ → Bool
is_own n = (leb 8 n && leb n 10) || (leb 24 n && leb n 26)

pub record Sayable (n v : ℕ) : Type 0 where
  pub listed : is_listed n ≡ true
  pub value : zero_where (is_plain n) v ≡ true
  pub some : n ≡ 0 → ⊥

pub record Says (n v : ℕ) (r : Refusal) : Type 0 where
  pub number : refusal_number r ≡ n
  pub value : refusal_value r ≡ v

abbrev pub relisting_of : Heading → List ℕ → List ℕ → List ℕ → Relisting
relisting_of h ns ats os = record {
  cap = h.cap;
  numbers = heading_numbers h;
  nodes = take (node_width * h.nodes) ns;
  attributes = take (attribute_width * h.attributes) ats;
  notes = take (note_width * h.notes) os;
}

pub record ReadsAll (text : List ℕ) (h : Heading) (ns ats os : List ℕ) (r : Spot) (ns' ats' os' : List ℕ) : Type 0 where
  pub stops : (r.fault ≡ 0 → ⊥) →
      relisting (record { nodes = length ns; attributes = length ats; notes = length os }) text ≡ fault r.fault r.value
  pub goes : r.fault ≡ 0 →
      relisting (record { nodes = length ns; attributes = length ats; notes = length os }) text ≡ found (relisting_of h ns' ats' os')
  pub nodes : (r.fault ≡ 0 → node_width * h.nodes ≤ length ns) × (length ns' ≡ length ns)
  pub attributes : (r.fault ≡ 0 → attribute_width * h.attributes ≤ length ats) × (length ats' ≡ length ats)
  pub notes : (r.fault ≡ 0 → note_width * h.notes ≤ length os) × (length os' ≡ length os)
