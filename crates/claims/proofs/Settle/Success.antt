-- What a reading says that succeeds, and two of them beside each other: docs/FORMAT.md, B15, P3. No contract cites this file.
--
--   Success, success   a success comes from tables that the events of its file leave; reading-of: where all entry checks pass
--   KeptThere          what is kept of tables is there
--   succeeds-same      what is kept of tables that differ in their notes alone
--   kept_nodes, kept_attributes, again-nodes, again-attributes   what was kept, in a table of another length, and of the same
--   none_kept          with a cap of at least 1, no note kept is no note made
use Rattle.std.specs.Prelude.{Result, Ok, Err}
use Prim.Native.Nat.{ℕ, zero, suc, ◌-◌, ◌*◌, ◌/◌, ◌≤◌}
use native.Mathlib.Omega.{arith}
use mathlib.Core.Path.{◌≡◌, refl, sym, ◌∙◌, ap, subst}
use mathlib.Core.List.{List, [], ◌∷◌, ◌++◌, map}
use mathlib.Core.Bool.{true}
use borrow.Author.Tests.{lt-ltb}
use lib.ListN.{length, take, get_or, replicate, length-map}
use lib.Seq.{length-take-le, take_at}
use Rattle.anomaly.specs.Note.{kinds, kind_index, note_of}
use Rattle.anomaly.specs.Kept.{is_due, none, kept_notes}
use Rattle.anomaly.specs.declared.ResAnomaly.{ResAnomaly}
use Rattle.anomaly.proofs.Laws.{kept_from-due}
use Rattle.errors.specs.declared.Refusal.{Refusal}
use Rattle.errors.specs.declared.ReadCounts.{ReadCounts}
use Rattle.system_types.specs.Names.{Lent, names_of}
use Rattle.head.specs.Head.{opened_of}
use Rattle.head.specs.Entry.{reading_at, is_mode, Check, passes, fails, first_of, entry_checks}
use Rattle.head.proofs.Entering.{Passed, passed, passes-all, cap-passes, cap-some, mode-passes, mode-known}
use Rattle.records.specs.Limits.{file_limit}
use Rattle.records.specs.Words.{node_width, attribute_width}
use Rattle.walk.specs.Settle.{Room, Tables, Out, going, refused}
use Rattle.walk.specs.Reading.{Reading, nodes_kept, attributes_kept, refuses, succeeds, final_of, settled_in, reading_by, reading}
use Rattle.claims.specs.Insertion.{with_notes}
use Rattle.claims.proofs.Settle.TableGrowth.{bare}

-- ---- what a success says

abbrev IsDone : Result ReadCounts Refusal → Type 0
IsDone (Ok c) = Unit {0}
IsDone (Err x) = ⊥

abbrev counts_in : ReadCounts → Result ReadCounts Refusal → ReadCounts
counts_in d (Ok c) = c
counts_in d (Err x) = d

abbrev pub counts_of : Tables → ReadCounts
counts_of t = record { starts = length t.nodes / node_width; nodes = nodes_kept t; attributes = attributes_kept t; notes = length t.notes }

pub record Success (r : Room) (f : List ℕ) (lent : Lent) (c : ReadCounts) : Type 0 where
  pub short : length f ≤ file_limit
  pub cap : 1 ≤ r.cap
  pub good : names_of lent ≡ (Ok tt)
  pub mode : is_mode r.mode ≡ true
  pub tables : Tables
  pub settles : settled_in r f lent (opened_of f) ≡ going tables
  pub whole : reading r f lent ≡ succeeds r tables
  pub counts : counts_of tables ≡ c

module _ (r : Room) (f : List ℕ) (lent : Lent) where
  reading-by : (k : Check) → first_of (entry_checks f lent (reading_at r.cap r.mode)) ≡ k → reading r f lent ≡ reading_by r (settled_in r f lent (opened_of f)) k
  unfolding reading
  reading-by k q = ap (reading_by r (settled_in r f lent (opened_of f))) q

  pub reading-of : length f ≤ file_limit → 1 ≤ r.cap → names_of lent ≡ (Ok tt) → is_mode r.mode ≡ true → reading r f lent ≡ final_of r (settled_in r f lent (opened_of f))
  reading-of short cap good mode =
      reading-by passes (passes-all f lent (reading_at r.cap r.mode) short (cap-passes r.cap r.mode cap) good (mode-passes r.cap r.mode mode) refl)

  pub success : (c : ReadCounts) → (reading r f lent).answer ≡ Ok c → Success r f lent c
  success c e = checked (first_of (entry_checks f lent (reading_at r.cap r.mode))) refl
    where
      answer : Reading → Result ReadCounts Refusal
      answer x = x.answer

      no-done : {A : Type 0} (x : Refusal) → reading r f lent ≡ refuses r x → A
      no-done x z = absurd (subst IsDone (sym (sym (ap answer z) ∙ e)) tt)

      whole : Passed f lent (reading_at r.cap r.mode) → reading r f lent ≡ final_of r (settled_in r f lent (opened_of f))
      whole p = reading-of p.short (cap-some r.cap r.mode p.cap) p.good (mode-known r.cap r.mode p.mode)

      out : Passed f lent (reading_at r.cap r.mode) → (o : Out) → settled_in r f lent (opened_of f) ≡ o → Success r f lent c
      out p (refused x) q = no-done x (whole p ∙ ap (final_of r) q)
      out p (going t) q =
          let w : reading r f lent ≡ succeeds r t = whole p ∙ ap (final_of r) q in
          record {
            short = p.short;
            cap = cap-some r.cap r.mode p.cap;
            good = p.good;
            mode = mode-known r.cap r.mode p.mode;
            tables = t;
            settles = q;
            whole = w;
            counts = ap (counts_in c) (sym (ap answer w) ∙ e);
          }

      checked : (k : Check) → first_of (entry_checks f lent (reading_at r.cap r.mode)) ≡ k → Success r f lent c
      checked passes q = out (passed f lent (reading_at r.cap r.mode) q) (settled_in r f lent (opened_of f)) refl
      checked (fails x) q = no-done x (reading-by (fails x) q)

-- ---- two successes

take-kept : (n : ℕ) (l z : List ℕ) → n ≤ length l → take n (take n l ++ z) ≡ take n l
take-kept n l z h = take_at (take n l) z n (length-take-le n l h)

-- what is kept is there
pub record KeptThere (u : Tables) : Type 0 where
  pub nodes : node_width * nodes_kept u ≤ length u.nodes
  pub attributes : attribute_width * attributes_kept u ≤ length u.attributes

-- what is kept of u' is what is kept of u
pub succeeds-same : (r r' : Room) (u u' : Tables) (ns : List ResAnomaly) → bare u' ≡ bare u → u'.notes ≡ map note_of ns → KeptThere u
    → succeeds r' u' ≡ with_notes r' (succeeds r u) (counts_of u) ns
succeeds-same r r' u u' ns e o s =
    let n : u'.nodes ≡ u.nodes = ap (λ (t : Tables). t.nodes) e in
    let a : u'.attributes ≡ u.attributes = ap (λ (t : Tables). t.attributes) e in
    let k : u'.stack ≡ u.stack = ap (λ (t : Tables). t.stack) e in
    rw (
      n,
      a,
      k,
      o,
      length-map ns note_of,
      take-kept (node_width * nodes_kept u) u.nodes (replicate (r.nodes - node_width * nodes_kept u) 0) s.nodes,
      take-kept (attribute_width * attributes_kept u) u.attributes (replicate (r.attributes - attribute_width * attributes_kept u) 0)
          s.attributes,
    )

-- what was kept of a reading, in a table of n words
abbrev pub kept_nodes : ℕ → Reading → ReadCounts → List ℕ
kept_nodes n x c = take (node_width * c.nodes) x.nodes ++ replicate (n - node_width * c.nodes) 0

abbrev pub kept_attributes : ℕ → Reading → ReadCounts → List ℕ
kept_attributes n x c = take (attribute_width * c.attributes) x.attributes ++ replicate (n - attribute_width * c.attributes) 0

-- in a table of the same length it is the whole table
pub again-nodes : (r : Room) (u : Tables) → KeptThere u → kept_nodes r.nodes (succeeds r u) (counts_of u) ≡ (succeeds r u).nodes
again-nodes r u s = rw (take-kept (node_width * nodes_kept u) u.nodes (replicate (r.nodes - node_width * nodes_kept u) 0) s.nodes)

pub again-attributes : (r : Room) (u : Tables) → KeptThere u
    → kept_attributes r.attributes (succeeds r u) (counts_of u) ≡ (succeeds r u).attributes
again-attributes r u s =
    rw (take-kept (attribute_width * attributes_kept u) u.attributes (replicate (r.attributes - attribute_width * attributes_kept u) 0)
    s.attributes)

-- ---- no note

pub get_d-zeros : (n k : ℕ) → ◌≡◌ {A = ℕ} (get_or (replicate n 0) k 0) 0
get_d-zeros zero k = refl
get_d-zeros (suc n) zero = refl
get_d-zeros (suc n) (suc k) = get_d-zeros n k

-- with a cap of at least 1, no note is kept only where none is made
pub none_kept : (cap : ℕ) → 1 ≤ cap → (ns : List ResAnomaly) → length (kept_notes cap ns) ≡ 0 → ns ≡ []
none_kept cap h [] e = refl
none_kept cap h (x ∷ ns) e =
    let due : is_due cap none (kind_index x) ≡ true = lt-ltb _ cap (omega (arith, get_d-zeros kinds (kind_index x))) in
    let e' = rw (kept_from-due cap none x ns due) at e in
    absurd (let z : ⊥ = omega (arith, e') in z)
