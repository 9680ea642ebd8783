-- Foreign chunks put into a file whose only notes are of kind 32: docs/FORMAT.md, B13, P3. No contract cites this file.
--
--   besides-kept        what a cap keeps of the other kinds is what it keeps of them alone
--   only-damage         where only notes 32 are kept, only such are made
--   nothing-dropped     all starts of such a file are kept
--   insertion-damaged   THE THEOREM: the tree stays
--   insertion-damaged-others, insertion-damaged-kept, insertion-damaged-same   its other notes are those of the chunks, and its own are there
use Rattle.std.specs.Prelude.{Ok}
use Prim.Native.Nat.{ℕ, ◌+◌, ◌≤◌, ◌<◌}
use native.Mathlib.Omega.{arith}
use mathlib.Core.Path.{◌≡◌, refl, sym, ◌∙◌, ap}
use mathlib.Core.List.{List, [], ◌∷◌, map, cons≢nil}
use mathlib.Core.Bool.{Bool, true, false, cond}
use borrow.Author.Tests.{eqb-true, eqb-false, eq-eqb}
use lib.ListN.{length, take, get_or, length-take}
use lib.Dec.{eqb}
use Rattle.anomaly.specs.Note.{kinds, kind_index, note_of}
use Rattle.anomaly.specs.Kept.{is_due, counted, none, kept_from, kept_notes, of_kind}
use Rattle.anomaly.specs.declared.ResAnomaly.{ResAnomaly}
use Rattle.anomaly.specs.declared.ResAnomaly.TheVariants.{DamagedElementName}
use Rattle.anomaly.proofs.Laws.{kind_index-lt, kept_from-due, kept_from-past, kept_notes-of-kind, counted-length, counted_same, counted-other}
use Rattle.anomaly.proofs.Numbers.{kind-place}
use Rattle.errors.specs.declared.ReadCounts.{ReadCounts}
use Rattle.records.specs.Limits.{file_limit}
use Rattle.system_types.specs.Names.{Lent}
use Rattle.head.specs.declared.HeadEnd.TheVariants.{Whole}
use Rattle.head.specs.Head.{opened_of, tables_in, body_in}
use Rattle.xml_elements.specs.Chunk.{index}
use Rattle.events.specs.declared.Event.{Event}
use Rattle.events.specs.Events.{Names, file_events}
use Rattle.walk.specs.Settle.{Room}
use Rattle.walk.specs.Reading.{reading}
use Rattle.claims.specs.Insertion.{ForeignChunk, places_in, inserted, inserted_file, place_notes, with_notes}
use Rattle.claims.specs.Room.{HasRoom}
use Rattle.claims.specs.Counts.{event_notes}
use Rattle.claims.specs.Damaged.{damage_place, besides, OnlyDamage}
use Rattle.claims.specs.Readers.{names_for, events_of}
use Rattle.claims.specs.Shape.{count_of_kind as of_number}
use Rattle.claims.proofs.Events.NotesAndOthers.{others_in, nil-right}
use Rattle.claims.proofs.Insertion.InsertedFile.{longer-others, longer-notes}
use Rattle.claims.proofs.Insertion.SameTree as both
use Rattle.claims.proofs.Settle.Success.{success}
use Rattle.claims.proofs.Events.KeptNotes.{number_of}
use Rattle.claims.proofs.Damaged.WithoutDamage.{without_damage, DamageApart, file-apart, damages_of, damages-others}

-- ---- the other kinds are counted apart

module _ (cap k : ℕ) where
  -- two counts that agree but for the kind k
  record Agree (a b : List ℕ) : Type 0 where
    first : length a ≡ kinds
    second : length b ≡ kinds
    same : (j : ℕ) → (j ≡ k → ⊥) → get_or a j 0 ≡ get_or b j 0

  -- one more of the kind k in the first alone
  agree_left : (a b : List ℕ) (i : ℕ) → i ≡ k → Agree a b → Agree (counted a i) b
  agree_left a b i e h = record {
    first = counted-length a i h.first;
    second = h.second;
    same = λ j n. counted-other a i j (λ q. n (sym q ∙ e)) ∙ h.same j n;
  }

  -- one more of another kind in both
  agree-both : (a b : List ℕ) (i : ℕ) → i < kinds → Agree a b → Agree (counted a i) (counted b i)
  agree-both a b i l h = record {
    first = counted-length a i h.first;
    second = counted-length b i h.second;
    same = λ j n. go j n (eqb i j) refl;
  }
    where
      go : (j : ℕ) → (j ≡ k → ⊥) → (t : Bool) → eqb i j ≡ t → get_or (counted a i) j 0 ≡ get_or (counted b i) j 0
      go j n true e =
          let q = eqb-true i j e in
          counted_same a i j h.first l q ∙ ap (λ (m : ℕ). m + 1) (h.same j n) ∙ sym (counted_same b i j h.second l q)
      go j n false e =
          let q = eqb-false i j e in
          counted-other a i j q ∙ h.same j n ∙ sym (counted-other b i j q)

  besides-same : (x : ResAnomaly) (l : List ResAnomaly) → eqb (kind_index x) k ≡ true → besides k (x ∷ l) ≡ besides k l
  besides-same x l e = rw e

  besides-other : (x : ResAnomaly) (l : List ResAnomaly) → eqb (kind_index x) k ≡ false → besides k (x ∷ l) ≡ x ∷ besides k l
  besides-other x l e = rw e

  module _ (x : ResAnomaly) (l : List ResAnomaly) (rec : (a b : List ℕ) → Agree a b → besides k (kept_from cap a l) ≡ kept_from cap b (besides k l))
      (a b : List ℕ) (h : Agree a b) where
    step : (same due : Bool) → eqb (kind_index x) k ≡ same → is_due cap a (kind_index x) ≡ due
        → besides k (kept_from cap a (x ∷ l)) ≡ kept_from cap b (besides k (x ∷ l))
    step true true e d =
        ap (besides k) (kept_from-due cap a x l d) ∙ besides-same x (kept_from cap (counted a (kind_index x)) l) e
        ∙ rec (counted a (kind_index x)) b (agree_left a b (kind_index x) (eqb-true (kind_index x) k e) h) ∙ sym (ap (kept_from cap b) (besides-same x l e))
    step true false e d = ap (besides k) (kept_from-past cap a x l d) ∙ rec a b h ∙ sym (ap (kept_from cap b) (besides-same x l e))
    step false true e d =
        let n = eqb-false (kind_index x) k e in
        let d' : is_due cap b (kind_index x) ≡ true = rw (← h.same (kind_index x) n) d in
        ap (besides k) (kept_from-due cap a x l d) ∙ besides-other x (kept_from cap (counted a (kind_index x)) l) e
        ∙ ap (λ (m : List ResAnomaly). x ∷ m) (rec (counted a (kind_index x)) (counted b (kind_index x)) (agree-both a b (kind_index x) (kind_index-lt x) h))
        ∙ sym (ap (kept_from cap b) (besides-other x l e) ∙ kept_from-due cap b x (besides k l) d')
    step false false e d =
        let n = eqb-false (kind_index x) k e in
        let d' : is_due cap b (kind_index x) ≡ false = rw (← h.same (kind_index x) n) d in
        ap (besides k) (kept_from-past cap a x l d) ∙ rec a b h
        ∙ sym (ap (kept_from cap b) (besides-other x l e) ∙ kept_from-past cap b x (besides k l) d')

  besides-from : (l : List ResAnomaly) (a b : List ℕ) → Agree a b → besides k (kept_from cap a l) ≡ kept_from cap b (besides k l)
  unfolding kept_from
  besides-from [] a b h = refl
  besides-from (x ∷ l) a b h = step x l (besides-from l) a b h (eqb (kind_index x) k) (is_due cap a (kind_index x)) refl refl

  -- what is kept of the other kinds is what is kept of them alone
  pub besides-kept : (l : List ResAnomaly) → besides k (kept_notes cap l) ≡ kept_notes cap (besides k l)
  besides-kept l = besides-from l none none (record { first = refl; second = refl; same = λ j n. refl })

kept-nil : (cap : ℕ) → kept_notes cap [] ≡ []
unfolding kept_from
kept-nil cap = refl

-- ---- no other kind

-- where no other kind has an anomaly
none-besides : (k : ℕ) (l : List ResAnomaly) → ((x : ResAnomaly) → (kind_index x ≡ k → ⊥) → of_kind (kind_index x) l ≡ []) → besides k l ≡ []
unfolding of_kind
none-besides k [] h = refl
none-besides k (y ∷ l) h = go (eqb (kind_index y) k) refl (none-besides k l)
  where
    rest : (x : ResAnomaly) → (kind_index x ≡ k → ⊥) → of_kind (kind_index x) l ≡ []
    rest x n = nil-right (cond (eqb (kind_index y) (kind_index x)) (y ∷ []) []) (of_kind (kind_index x) l) (h x n)

    go : (b : Bool) → eqb (kind_index y) k ≡ b
        → (((x : ResAnomaly) → (kind_index x ≡ k → ⊥) → of_kind (kind_index x) l ≡ []) → besides k l ≡ []) → besides k (y ∷ l) ≡ []
    go true e rec = besides-same 0 k y l e ∙ rec rest
    go false e rec =
        let q : y ∷ of_kind (kind_index y) l ≡ [] = rw (eq-eqb (kind_index y) (kind_index y) refl) at (h y (eqb-false (kind_index y) k e)) in
        absurd (cons≢nil q)

-- of the kind with the place k alone
all-of-kind : (k : ℕ) (l : List ResAnomaly) → besides k l ≡ [] → of_kind k l ≡ l
unfolding of_kind
all-of-kind k [] e = refl
all-of-kind k (y ∷ l) e = go (eqb (kind_index y) k) refl (all-of-kind k l)
  where
    go : (b : Bool) → eqb (kind_index y) k ≡ b → (besides k l ≡ [] → of_kind k l ≡ l) → of_kind k (y ∷ l) ≡ y ∷ l
    go true q rec = rw q (ap (λ (m : List ResAnomaly). y ∷ m) (rec (sym (besides-same 0 k y l q) ∙ e)))
    go false q rec = absurd (cons≢nil (sym (besides-other 0 k y l q) ∙ e))

-- the number 32 is that of the place 13
damage-number : (x : ResAnomaly) → (kind_index x ≡ damage_place → ⊥) → (note_of x).kind ≡ 32 → ⊥
unfolding note_of kind_index
damage-number x n e = n (eqb-true (kind_index x) damage_place (sym (kind-place x (DamagedElementName (index 0) 1)) ∙ eq-eqb (note_of x).kind 32 e))

empty_of : {A : Type 0} (l : List A) → length l ≡ 0 → l ≡ []
empty_of [] e = refl
empty_of (x ∷ l) e = absurd (let z : ⊥ = omega arith in z)

-- with a cap of at least 1, a kind of which no note is kept has none
only-damage : (cap : ℕ) → 1 ≤ cap → (l : List ResAnomaly) → OnlyDamage (map note_of (kept_notes cap l)) → besides damage_place l ≡ []
only-damage cap h l only = none-besides damage_place l go
  where
    go : (x : ResAnomaly) → (kind_index x ≡ damage_place → ⊥) → of_kind (kind_index x) l ≡ []
    go x n =
        let few = number_of x (kept_notes cap l) in
        let zero' = only (note_of x).kind (damage-number x n) in
        let first = ap length (kept_notes-of-kind cap (kind_index x) l) ∙ length-take cap (of_kind (kind_index x) l) in
        empty_of (of_kind (kind_index x) l) (omega (arith, h, few, zero', first))

-- ---- foreign chunks put into such a file

module _ (r : Room) (f : List ℕ) (lent : Lent) (c : ReadCounts) (done : (reading r f lent).answer ≡ Ok c)
    (only : OnlyDamage (take c.notes (reading r f lent).notes)) where
  abbrev N : Names
  N = names_for r.mode f lent

  abbrev t : List ℕ
  t = tables_in f (opened_of f).head

  abbrev l : List ℕ
  l = body_in f (opened_of f).head

  abbrev es : List Event
  es = events_of r.mode f lent

  said : DamageApart N es (file_events (without_damage N) (opened_of f) t l)
  said = file-apart N (opened_of f) t l

  noted : take c.notes (reading r f lent).notes ≡ map note_of (kept_notes r.cap (event_notes es))
  noted = both.noted r f lent c done

  no_other : besides damage_place (event_notes es) ≡ []
  no_other = only-damage r.cap (success r f lent c done).cap (event_notes es) (λ k n. ap (of_number k) (sym noted) ∙ only k n)

  -- so without damage it makes no note
  no-notes : event_notes (file_events (without_damage N) (opened_of f) t l) ≡ []
  no-notes = sym said.notes ∙ no_other

  head-whole : (opened_of f).end ≡ Whole
  head-whole = both.head-whole r f lent c done

  pub nothing-dropped : c.nodes ≡ c.starts
  nothing-dropped = both.all-kept r f lent c done (only 12 (λ e. omega arith))

  module _ (places : List (List ForeignChunk)) (few : length places ≤ places_in f) (limit : length (inserted_file places f) ≤ file_limit) (r' : Room)
      (one : 1 ≤ r'.cap) (alike : r'.mode ≡ r.mode) where
    abbrev es' : List Event
    es' = file_events N (opened_of f) t (inserted places l)

    said' : DamageApart N es' (file_events (without_damage N) (opened_of f) t (inserted places l))
    said' = file-apart N (opened_of f) t (inserted places l)

    abbrev ns : List ResAnomaly
    ns = kept_notes r'.cap (event_notes (events_of r.mode (inserted_file places f) lent))

    longer-is : events_of r.mode (inserted_file places f) lent ≡ es'
    longer-is = both.events-longer r f lent c done places limit r' one alike

    others : others_in es' ≡ others_in es
    others = said'.others ∙ longer-others (without_damage N) (opened_of f) t head-whole l no-notes places few ∙ sym said.others

    -- THE THEOREM: the tree stays
    pub insertion-damaged : HasRoom (reading r' (inserted_file places f) lent).answer
        → reading r' (inserted_file places f) lent ≡ with_notes r' (reading r f lent) c ns
    insertion-damaged room =
        both.same-tree r f lent c done places limit r' one alike others room
        ∙ ap (λ (m : List Event). with_notes r' (reading r f lent) c (kept_notes r'.cap (event_notes m))) (sym longer-is)

    -- all other notes are those of the chunks
    pub insertion-damaged-others : besides damage_place ns ≡ kept_notes r'.cap (place_notes places)
    insertion-damaged-others =
        besides-kept r'.cap damage_place (event_notes (events_of r.mode (inserted_file places f) lent))
        ∙ ap (λ (m : List Event). kept_notes r'.cap (besides damage_place (event_notes m))) longer-is
        ∙ ap (kept_notes r'.cap) (said'.notes ∙ longer-notes (without_damage N) (opened_of f) t head-whole l no-notes places few)

    -- and the file's own are there, the first as many as the cap says
    pub insertion-damaged-kept : of_kind damage_place ns ≡ take r'.cap (event_notes (events_of r.mode f lent))
    insertion-damaged-kept =
        kept_notes-of-kind r'.cap damage_place (event_notes (events_of r.mode (inserted_file places f) lent))
        ∙ ap (λ (m : List Event). take r'.cap (of_kind damage_place (event_notes m))) longer-is
        ∙ ap (take r'.cap)
        (said'.damages ∙ damages-others N es' ∙ ap (damages_of N) others ∙ sym (damages-others N es) ∙ sym said.damages
        ∙ all-of-kind damage_place (event_notes es) no_other)

    -- with the same cap they are the notes of the first reading, word for word
    pub insertion-damaged-same : r'.cap ≡ r.cap → map note_of (of_kind damage_place ns) ≡ take c.notes (reading r f lent).notes
    insertion-damaged-same e =
        ap (map note_of)
        (insertion-damaged-kept ∙ ap (λ (n : ℕ). take n (event_notes es)) e ∙ ap (take r.cap) (sym (all-of-kind damage_place (event_notes es) no_other))
        ∙ sym (kept_notes-of-kind r.cap damage_place (event_notes es))
        ∙ all-of-kind damage_place (kept_notes r.cap (event_notes es))
        (besides-kept r.cap damage_place (event_notes es) ∙ ap (kept_notes r.cap) no_other ∙ kept-nil r.cap))
        ∙ sym noted
