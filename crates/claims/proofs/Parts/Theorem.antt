-- A part of the head that is short: docs/FORMAT.md, H15, P6. No contract cites this file.
--
--   PartOf                                a refusal of a part of the head
--   reading-part, open-part, text-part    such a refusal of a reading or a question is the head's
--   part-offset                           its value is a place in the file
--   part_cut, part-cut-text               the file cut there is read and asked with the same answer
use Rattle.std.specs.Prelude.{Result, Ok, Err}
use Prim.Native.Nat.{ℕ, ◌+◌, ◌≤◌}
use native.Mathlib.Omega.{arith}
use mathlib.Core.Path.{◌≡◌, refl, sym, ◌∙◌, ap, subst}
use mathlib.Core.List.{List, [], ◌++◌}
use mathlib.Core.Bool.{Bool, true, false, cond}
use lib.ListN.{length, take, drop, take-append-drop}
use lib.Seq.{length-take-le}
use lib.Dec.{leb}
use Rattle.errors.specs.Refusal.{refusal_number, refusal_value}
use Rattle.errors.specs.declared.Refusal.{Refusal}
use Rattle.errors.specs.declared.Refusal.TheVariants.{NothingFound, TextShort}
use Rattle.errors.specs.declared.TextState.{TextState}
use Rattle.records.specs.Repeats.{Rule}
use Rattle.system_types.specs.Names.{Lent}
use Rattle.text.specs.Content.{Content, none, cut, some, text_in, damage_in}
use Rattle.head.specs.declared.HeadEnd.{HeadEnd}
use Rattle.head.specs.declared.HeadEnd.TheVariants.{Whole, TooSmall, HeaderSize, PoolShort, MapShort}
use Rattle.head.specs.declared.Opened.{Opened}
use Rattle.head.specs.Head.{opened_of, tables_in, body_in, head_len, head_is_whole, refusal_of, garbage_notes, count_notes}
use Rattle.head.specs.declared.Asker.{Asker}
use Rattle.head.specs.declared.Asker.TheVariants as askers
use Rattle.head.specs.Inner.Entered.{terms_of}
use Rattle.head.specs.Entry.{Check, passes, fails, first_of, entry_checks}
use Rattle.head.specs.Ask.{open_by, open_of, state_told, fitted, text_by, content_asked, text_answer_by, text_answer}
use Rattle.head.proofs.Entering.{Passed, passed, passes-all}
use Rattle.head.proofs.Laws.{tables_in-append}
use Rattle.head.proofs.Shorts.{ShortBy, OpenedCut, opened-cut}
use Rattle.xml_elements.proofs.Laws.{cond-by}
use Rattle.events.specs.declared.Event.{Event}
use Rattle.events.specs.Events.{Names, names_in, notes_of, after_pool, file_events}
use Rattle.walk.specs.Settle.{Room, Out, going, refused, settle, nothing_yet}
use Rattle.walk.specs.Reading.{reading, reading_by, final_of, settled_in}
use Rattle.claims.specs.Parts.{is_part}
use Rattle.claims.proofs.Settle.ByEvent.{InOut, Goes, Stops, settle-by}
use Rattle.claims.proofs.Events.Refusals.{AllRefuse, file-refuses}
use Rattle.claims.proofs.Settle.EntryChecks.{Under, entry-under}
use Rattle.errors.specs.declared.ReadCounts.{ReadCounts}
use Rattle.errors.specs.declared.TextWritten.{TextWritten}
use Rattle.text.specs.declared.Head.{Head}

no_part : {b : Bool} → b ≡ true → b ≡ false → ⊥
no_part p q = let e = sym p ∙ q in let z : ◌≡◌ {A = ℕ} 0 1 = cc in omega arith

-- ---- a refusal of a part is the head's

-- if it is of a part, the head says so
abbrev OfHead : Opened → Refusal → Type 0
OfHead o x = is_part x ≡ true → ShortBy o.end x

module _ (o : Opened) where
  head-says : (e : HeadEnd) → o.end ≡ e → OfHead o (refusal_of e)
  unfolding refusal_number
  head-says Whole q p = absurd (no_part p refl)
  head-says (TooSmall n) q p = absurd (no_part p refl)
  head-says (HeaderSize n) q p = absurd (no_part p refl)
  head-says (PoolShort e) q p = rw q refl
  head-says (MapShort e) q p = rw q refl

  -- settling adds only refusals for want of a place
  goes : (r : Room) → Goes r (λ es t. AllRefuse (OfHead o) es)
  goes r = record {
    idles = λ t e es i h. h.1;
    closes = λ t es h. h.1;
    opens = λ t es n f l g h. h.1;
    keeps = λ t es p a some g h. h.1;
    notes = λ t es x d g h. h.1;
    past = λ t es x d h. h.1;
  }

  stops : (r : Room) → Stops r (λ es t. AllRefuse (OfHead o) es) (OfHead o)
  unfolding refusal_number
  stops r = record {
    refuses = λ t es x h. h.0;
    nodes = λ t es n f l g h p. absurd (no_part p refl);
    attributes = λ t es q a g h p. absurd (no_part p refl);
    notes = λ t es x d g h p. absurd (no_part p refl);
  }

  root-says : OfHead o (refusal_of Whole)
  unfolding refusal_number
  root-says p = absurd (no_part p refl)

  settled_says : (r : Room) (rule : Rule) (N : Names) (t b : List ℕ) → InOut (λ u. Unit {0}) (OfHead o) (settle rule r nothing_yet (file_events N o t b))
  settled_says r rule N t b =
      weaker (settle rule r nothing_yet (file_events N o t b))
      (settle-by rule r (λ es u. AllRefuse (OfHead o) es) (OfHead o) (goes r) (stops r) nothing_yet (file_events N o t b)
      (file-refuses (OfHead o) N root-says o t b head-says))
    where
      weaker : (x : Out) → InOut (λ u. AllRefuse (OfHead o) []) (OfHead o) x → InOut (λ u. Unit {0}) (OfHead o) x
      weaker (going u) h = tt
      weaker (refused x) h = h

-- the entry checks refuse for no part
entry-not : (f : List ℕ) (lent : Lent) (a : Asker) → Under (λ x. is_part x ≡ false) (first_of (entry_checks f lent (terms_of a)))
unfolding refusal_number
entry-not f lent a = entry-under (λ x. is_part x ≡ false) f lent a refl refl (λ k. refl) refl

abbrev IsRefused : Refusal → Result ReadCounts Refusal → Type 0
IsRefused x (Ok c) = ⊥
IsRefused x (Err y) = y ≡ x

-- what refuses for a part passed the checks, and its head is short by it
pub record PartOf (f : List ℕ) (lent : Lent) (a : Asker) (x : Refusal) : Type 0 where
  pub passes : first_of (entry_checks f lent (terms_of a)) ≡ passes
  pub short : ShortBy (opened_of f).end x

module _ (f : List ℕ) (lent : Lent) (x : Refusal) (part : is_part x ≡ true) where
  no-check : (a : Asker) {y : Refusal} → first_of (entry_checks f lent (terms_of a)) ≡ fails y → y ≡ x → ⊥
  no-check a {y} p e = no_part (rw e part) (rw p at (entry-not f lent a))

  pub reading-part : (r : Room) → (reading r f lent).answer ≡ Err x → PartOf f lent (askers.Reading r.cap r.mode) x
  unfolding reading
  reading-part r h = go (first_of (entry_checks f lent (terms_of (askers.Reading r.cap r.mode)))) refl (subst (IsRefused x) (sym h) refl)
    where
      o : Opened
      o = opened_of f

      t : List ℕ
      t = tables_in f o.head

      N : Names
      N = names_in r.mode o.head t lent

      said : InOut (λ u. Unit {0}) (OfHead o) (settled_in r f lent o)
      said = settled_says o r N.repeats N t (body_in f o.head)

      settled : (z : Out) → InOut (λ u. Unit {0}) (OfHead o) z → IsRefused x (final_of r z).answer → ShortBy o.end x
      settled (going u) s q = absurd q
      settled (refused y) s q = rw q at s part

      go : (c : Check) → first_of (entry_checks f lent (terms_of (askers.Reading r.cap r.mode))) ≡ c
          → IsRefused x (reading_by r (settled_in r f lent o) c).answer → PartOf f lent (askers.Reading r.cap r.mode) x
      go (fails y) p q = absurd (no-check (askers.Reading r.cap r.mode) p q)
      go passes p q = record { passes = p; short = settled (settled_in r f lent o) said q }

  pub open-part : open_of f lent ≡ Err x → PartOf f lent askers.Question x
  unfolding open_of
  open-part h = go (first_of (entry_checks f lent (terms_of askers.Question))) refl h
    where
      -- a head that is not whole closes the file by its refusal
      head : (e : HeadEnd) → (opened_of f).end ≡ e → cond (head_is_whole e) (Ok (opened_of f).head) (Err (refusal_of e)) ≡ Err x → ShortBy (opened_of f).end x
      head Whole q z = let y : ◌≡◌ {A = ℕ} 0 1 = cc in absurd (let w : ⊥ = omega arith in w)
      head (TooSmall n) q z = let y : refusal_of (TooSmall n) ≡ x = cc in rw y at (head-says (opened_of f) (TooSmall n) q) part
      head (HeaderSize n) q z = let y : refusal_of (HeaderSize n) ≡ x = cc in rw y at (head-says (opened_of f) (HeaderSize n) q) part
      head (PoolShort e) q z = let y : refusal_of (PoolShort e) ≡ x = cc in rw y at (head-says (opened_of f) (PoolShort e) q) part
      head (MapShort e) q z = let y : refusal_of (MapShort e) ≡ x = cc in rw y at (head-says (opened_of f) (MapShort e) q) part

      go : (c : Check) → first_of (entry_checks f lent (terms_of askers.Question)) ≡ c → open_by (opened_of f) c ≡ Err x → PartOf f lent askers.Question x
      go (fails y) p q = let e : y ≡ x = cc in absurd (no-check askers.Question p e)
      go passes p q = record { passes = p; short = head (opened_of f).end refl q }

  -- a text that is there is refused for no part
  fitted-not : (n : ℕ) (s : List ℕ) (t : TextState) → fitted n s t ≡ Err x → ⊥
  unfolding refusal_number
  fitted-not n s t h =
      cond-by (λ (a : Result TextWritten Refusal). a ≡ Err x → ⊥) (leb (length s) n)
      (λ e q. let z : ◌≡◌ {A = ℕ} 0 1 = cc in omega arith)
      (λ e q. let y : x ≡ TextShort (length s) = cc in no_part part (rw y)) h

  text-not : (n : ℕ) (k : Content) → text_by n k ≡ Err x → ⊥
  unfolding refusal_number
  text-not n none h = let y : x ≡ NothingFound = cc in no_part part (rw y)
  text-not n cut h = fitted-not n (text_in cut) (state_told (damage_in cut)) h
  text-not n (some w s) h = fitted-not n (text_in (some w s)) (state_told (damage_in (some w s))) h

  pub text-part : (n i : ℕ) → text_answer f lent n i ≡ Err x → open_of f lent ≡ Err x
  unfolding text_answer
  text-part n i h = go (open_of f lent) refl h
    where
      go : (o : Result Head Refusal) → open_of f lent ≡ o → text_answer_by n (content_asked f lent i) o ≡ Err x → open_of f lent ≡ Err x
      go (Ok d) p q = absurd (text-not n (content_asked f lent i) q)
      go (Err y) p q = let e : y ≡ x = cc in p ∙ ap Err e

-- ---- the file cut where the part should begin

-- behind a head that is short, the body plays no part
short-body : (N : Names) (o : Opened) (t b b' : List ℕ) (x : Refusal) → ShortBy o.end x → file_events N o t b ≡ file_events N o t b'
unfolding file_events
short-body N o t b b' x s = go o.end s
  where
    go : (e : HeadEnd) → ShortBy e x → ◌≡◌ {A = List Event} (notes_of (garbage_notes o) ++ (notes_of (count_notes o) ++ after_pool N o t b e))
        (notes_of (garbage_notes o) ++ (notes_of (count_notes o) ++ after_pool N o t b' e))
    go Whole s = absurd s
    go (TooSmall n) s = absurd s
    go (HeaderSize n) s = absurd s
    go (PoolShort e) s = refl
    go (MapShort e) s = refl

module _ (f : List ℕ) (lent : Lent) (a : Asker) (x : Refusal) (p : PartOf f lent a x) where
  told : Passed f lent (terms_of a)
  told = passed f lent (terms_of a) p.passes

  here : OpenedCut f (refusal_value x)
  here = opened-cut f x p.short

  pub part-offset : (8 ≤ refusal_value x) × (refusal_value x ≤ length f)
  part-offset = (omega (arith, here.low), here.high)

  abbrev c : List ℕ
  c = take (refusal_value x) f

  still : first_of (entry_checks c lent (terms_of a)) ≡ passes
  still =
      passes-all c lent (terms_of a) (omega (arith, length-take-le (refusal_value x) f here.high, here.high, told.short)) told.cap told.good told.mode refl

  tables-same : tables_in c (opened_of f).head ≡ tables_in f (opened_of f).head
  tables-same =
      let long : 8 + head_len (opened_of f).head ≤ length c = omega (arith, length-take-le (refusal_value x) f here.high, here.low) in
      sym (tables_in-append c (drop (refusal_value x) f) (opened_of f).head long) ∙ ap (λ (l : List ℕ). tables_in l (opened_of f).head) (take-append-drop (refusal_value x) f)

pub part_cut : (f : List ℕ) (lent : Lent) (x : Refusal) (r : Room) → PartOf f lent (askers.Reading r.cap r.mode) x
    → reading r (take (refusal_value x) f) lent ≡ reading r f lent
unfolding reading
part_cut f lent x r p =
    let a = askers.Reading r.cap r.mode in
    let o = opened_of f in
    let t = tables_in f o.head in
    let N = names_in r.mode o.head t lent in
    let events = short-body N o t (body_in (take (refusal_value x) f) o.head) (body_in f o.head) x p.short in
    rw (still f lent a x p, p.passes, (here f lent a x p).same, tables-same f lent a x p, events)

module _ (f : List ℕ) (lent : Lent) (x : Refusal) (p : PartOf f lent askers.Question x) where
  part-cut-open : open_of (take (refusal_value x) f) lent ≡ open_of f lent
  unfolding open_of
  part-cut-open = rw (still f lent askers.Question x p, p.passes, (here f lent askers.Question x p).same)

  pub part-cut-text : (n i : ℕ) → open_of f lent ≡ Err x → text_answer (take (refusal_value x) f) lent n i ≡ Err x
  unfolding text_answer
  part-cut-text n i h = let e : open_of (take (refusal_value x) f) lent ≡ Err x = part-cut-open ∙ h in rw e
