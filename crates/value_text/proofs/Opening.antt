-- Laws of `value_open` and of the promise of specs/Value.antt. No contract cites this file.
-- In order: the checks (`open-..`); what an open file tells (`opens-..`); the promise (`reads-..`).
use Rattle.std.specs.Prelude.{Result, Ok, Err}
use Prim.Native.Nat.{ℕ}
use native.Mathlib.Omega.{arith}
use mathlib.Core.Path.{◌≡◌, refl, sym, ap, ◌∙◌}
use mathlib.Core.List.{List, [], ◌∷◌, ◌++◌}
use lib.ListN.{length, replicate}
use Rattle.errors.specs.Refusal.{value_numbers_of}
use Rattle.errors.specs.declared.Refusal.{Refusal}
use Rattle.system_types.specs.Names.{Lent}
use Rattle.text.specs.declared.Head.{Head}
use Rattle.text.specs.Inner.Found.{Asks}
use Rattle.head.specs.Head.{opened_of, tables_in}
use Rattle.head.specs.declared.Asker.TheVariants.{Question}
use Rattle.head.specs.Entry.{question, value_with, Check, passes, fails, first_of, length_check, cap_check, names_check, mode_check, items_check_by, entry_checks}
use Rattle.head.specs.Ask.{open_by, open_of}
use Rattle.head.specs.Inner.Entered.{entered_of}
use Rattle.head.specs.declared.Opened.{Opened}
use Rattle.head.proofs.Entering.{entered-in, entered-out}
use Rattle.head.proofs.Questions.{open_of-asks}
use Rattle.items.specs.Items.{table_of}
use Rattle.value_text.specs.declared.Attribute.{Attribute}
use Rattle.value_text.specs.Value.{value_open, attribute_value, value_answer, value_buffer, ValueReads}
use Rattle.value_text.specs.Inner.Leads.{Gives, behind_items}
use Rattle.errors.specs.declared.ValueWritten.{ValueWritten}

-- ---- the checks

-- one check more, behind the others
or_check : Check → Check → Check
or_check passes d = d
or_check (fails r) d = fails r

first_of-one : (c : Check) → first_of (c ∷ []) ≡ c
first_of-one passes = refl
first_of-one (fails r) = refl

first_of-behind : (cs : List Check) (d : Check) → first_of (cs ++ (d ∷ [])) ≡ or_check (first_of (cs ++ (passes ∷ []))) d
unfolding or_check
first_of-behind [] d = first_of-one d
first_of-behind (passes ∷ cs) d = first_of-behind cs d
first_of-behind (fails r ∷ cs) d = refl

-- the items are the last check, and a question has the others
items-last : (f : List ℕ) (lent : Lent) (items area : List ℕ)
    → first_of (entry_checks f lent (value_with items area)) ≡ or_check (first_of (entry_checks f lent question)) (items_check_by (table_of area items))
items-last f lent items area =
    first_of-behind (length_check f ∷ cap_check Question ∷ names_check lent ∷ mode_check Question ∷ []) (items_check_by (table_of area items))

module _ (f : List ℕ) (lent : Lent) (items area : List ℕ) where
  pub open-out : {why : Refusal} → entered_of f lent question ≡ Err why → Err why ≡ value_open f lent items area
  unfolding value_open or_check
  open-out e = rw (items-last f lent items area, entered-out f lent question e)

  open_by_lem : (r : Result (Unit {0}) ℕ) → behind_items (opened_of f) r ≡ open_by (opened_of f) (items_check_by r)
  open_by_lem (Ok tt) = refl
  open_by_lem (Err k) = refl

  pub open_in :
      {o : Opened} {r : Result (Unit {0}) ℕ} {x : Result Head Refusal} →
      entered_of f lent question ≡ Ok o →
      r ≡ table_of area items →
      x ≡ behind_items o r →
      x ≡ value_open f lent items area
  unfolding value_open or_check
  open_in {o} {r} {x} e q s =
      let p = entered-in f lent question e in
      rw (items-last f lent items area, p.0, ← q)
      (s ∙ rw p.1 (open_by_lem r))

-- ---- what an open file tells

pub record Opens (f : List ℕ) (lent : Lent) (items area : List ℕ) (h : Head) : Type 0 where
  pub asks : Asks (tables_in f h) lent h
  pub good : table_of area items ≡ (Ok tt)

module _ (f : List ℕ) (lent : Lent) (items area : List ℕ) {h : Head} (open' : value_open f lent items area ≡ Ok h) where
  pub opens : Opens f lent items area h
  unfolding value_open or_check open_of
  opens =
      go (first_of (entry_checks f lent question)) refl (table_of area items) refl
      (sym (ap (open_by (opened_of f)) (items-last f lent items area)) ∙ open')
    where
      go :
          (c : Check) →
          first_of (entry_checks f lent question) ≡ c →
          (r : Result (Unit {0}) ℕ) →
          table_of area items ≡ r →
          open_by (opened_of f) (or_check (first_of (entry_checks f lent question)) (items_check_by (table_of area items))) ≡ Ok h →
          Opens f lent items area h
      go (fails why) p r q e =
          let e' = rw p at e in
          let z : ◌≡◌ {A = ℕ} 0 1 = cc in
          absurd (let y : ⊥ = omega arith in y)
      go passes p (Err k) q e =
          let e' = rw (p, q) at e in
          let z : ◌≡◌ {A = ℕ} 0 1 = cc in
          absurd (let y : ⊥ = omega arith in y)
      go passes p (Ok tt) q e =
          let e' = rw (p, q) at e in
          let o : open_of f lent ≡ Ok h = rw p e' in
          record { asks = open_of-asks f lent o; good = q }

-- ---- the promise

module _ (f : List ℕ) (lent : Lent) (items area before after : List ℕ) (a : Attribute) {r : Result ValueWritten Refusal} where
  pub reads-open :
      {h : Head} {t : List ℕ} →
      value_open f lent items area ≡ Ok h →
      t ≡ tables_in f h →
      Gives (length before) a.kind (attribute_value h t lent items area a) r after →
      ValueReads f lent items area before a r after
  unfolding value_answer value_buffer
  reads-open e q g = let g' = rw q at g in record { answer = rw e (ap value_numbers_of g'.same); out = rw e g'.out }

  pub reads-closed :
      {why : Refusal} →
      value_open f lent items area ≡ Err why →
      (r ≡ Err why) × (after ≡ replicate (length before) 0) →
      ValueReads f lent items area before a r after
  unfolding value_answer value_buffer
  reads-closed e g = record { answer = rw e (ap value_numbers_of g.0); out = rw e g.1 }
