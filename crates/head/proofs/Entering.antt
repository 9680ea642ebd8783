-- Laws of specs/Entry.antt, for every entry point. No contract cites this file.
-- In order: one check (`lengthCheck-..`, `cap-..`, `mode-..`), what all of them say (`passed`, `passes-all`), and what `enter` gives (`entered-..`).
use Rattle.std.specs.Prelude.{Result, Ok, Err}
use Prim.Native.Nat.{ℕ, zero, suc, ◌≤◌, ◌<◌}
use native.Mathlib.Omega.{arith}
use mathlib.Core.Path.{◌≡◌, refl, sym, ap, ◌∙◌}
use mathlib.Core.List.{List, [], ◌∷◌}
use mathlib.Core.Bool.{Bool, true, false, cond}
use borrow.Author.Tests.{ltb-false, lt-ltb, le-ltb, ne_eqb}
use lib.ListN.{length}
use lib.Dec.{ltb}
use Rattle.records.specs.Limits.{file_limit}
use Rattle.errors.specs.declared.Refusal.{Refusal}
use Rattle.errors.specs.declared.Refusal.TheVariants.{TooLargeError, SystemNamesError, NotesOff, ModeError}
use Rattle.system_types.specs.Names.{Lent, names_of}
use Rattle.head.specs.Head.{opened_of}
use Rattle.head.specs.Entry.{Terms, Check, passes, fails, first_of, entry_checks}
use Rattle.head.specs.Entry.{length_check, keeps_none, cap_check, names_check_by, names_check, mode_of, is_mode, mode_check, items_check}
use Rattle.head.specs.Inner.Entered.{entered_by, entered_of}
use Rattle.head.specs.declared.Asker.TheVariants.{Reading}
use Rattle.head.specs.declared.Opened.{Opened}

passes-not : {r : Refusal} → fails r ≡ passes → ⊥
passes-not e = let z : ◌≡◌ {A = ℕ} 0 1 = cc in omega arith

-- ---- one check

pub length_check-long : (f : List ℕ) → file_limit < length f → length_check f ≡ fails TooLargeError
unfolding length_check
length_check-long f h = rw (lt-ltb file_limit (length f) h)

pub length_check-short : (f : List ℕ) → length f ≤ file_limit → length_check f ≡ passes
unfolding length_check
length_check-short f h = rw (le-ltb file_limit (length f) h)

short : (f : List ℕ) → length_check f ≡ passes → length f ≤ file_limit
unfolding length_check
short f e = go (ltb file_limit (length f)) refl e
  where
    go : (b : Bool) → ltb file_limit (length f) ≡ b → cond b (fails TooLargeError) passes ≡ passes → length f ≤ file_limit
    go true p q = absurd (passes-not q)
    go false p q = ltb-false file_limit (length f) p

-- a cap of at least 1 passes, and no other
pub cap-passes : (cap mode : ℕ) → 1 ≤ cap → cap_check (Reading cap mode) ≡ passes
cap-passes cap mode h = rw (ne_eqb cap 0 (λ e. omega (arith, h)))

pub cap-some : (cap mode : ℕ) → cap_check (Reading cap mode) ≡ passes → 1 ≤ cap
cap-some zero mode e = absurd (passes-not e)
cap-some (suc n) mode e = omega arith

-- a mode that is one passes, and no other
pub mode-passes : (cap mode : ℕ) → is_mode mode ≡ true → mode_check (Reading cap mode) ≡ passes
mode-passes cap mode e = rw e

pub mode-known : (cap mode : ℕ) → mode_check (Reading cap mode) ≡ passes → is_mode mode ≡ true
mode-known cap mode e = go (is_mode mode) refl e
  where
    go : (b : Bool) → is_mode mode ≡ b → cond b passes (fails (ModeError mode)) ≡ passes → is_mode mode ≡ true
    go true p q = p
    go false p q = absurd (passes-not q)

good : (n : Result (Unit {0}) ℕ) → names_check_by n ≡ passes → n ≡ (Ok tt)
good (Ok tt) e = refl
good (Err k) e = absurd (passes-not e)

-- ---- all of them

both : (c : Check) (cs : List Check) → first_of (c ∷ cs) ≡ passes → (c ≡ passes) × (first_of cs ≡ passes)
both passes cs e = (refl, e)
both (fails r) cs e = absurd (passes-not e)

-- what a file that no check refuses tells
pub record Passed (f : List ℕ) (lent : Lent) (t : Terms) : Type 0 where
  pub short : length f ≤ file_limit
  pub cap : cap_check t.asker ≡ passes
  pub good : names_of lent ≡ (Ok tt)
  pub mode : mode_check t.asker ≡ passes
  pub items : items_check t.items ≡ passes

module _ (f : List ℕ) (lent : Lent) (t : Terms) where
  pub passed : first_of (entry_checks f lent t) ≡ passes → Passed f lent t
  passed e =
      let a = both (length_check f) (cap_check t.asker ∷ names_check lent ∷ mode_check t.asker ∷ items_check t.items ∷ []) e in
      let b = both (cap_check t.asker) (names_check lent ∷ mode_check t.asker ∷ items_check t.items ∷ []) a.1 in
      let c = both (names_check lent) (mode_check t.asker ∷ items_check t.items ∷ []) b.1 in
      let m = both (mode_check t.asker) (items_check t.items ∷ []) c.1 in
      let d = both (items_check t.items) [] m.1 in
      record { short = short f a.0; cap = b.0; good = good (names_of lent) c.0; mode = m.0; items = d.0 }

  pub passes-all : length f ≤ file_limit → cap_check t.asker ≡ passes → names_of lent ≡ (Ok tt) → mode_check t.asker ≡ passes
      → items_check t.items ≡ passes → first_of (entry_checks f lent t) ≡ passes
  passes-all p c e m i = rw (length_check-short f p, c, e, m, i)

  -- ---- what `enter` gives

  entered_by_lem : (c : Check) → first_of (entry_checks f lent t) ≡ c → entered_by (opened_of f) c ≡ entered_of f lent t
  unfolding entered_of
  entered_by_lem c e = sym (ap (entered_by (opened_of f)) e)

  pub entered-long : file_limit < length f → Err TooLargeError ≡ entered_of f lent t
  entered-long h = entered_by_lem (fails TooLargeError) (rw (length_check-long f h))

  pub entered-off : length f ≤ file_limit → keeps_none t.asker ≡ true → Err NotesOff ≡ entered_of f lent t
  entered-off h z = entered_by_lem (fails NotesOff) (rw (length_check-short f h, z))

  pub entered-names : length f ≤ file_limit → keeps_none t.asker ≡ false → {k : ℕ} → names_of lent ≡ Err k
      → Err (SystemNamesError k) ≡ entered_of f lent t
  entered-names h z {k} e = entered_by_lem (fails (SystemNamesError k)) (rw (length_check-short f h, z, e))

  pub entered-mode : length f ≤ file_limit → keeps_none t.asker ≡ false → names_of lent ≡ (Ok tt) → is_mode (mode_of t.asker) ≡ false
      → Err (ModeError (mode_of t.asker)) ≡ entered_of f lent t
  entered-mode h z e m = entered_by_lem (fails (ModeError (mode_of t.asker))) (rw (length_check-short f h, z, e, m))

  pub entered-good : length f ≤ file_limit → keeps_none t.asker ≡ false → names_of lent ≡ (Ok tt) → is_mode (mode_of t.asker) ≡ true
      → items_check t.items ≡ passes → Ok (opened_of f) ≡ entered_of f lent t
  entered-good h z e m i = entered_by_lem passes (passes-all h (rw z) e (rw m) i)

  pub entered-in : {o : Opened} → entered_of f lent t ≡ Ok o → (first_of (entry_checks f lent t) ≡ passes) × (o ≡ opened_of f)
  unfolding entered_of
  entered-in {o} e = go (first_of (entry_checks f lent t)) refl e
    where
      go : (c : Check) → first_of (entry_checks f lent t) ≡ c → entered_by (opened_of f) c ≡ Ok o
          → (first_of (entry_checks f lent t) ≡ passes) × (o ≡ opened_of f)
      go passes p q = (p, cc)
      go (fails r) p q = let z : ◌≡◌ {A = ℕ} 0 1 = cc in absurd (let y : ⊥ = omega arith in y)

  pub entered-out : {x : Refusal} → entered_of f lent t ≡ Err x → first_of (entry_checks f lent t) ≡ fails x
  unfolding entered_of
  entered-out {x} e = go (first_of (entry_checks f lent t)) refl e
    where
      go : (c : Check) → first_of (entry_checks f lent t) ≡ c → entered_by (opened_of f) c ≡ Err x → first_of (entry_checks f lent t) ≡ fails x
      go passes p q = let z : ◌≡◌ {A = ℕ} 0 1 = cc in absurd (let y : ⊥ = omega arith in y)
      go (fails r) p q = let w : r ≡ x = cc in p ∙ ap fails w
