-- Laws of a block (specs/Inner/Blocks.antt): what each of its bytes says, and that what it holds is chars of a name, and sound (`block-takes`).
use mathlib.Core.Path.{◌≡◌, refl, sym, subst, ap, ◌∙◌}
use mathlib.Core.Bool.{Bool, true, false, true≢false}
use mathlib.Core.List.{List}
use Prim.Native.Nat.{ℕ, zero, suc, ◌+◌, ◌*◌, ◌%◌, ◌≤◌, ◌<◌}
use native.Mathlib.Omega.{arith}
use borrow.Author.Tests.{eq-eqb, ne_eqb, eqb-true, eqb-false}
use lib.Dec.{eqb}
use lib.ListN.{length, get_or}
use Rattle.utf.proofs.Tables.{both_true}
use Rattle.xml.specs.declared.blocks.Form.{Form}
use Rattle.xml.specs.declared.blocks.Form.TheVariants.{AsciiUnits, FarUnits, Ascii, Pairs, Triples}
use Rattle.xml.specs.Inner.SeenChars.{is_pair, is_triple}
use Rattle.xml.specs.Inner.Blocks.{in_utf16, size_of, is_odd, fits_at, all_fit}
use Rattle.xml.specs.Inner.NameRun.{Seen, Takes}
use Rattle.xml.proofs.Names.{seen-chain, seen-char}
use Rattle.xml.proofs.SeenChars.{unit-low, unit-far, seen_low, seen-pair, seen-triple}

-- ---- a byte of a block, at its place

all_fit-at : (form : Form) (s : List ℕ) (at n k : ℕ) → all_fit form s at n ≡ true → k < n → fits_at form k (get_or s (at + k) 0) ≡ true
unfolding all_fit
all_fit-at form s at zero k t h = absurd (let z : ⊥ = omega arith in z)
all_fit-at form s at (suc n) k t h = go (all_fit-at form s at n k p.1) (eqb k n) refl
  where
    p : (fits_at form n (get_or s (at + n) 0) ≡ true) × (all_fit form s at n ≡ true)
    p = both_true (fits_at form n (get_or s (at + n) 0)) (all_fit form s at n) t

    go : (k < n → fits_at form k (get_or s (at + k) 0) ≡ true) → (b : Bool) → eqb k n ≡ b → fits_at form k (get_or s (at + k) 0) ≡ true
    go r true e = subst (λ (m : ℕ). fits_at form m (get_or s (at + m) 0) ≡ true) (sym (eqb-true k n e)) p.0
    go r false e = r (let d = eqb-false k n e in omega arith)

-- the byte at place i of the text, which is place k of the block
fit_at : (form : Form) (s : List ℕ) (at n k i : ℕ) → all_fit form s at n ≡ true → k < n → i ≡ at + k → fits_at form k (get_or s i 0) ≡ true
fit_at form s at n k i t h e = ap (λ (j : ℕ). fits_at form k (get_or s j 0)) e ∙ all_fit-at form s at n k t h

-- all of them fit, or one does not
all_fit-each : (form : Form) (s : List ℕ) (at n : ℕ) → ((k : ℕ) → k < n → fits_at form k (get_or s (at + k) 0) ≡ true) → all_fit form s at n ≡ true
unfolding all_fit
all_fit-each form s at zero p = refl
all_fit-each form s at (suc n) p = rw (p n (omega arith), all_fit-each form s at n (λ k h. p k (omega arith)))

pub all_fit-is : (form : Form) (s : List ℕ) (at n : ℕ) (r : Bool)
    → (r ≡ true → (k : ℕ) → k < n → fits_at form k (get_or s (at + k) 0) ≡ true)
    → (r ≡ false → (k : ℕ) × (k < n) × (fits_at form k (get_or s (at + k) 0) ≡ false)) → r ≡ all_fit form s at n
all_fit-is form s at n true p q = sym (all_fit-each form s at n (p refl))
all_fit-is form s at n false p q = go (all_fit form s at n) refl
  where
    go : (b : Bool) → all_fit form s at n ≡ b → false ≡ all_fit form s at n
    go false e = sym e
    go true e = let f = q refl in absurd (true≢false (sym (all_fit-at form s at n f.0 e f.1) ∙ f.2))

-- ---- a block of each form

module _ (s : List ℕ) (at : ℕ) (h : at + 64 ≤ length s) where
  odd : (n : ℕ) → is_odd (n * 2 + 1) ≡ true
  odd n = eq-eqb ((n * 2 + 1) % 2) 1 (omega arith)

  even : (n : ℕ) → is_odd (n * 2) ≡ false
  even n = ne_eqb ((n * 2) % 2) 1 (λ z. omega arith)

  -- chars of the same width: the first is at `at`, and the end `size` behind it
  of_width : (utf16 : Bool) (width count size : ℕ) → count * width ≡ size
      → ((n : ℕ) → n < count → Seen utf16 s (at + n * width) (at + suc n * width)) → Seen utf16 s at (at + size)
  of_width utf16 width count size e step =
      let first : at + 0 * width ≡ at = omega arith in
      let last : at + count * width ≡ at + size = omega arith in
      seen-chain utf16 s (λ n. at + n * width) count at (at + size) first last
      (λ n j h i. subst (λ (x : ℕ). Seen utf16 s (at + n * width) x) (sym i) (step n h))

  ascii-units : ((k : ℕ) → get_or s k 0 < 256) → all_fit AsciiUnits s at 64 ≡ true → Seen true s at (at + 64)
  unfolding fits_at
  ascii-units b e =
      of_width true 2 32 64 refl
      (λ n k.
      let i = at + n * 2 in
      let low = rw (even n) at (fit_at AsciiUnits s at 64 (n * 2) i e (omega arith) refl) in
      let high = rw (odd n) at (fit_at AsciiUnits s at 64 (n * 2 + 1) (i + 1) e (omega arith) (omega arith)) in
      let u = unit-low (get_or s i 0) (get_or s (i + 1) 0) low high in
      let to : i + 2 ≡ at + suc n * 2 = omega arith in
      subst (λ (j : ℕ). Seen true s i j) to (seen-char s i (omega arith) b u.0 u.1))

  far-units : ((k : ℕ) → get_or s k 0 < 256) → all_fit FarUnits s at 64 ≡ true → Seen true s at (at + 64)
  unfolding fits_at
  far-units b e =
      of_width true 2 32 64 refl
      (λ n k.
      let i = at + n * 2 in
      let high = rw (odd n) at (fit_at FarUnits s at 64 (n * 2 + 1) (i + 1) e (omega arith) (omega arith)) in
      let u = unit-far (get_or s i 0) (get_or s (i + 1) 0) (b i) high in
      let to : i + 2 ≡ at + suc n * 2 = omega arith in
      subst (λ (j : ℕ). Seen true s i j) to (seen-char s i (omega arith) b u.0 u.1))

  ascii-bytes : all_fit Ascii s at 64 ≡ true → Seen false s at (at + 64)
  unfolding fits_at
  ascii-bytes e =
      of_width false 1 64 64 refl
      (λ n k.
      let i = at + n * 1 in
      let to : i + 1 ≡ at + suc n * 1 = omega arith in
      subst (λ (j : ℕ). Seen false s i j) to (seen_low s i (omega arith) (fit_at Ascii s at 64 n i e (omega arith) (omega arith))))

  pairs : all_fit Pairs s at 64 ≡ true → Seen false s at (at + 64)
  unfolding fits_at is_pair
  pairs e =
      of_width false 2 32 64 refl
      (λ n k.
      let i = at + n * 2 in
      let lead = rw (even n) at (fit_at Pairs s at 64 (n * 2) i e (omega arith) refl) in
      let trail = rw (odd n) at (fit_at Pairs s at 64 (n * 2 + 1) (i + 1) e (omega arith) (omega arith)) in
      let to : i + 2 ≡ at + suc n * 2 = omega arith in
      subst (λ (j : ℕ). Seen false s i j) to (seen-pair s i (omega arith) (rw (trail, lead))))

  triples : all_fit Triples s at 48 ≡ true → Seen false s at (at + 48)
  unfolding fits_at is_triple
  triples e =
      of_width false 3 16 48 refl
      (λ n k.
      let i = at + n * 3 in
      let p0 : eqb ((n * 3) % 3) 0 ≡ true = eq-eqb ((n * 3) % 3) 0 (omega arith) in
      let p1 : eqb ((n * 3 + 1) % 3) 0 ≡ false = ne_eqb ((n * 3 + 1) % 3) 0 (λ z. omega arith) in
      let q1 : eqb ((n * 3 + 1) % 3) 1 ≡ true = eq-eqb ((n * 3 + 1) % 3) 1 (omega arith) in
      let p2 : eqb ((n * 3 + 2) % 3) 0 ≡ false = ne_eqb ((n * 3 + 2) % 3) 0 (λ z. omega arith) in
      let q2 : eqb ((n * 3 + 2) % 3) 1 ≡ false = ne_eqb ((n * 3 + 2) % 3) 1 (λ z. omega arith) in
      let lead = rw p0 at (fit_at Triples s at 48 (n * 3) i e (omega arith) refl) in
      let second = rw (p1, q1) at (fit_at Triples s at 48 (n * 3 + 1) (i + 1) e (omega arith) (omega arith)) in
      let trail = rw (p2, q2) at (fit_at Triples s at 48 (n * 3 + 2) (i + 2) e (omega arith) (omega arith)) in
      let to : i + 3 ≡ at + suc n * 3 = omega arith in
      subst (λ (j : ℕ). Seen false s i j) to (seen-triple s i (omega arith) (rw (lead, second, trail))))

block_of : (form : Form) (s : List ℕ) (at : ℕ) → at + 64 ≤ length s → ((k : ℕ) → get_or s k 0 < 256) → all_fit form s at (size_of form) ≡ true
    → Seen (in_utf16 form) s at (at + size_of form)
block_of AsciiUnits s at h b e = ascii-units s at h b e
block_of FarUnits s at h b e = far-units s at h b e
block_of Ascii s at h b e = ascii-bytes s at h e
block_of Pairs s at h b e = pairs s at h e
block_of Triples s at h b e = triples s at h e

module _ (form : Form) where
  size_of-ends : (1 ≤ size_of form) × (size_of form ≤ 64)
  size_of-ends = go form
    where
      go : (f : Form) → (1 ≤ size_of f) × (size_of f ≤ 64)
      go AsciiUnits = (omega arith, omega arith)
      go FarUnits = (omega arith, omega arith)
      go Ascii = (omega arith, omega arith)
      go Pairs = (omega arith, omega arith)
      go Triples = (omega arith, omega arith)

  pub size_of-le : size_of form ≤ 64
  size_of-le = size_of-ends.1

  pub block-takes : (s : List ℕ) (at n : ℕ) → n ≡ size_of form → at + 64 ≤ length s
      → ((k : ℕ) → get_or s k 0 < 256) → true ≡ all_fit form s at (size_of form)
      → Takes (in_utf16 form) s at n
  block-takes s at n e h b f =
      let m = size_of-ends in
      subst (λ (m : ℕ). Takes (in_utf16 form) s at m) (sym e) (record { seen = block_of form s at h b (sym f); least = m.0; most = omega arith })
