-- Marks, by which strings are told apart before they are looked up. No contract cites this file.
-- In order: a string of the same length with another byte near its end (`other-alike`), and where its bytes lie (`alike-room`); the marks
-- of what was found (`marked-none`, `marked-pool`).
use Prim.Native.Nat.{ℕ, ◌+◌, ◌-◌, ◌*◌, ◌≤◌, ◌<◌}
use native.Mathlib.Omega.{arith}
use mathlib.Core.Path.{◌≡◌, refl, sym, ap, ◌∙◌}
use mathlib.Core.List.{List}
use mathlib.Core.Bool.{Bool, true, false}
use lib.ListN.{length, take, drop, get_or}
use Rattle.field.specs.Le.{u16le}
use Rattle.utf.specs.Text.{eq_bytes}
use Rattle.utf.specs.Plain.{Known}
use Rattle.system_types.specs.Names.{Lent}
use Rattle.text.specs.declared.Head.{Head}
use Rattle.text.specs.declared.Found.{Found}
use Rattle.text.specs.declared.Found.TheVariants.{Pool}
use Rattle.text.specs.declared.Marks.{Marks}
use Rattle.text.specs.Content.{plain_in}
use Rattle.text.specs.Inner.Found.{part_of}
use Rattle.text.specs.Inner.Marks.{Other, string_in, Heads, Ends, Chosen, first_of, Marked}
use Rattle.text.proofs.Others.{other_at, utf8-in, utf16-in, system-first}

-- ---- a string of the same length

module _ (t : List ℕ) (end p : ℕ) (h : end ≤ length t) (small : (i : ℕ) → get_or t i 0 < 256) (at n far head last : ℕ) (in-t : at + n ≤ length t) where
  -- another byte in the same place of two strings of n bytes
  last-other
      : (back : ℕ)
      → 0 < back
      → back ≤ n
      → far + back ≡ n + 2
      → p + 2 + n ≤ end
      → last ≡ get_or t (at + n - back) 0
      → (get_or t (p + far) 0 ≡ last → ⊥)
      → eq_bytes (take n (drop (p + 2) t)) (take n (drop at t)) ≡ false
  last-other back b l f r e d =
      let i : p + 2 + n - back ≡ p + far = omega arith in
      other_at t (p + 2) n at n (omega arith) in-t back refl b l (λ z. d (ap (λ (j : ℕ). get_or t j 0) (sym i) ∙ z ∙ sym e))

  alike-utf8
      : Heads false n head
      → 1 ≤ n
      → far + 1 ≡ n + 2
      → p + (n + 2 + 1) ≤ end
      → last ≡ get_or t (at + n - 1) 0
      → u16le t p ≡ head
      → (get_or t (p + far) 0 ≡ last → ⊥)
      → Other false t (string_in false t end p) (take n (drop at t))
  unfolding u16le
  alike-utf8 k l f r e u d =
      let x = small p in
      let y = small (p + 1) in
      let v : get_or t p 0 + 256 * get_or t (p + 1) 0 ≡ 257 * n = u ∙ k.1 in
      let m = k.0 in
      let b : n ≡ get_or t (p + 1) 0 = omega arith in
      utf8-in t end p h (omega arith) n (take n (drop at t)) (omega arith) k.0 b (omega arith)
      (last-other 1 (omega arith) l f (omega arith) e d)

  alike-utf16
      : Heads true n head
      → 2 ≤ n
      → far + 2 ≡ n + 2
      → p + (n + 2 + 2) ≤ end
      → last ≡ get_or t (at + n - 2) 0
      → u16le t p ≡ head
      → (get_or t (p + far) 0 ≡ last → ⊥)
      → Other true t (string_in true t end p) (take n (drop at t))
  alike-utf16 k l f r e u d =
      let v : 2 * head ≡ n = sym k.1 in
      let q : p + 4 + 2 * head ≤ end = omega arith in
      let b = last-other 2 (omega arith) l f (omega arith) e d in
      utf16-in t end p h (omega arith) head (take n (drop at t)) k.0 (sym u) q
      (ap (λ (m : ℕ). eq_bytes (take m (drop (p + 2) t)) (take n (drop at t))) v ∙ b)

pub other-alike
    : (w : Bool) (t : List ℕ) (end p : ℕ) (k : Marks)
    → end ≤ length t
    → ((i : ℕ) → get_or t i 0 < 256)
    → Ends w t end k
    → p ≤ k.room
    → u16le t p ≡ k.head
    → (get_or t (p + k.far) 0 ≡ k.last → ⊥)
    → Other w t (string_in w t end p) (take k.n (drop k.at t))
other-alike true t end p k h small e l u d =
    let r : p + (k.n + 2 + 2) ≤ end = omega (arith, e.room) in
    alike-utf16 t end p h small k.at k.n k.far k.head k.last e.inside e.head e.some e.far r e.last u d
other-alike false t end p k h small e l u d =
    let r : p + (k.n + 2 + 1) ≤ end = omega (arith, e.room) in
    alike-utf8 t end p h small k.at k.n k.far k.head k.last e.inside e.head e.some e.far r e.last u d

-- where the bytes lie that are looked at
pub alike-room : (w : Bool) (t : List ℕ) (end p : ℕ) (k : Marks) → Ends w t end k → p ≤ k.room → (p + 2 ≤ end) × (p + k.far < end)
alike-room true t end p k e l = (omega (arith, e.room), omega (arith, e.room, e.far))
alike-room false t end p k e l = (omega (arith, e.room), omega (arith, e.room, e.far))

-- ---- the marks

module _ (t : List ℕ) (lent : Lent) (h : Head) (g : Found) (k : Marks) where
  pub marked-none : k.first.0 ≡ h.count → Marked t lent h g k
  marked-none e = record {
    bare = λ i p q. absurd (let z : ⊥ = omega (arith, e) in z);
    ends = λ p. absurd (let z : ⊥ = omega (arith, e) in z);
  }

  pub marked-pool
      : {at n : ℕ} {plain : Bool}
      → plain ≡ true
      → Known plain (plain_in (part_of h.utf16 t lent.area g))
      → g ≡ Pool at n
      → Chosen h.utf16 t h.count (first_of lent.names h.ids) (h.strings + h.size) at n k
      → Marked t lent h g k
  marked-pool {at} {n} y p e c = record {
    bare = λ i l m. system-first h t lent i (c.later i l m);
    ends = λ l. let q = c.ends l in (e ∙ ap (λ (z : ℕ). Pool z n) (sym q.0) ∙ ap (Pool k.at) (sym q.1), p.holds y, q.2);
  }
