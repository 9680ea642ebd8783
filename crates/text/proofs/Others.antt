-- Strings that are told apart by their length or a byte, without being read whole. No contract cites this file.
-- In order: other bytes (`other_length`, `other_at`); a string whose head is two bytes (`utf8-in`, `utf16-in`); the string of an index
-- (`system-first`, `other-index`); another text (`other_text`).
use Rattle.std.specs.Prelude.{Some, None}
use Prim.Native.Nat.{ℕ, ◌+◌, ◌-◌, ◌*◌, ◌≤◌, ◌<◌}
use native.Mathlib.Omega.{arith}
use native.Mathlib.Nat.{add-zero}
use mathlib.Core.Path.{◌≡◌, refl, sym, ap, ◌∙◌}
use mathlib.Core.List.{List, [], ◌∷◌}
use mathlib.Core.Bool.{Bool, true, false, cond, true≢false}
use borrow.Author.Tests.{lt-ltb, ltb-true, ltb-false, eqb-true}
use lib.ListN.{length, take, drop, get_or, length-drop}
use lib.Seq.{get_or-take, get_or-drop, length-take-le, drop-drop}
use lib.Dec.{eqb, ltb}
use Rattle.field.specs.Le.{u8le, u16le, u32le}
use Rattle.utf.specs.Text.{eq_bytes}
use Rattle.utf.specs.Plain.{is_plain}
use Rattle.utf.proofs.Equal.{eq_bytes-length, eq_bytes-here}
use Rattle.utf.proofs.PlainLaws.{plain-same}
use Rattle.system_types.specs.Names.{Lent, name_by_id, system_name, top_byte}
use Rattle.resource_map.specs.Map.{id_of}
use Rattle.res_string_pool.specs.Pool.{offset_of}
use Rattle.res_string_pool.specs.Content.{split_of, split8, split16}
use Rattle.res_string_pool.proofs.Offsets.{offset_of-drop}
use Rattle.res_string_pool.proofs.Strings.{width8-one, length8-one, split8-by, split16-by-one, within-content}
use Rattle.text.specs.declared.Head.{Head}
use Rattle.text.specs.declared.Found.{Found}
use Rattle.text.specs.declared.Found.TheVariants.{Pool}
use Rattle.text.specs.Content.{Content, none, cut, some, named_by, system_of, split_by, string_at, data_of, string_of, or_else, content_of}
use Rattle.text.specs.Content.{plain_in, same_text}
use Rattle.text.specs.Inner.Found.{Fits, part_of}
use Rattle.text.specs.Inner.Marks.{Other, string_in, first_of}
use Rattle.text.proofs.Parts.{take-drop-part, data-from, length-data}
use Rattle.text.proofs.Index.{string_of-in, system_of-past, system_of-in}
use Rattle.text.proofs.Read.{part-lt}

-- ---- other bytes

module _ (t : List ℕ) (q m at n : ℕ) (h : q + m ≤ length t) (k : at + n ≤ length t) where
  pub other_length : (m ≡ n → ⊥) → eq_bytes (take m (drop q t)) (take n (drop at t)) ≡ false
  other_length d =
      let lm : length (take m (drop q t)) ≡ m = length-take-le m (drop q t) (rw length-drop (omega arith)) in
      let ln : length (take n (drop at t)) ≡ n = length-take-le n (drop at t) (rw length-drop (omega arith)) in
      eq_bytes-length (take m (drop q t)) (take n (drop at t)) (λ e. d (sym lm ∙ e ∙ ln))

  -- a byte `back` from the end
  pub other_at
      : (back : ℕ)
      → m ≡ n
      → 0 < back
      → back ≤ n
      → (get_or t (q + m - back) 0 ≡ get_or t (at + n - back) 0 → ⊥)
      → eq_bytes (take m (drop q t)) (take n (drop at t)) ≡ false
  other_at back e p b d =
      let i : q + (n - back) ≡ q + m - back = omega arith in
      let j : at + (n - back) ≡ at + n - back = omega arith in
      let x : get_or (take m (drop q t)) (n - back) 0 ≡ get_or t (q + m - back) 0 =
      get_or-take m (drop q t) (n - back) 0 (omega arith) ∙ get_or-drop q t (n - back) 0 ∙ ap (λ (z : ℕ). get_or t z 0) i in
      let y : get_or (take n (drop at t)) (n - back) 0 ≡ get_or t (at + n - back) 0 =
      get_or-take n (drop at t) (n - back) 0 (omega arith) ∙ get_or-drop at t (n - back) 0 ∙ ap (λ (z : ℕ). get_or t z 0) j in
      eq_bytes-here (take m (drop q t)) (take n (drop at t)) (n - back) (λ z. d (sym x ∙ z ∙ y))

-- ---- a string whose head is two bytes

module _ (t : List ℕ) (end p : ℕ) (h : end ≤ length t) (k : p + 2 ≤ end) where
  -- a byte of the data
  data-byte : (i : ℕ) → i < end - p → get_or (take (end - p) (drop p t)) i 0 ≡ get_or t (p + i) 0
  data-byte i l = get_or-take (end - p) (drop p t) i 0 l ∙ get_or-drop p t i 0

  head-other
      : (w : Bool) (m : ℕ) (s : List ℕ)
      → p + 2 + m ≤ end
      → split_of w (take (end - p) (drop p t)) ≡ Some (2, m)
      → eq_bytes (take m (drop (p + 2) t)) s ≡ false
      → Other w t (string_in w t end p) s
  head-other w m s r e b =
      let part : take m (drop 2 (take (end - p) (drop p t))) ≡ take m (drop (p + 2) t) =
      take-drop-part m 2 (end - p) (drop p t) (omega arith) (rw length-drop (omega arith)) ∙ ap (take m) (drop-drop 2 p t) in
      record {
        from = p + 2;
        count = m;
        here = ap (split_by w (take (end - p) (drop p t))) e ∙ ap (some w) part;
        bytes = b;
      }

  pub utf8-in
      : (m : ℕ) (s : List ℕ)
      → get_or t p 0 < 128
      → m < 128
      → m ≡ get_or t (p + 1) 0
      → p + 3 + m ≤ end
      → eq_bytes (take m (drop (p + 2) t)) s ≡ false
      → Other false t (string_in false t end p) s
  utf8-in m s a b e r d =
      let l = take (end - p) (drop p t) in
      let ll : length l ≡ end - p = length-take-le (end - p) (drop p t) (rw length-drop (omega arith)) in
      let x : u8le l 0 ≡ get_or t p 0 = data-byte 0 (omega arith) ∙ ap (λ (z : ℕ). get_or t z 0) (add-zero p) in
      let y : u8le l 1 ≡ m = data-byte 1 (omega arith) ∙ sym e in
      let wa = width8-one l 0 (omega arith) in
      let wb = width8-one l 1 (omega arith) in
      let c = length8-one l 1 (omega arith) in
      let split = sym (split8-by l 1 m 1 (sym wa) (sym (c ∙ y)) (sym wb)) ∙ within-content l 2 m 1 (omega arith) in
      head-other false m s (omega arith) split d

  pub utf16-in
      : (u : ℕ) (s : List ℕ)
      → u < 32768
      → u ≡ u16le t p
      → p + 4 + 2 * u ≤ end
      → eq_bytes (take (2 * u) (drop (p + 2) t)) s ≡ false
      → Other true t (string_in true t end p) s
  unfolding u16le
  utf16-in u s a e r d =
      let l = take (end - p) (drop p t) in
      let ll : length l ≡ end - p = length-take-le (end - p) (drop p t) (rw length-drop (omega arith)) in
      let x : get_or l 0 0 ≡ get_or t p 0 = data-byte 0 (omega arith) ∙ ap (λ (z : ℕ). get_or t z 0) (add-zero p) in
      let y : get_or l 1 0 ≡ get_or t (p + 1) 0 = data-byte 1 (omega arith) in
      let v : u16le l 0 ≡ u = rw (x, y) (sym e) in
      let split = sym (split16-by-one l (2 * u) (omega arith) (ap (λ (z : ℕ). 2 * z) (sym v))) ∙ within-content l 2 (2 * u) 2 (omega arith) in
      head-other true (2 * u) s (omega arith) split d

abbrev has_bytes : Content → Bool
has_bytes none = false
has_bytes cut = false
has_bytes (some w s) = true

-- outside the data a string is cut
string_in-outside : (w : Bool) (t : List ℕ) (end p : ℕ) → end ≤ p → string_in w t end p ≡ cut
unfolding split8 split16 u16le
string_in-outside true t end p h = let e : end - p ≡ 0 = omega arith in rw e
string_in-outside false t end p h = let e : end - p ≡ 0 = omega arith in rw e

other-inside : (w : Bool) (t : List ℕ) (end p : ℕ) (s : List ℕ) → Other w t (string_in w t end p) s → p < end
other-inside w t end p s r = go (ltb p end) refl
  where
    go : (b : Bool) → ltb p end ≡ b → p < end
    go true e = ltb-true p end e
    go false e =
        let z = ap has_bytes (sym (string_in-outside w t end p (ltb-false p end e)) ∙ r.here) in
        absurd (true≢false (sym z))

-- ---- the string of an index

-- no names, no system name
missing-nil : (id : ℕ) → system_name id [] ≡ None
unfolding name_by_id
missing-nil id = go (eqb (top_byte id) 1)
  where
    go : (b : Bool) → cond b (name_by_id id []) None ≡ None
    go true = refl
    go false = refl

names-nil : (names : List ℕ) → length names ≡ 0 → names ≡ []
names-nil [] e = refl
names-nil (x ∷ l) e = absurd (let z : ⊥ = omega arith in z)

module _ (h : Head) (t : List ℕ) (lent : Lent) (i : ℕ) where
  system-nil : lent.names ≡ [] → system_of h t lent i ≡ none
  system-nil e = go (ltb i h.ids) refl
    where
      go : (b : Bool) → ltb i h.ids ≡ b → system_of h t lent i ≡ none
      go true l = system_of-in h t lent i (ltb-true i h.ids l) ∙ rw e (ap (named_by lent.area) (missing-nil (id_of (drop h.map t) i)))
      go false l = system_of-past h t lent i (ltb-false i h.ids l)

  pub system-first : first_of lent.names h.ids ≤ i → system_of h t lent i ≡ none
  system-first p = go (eqb (length lent.names) 0) refl
    where
      go : (b : Bool) → eqb (length lent.names) 0 ≡ b → system_of h t lent i ≡ none
      go true e = system-nil (names-nil lent.names (eqb-true (length lent.names) 0 e))
      go false e = let q = rw e at p in system_of-past h t lent i q

module _ (h : Head) (t : List ℕ) (lent : Lent) (i : ℕ) (fits : Fits t h) where
  pub other-index
      : (o : ℕ) (s : List ℕ)
      → system_of h t lent i ≡ none
      → i < h.count
      → o ≡ u32le t (h.offsets + 4 * i)
      → Other h.utf16 t (string_in h.utf16 t (h.strings + h.size) (h.strings + o)) s
      → Other h.utf16 t (content_of h t lent i) s
  unfolding content_of string_at
  other-index o s none_here p e r =
      let size = h.size in
      let strings = h.strings in
      let room : strings + size ≤ length t = fits.strings in
      let inner : strings + o < strings + size = other-inside h.utf16 t (strings + size) (strings + o) s r in
      let d : drop o (data_of h t) ≡ take (size - o) (drop (strings + o) t) = data-from t strings size o room (omega arith) in
      let f : size - o ≡ strings + size - (strings + o) = omega arith in
      let d' : drop o (data_of h t) ≡ take (strings + size - (strings + o)) (drop (strings + o) t) =
      d ∙ ap (λ (k : ℕ). take k (drop (strings + o) t)) f in
      let at : offset_of (drop h.offsets t) i ≡ o = offset_of-drop t h.offsets i ∙ sym e in
      let l : length (data_of h t) ≡ size = length-data t strings size room in
      let c : string_at h.utf16 (data_of h t) o ≡ string_in h.utf16 t (strings + size) (strings + o) =
      rw (lt-ltb o (length (data_of h t)) (omega arith)) (ap (λ (x : List ℕ). split_by h.utf16 x (split_of h.utf16 x)) d') in
      let b : string_of h t i ≡ string_in h.utf16 t (strings + size) (strings + o) = string_of-in h t i p ∙ rw at c in
      record {
        from = r.from;
        count = r.count;
        here = ap (λ (x : Content). or_else x (string_of h t i)) none_here ∙ b ∙ r.here;
        bytes = r.bytes;
      }

-- ---- another text

pub other_text
    : (w : Bool) (t area : List ℕ) (c : Content) {g : Found} {at n : ℕ}
    → ((i : ℕ) → get_or t i 0 < 256)
    → plain_in (part_of w t area g) ≡ true
    → g ≡ Pool at n
    → Other w t c (take n (drop at t))
    → same_text c (part_of w t area g) ≡ false
other_text w t area c {g} {at} {n} small k e r =
    let is : part_of w t area g ≡ some w (take n (drop at t)) = rw e in
    let p : is_plain w (take n (drop at t)) ≡ true = sym (ap plain_in is) ∙ k in
    let a = take r.count (drop r.from t) in
    let same = plain-same w a (take n (drop at t)) (part-lt t r.from r.count small) (part-lt t at n small) p in
    rw (r.here, is) (sym same ∙ r.bytes)
