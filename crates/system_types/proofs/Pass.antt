-- Laws of the pass over all the names that has no early way out, over an area that is ASCII as a whole. No contract cites this file.
-- In order: before the first entry 16777215 does for 0 (`names_from-low`); what the pass knows of the entries that it has seen
-- (`Seen`), at its start, behind an entry and at its end.
use Rattle.std.specs.Prelude.{Ok}
use Rattle.std.proofs.Common.{◌≡◌, ℕ, ◌+◌, ◌*◌, ◌/◌, ◌%◌, ◌<◌, ◌≤◌, Bool, true, false, ◌&&◌, eqb, ltb, List, [], ◌∷◌, length, get_or, drop}
use Rattle.std.proofs.Common.{sym, refl, ◌∙◌, arith, length-drop, ltb-true, lt-ltb, eqb-true}
use mathlib.Core.Bool.{and-false}
use Rattle.system_types.specs.Names.{lends, top_byte, is_good, names_from, names_of}
use Rattle.utf.specs.Plain.{is_ascii}
use Rattle.utf.proofs.Tables.{both_true}
use Rattle.system_types.proofs.Laws.{is_good-plain, names_from-step, names_from-stop}

-- ---- before the first entry

-- an id with top byte 1 is above 16777215
is_good-low : (area : List ℕ) (id start n : ℕ) → is_good area 16777215 id start n ≡ is_good area 0 id start n
unfolding is_good
is_good-low area id start n = go (eqb (top_byte id) 1) refl _
  where
    go : (t : Bool) → eqb (top_byte id) 1 ≡ t → (b : Bool) → (ltb 16777215 id && (t && b)) ≡ (ltb 0 id && (t && b))
    go true e b = let p = eqb-true (top_byte id) 1 e in rw (lt-ltb 16777215 id (omega arith), lt-ltb 0 id (omega arith))
    go false e b = rw (and-false (ltb 16777215 id), and-false (ltb 0 id))

names_from-low : (area : List ℕ) (k : ℕ) (w : List ℕ) → names_from area 16777215 k w ≡ names_from area 0 k w
unfolding names_from
names_from-low area k [] = refl
names_from-low area k (x ∷ []) = refl
names_from-low area k (x ∷ y ∷ []) = refl
names_from-low area k (id ∷ start ∷ n ∷ w) = rw (is_good-low area id start n)

-- ---- the pass

-- what is asked at the end: every id rose, the last one has top byte 1 at most, and no name ends past the area, which is below 4 GiB
pub record Kept (area : List ℕ) (falls last most : ℕ) : Type 0 where
  pub none : falls ≡ 0
  pub top : last < 33554432
  pub inside : most < length area
  pub short : length area < 4294967296

-- the entries before k were seen: if they keep what is asked, those left say what all say
pub record Seen (area w : List ℕ) (k falls last most : ℕ) : Type 0 where
  pub fits : 3 * k ≤ length w
  pub so : Kept area falls last most → (16777215 ≤ last) × (names_from area last k (drop (3 * k) w) ≡ names_of (lends w area))

pub seen_first : (area w : List ℕ) → Seen area w 0 0 16777215 0
seen_first area w = record { fits = omega arith; so = λ h. (omega arith, names_from-low area 0 w) }

-- behind an entry whose id does not rise nothing is asked
pub seen-falls : (area w : List ℕ) (k id far : ℕ) → 3 * k + 3 ≤ length w → Seen area w (k + 1) 1 id far
seen-falls area w k id far room = record { fits = omega arith; so = λ h. let z = h.none in absurd (let y : ⊥ = omega arith in y) }

-- entry k with an id that rises; its last byte is `end`, and `far` the furthest last byte with it
module _ (area w : List ℕ) (k falls last most end far : ℕ)
    (ascii : is_ascii area ≡ true)
    (room : 3 * k + 3 ≤ length w)
    (seen : Seen area w k falls last most)
    (name : end < 4294967295 → (1 ≤ get_or w (3 * k + 2) 0) × (end + 1 ≡ get_or w (3 * k + 1) 0 + get_or w (3 * k + 2) 0))
    (p : most ≤ far)
    (q : end ≤ far)
    (r : last < get_or w (3 * k) 0)
  where
    -- if what is asked holds behind the entry, it held before it, and the entry is good
    good
        : Kept area falls (get_or w (3 * k) 0) far
        → (16777215 ≤ get_or w (3 * k) 0)
        × (names_from area (get_or w (3 * k) 0) (k + 1) (drop (3 * (k + 1)) w) ≡ names_of (lends w area))
    good h =
        let i = h.inside in
        let t = h.top in
        let s = h.short in
        let b = seen.so (record { none = h.none; top = omega arith; inside = omega arith; short = s }) in
        let l = b.0 in
        let n = name (omega arith) in
        let some = n.0 in
        let ends = n.1 in
        let id = get_or w (3 * k) 0 in
        let start = get_or w (3 * k + 1) 0 in
        let e = is_good-plain area last id start (get_or w (3 * k + 2) 0) ascii r (omega arith) some (omega arith) in
        (omega arith, sym (names_from-step area last w k room e) ∙ b.1)

    pub seen-rises : Seen area w (k + 1) falls (get_or w (3 * k) 0) far
    seen-rises = record { fits = omega arith; so = good }

-- all entries were seen, and the five tests at the end passed
pub Seen-done
    : (area w : List ℕ) (k falls last most : ℕ)
    → Seen area w k falls last most
    → length w / 3 ≤ k
    → ((((eqb (length w % 3) 0 && eqb falls 0) && ltb last 33554432) && ltb most (length area)) && ltb (length area) 4294967296) ≡ true
    → names_of (lends w area) ≡ Ok tt
Seen-done area w k falls last most seen p e =
    let none = eqb (length w % 3) 0 && eqb falls 0 in
    let a = both_true ((none && ltb last 33554432) && ltb most (length area)) (ltb (length area) 4294967296) e in
    let b = both_true (none && ltb last 33554432) (ltb most (length area)) a.0 in
    let d = both_true none (ltb last 33554432) b.0 in
    let f = both_true (eqb (length w % 3) 0) (eqb falls 0) d.0 in
    let left = eqb-true (length w % 3) 0 f.0 in
    let fits = seen.fits in
    let h : Kept area falls last most =
    record {
      none = eqb-true falls 0 f.1;
      top = ltb-true last 33554432 d.1;
      inside = ltb-true most (length area) b.1;
      short = ltb-true (length area) 4294967296 a.1;
    } in
    let z : length (drop (3 * k) w) ≡ 0 = rw length-drop (omega arith) in
    sym (seen.so h).1 ∙ names_from-stop area last k (drop (3 * k) w) z
