-- Parts of lists, and where a found text lies in them. No contract cites this file.
-- In order: a part of a part (`take-drop-part`, `drop-take`); a system name (`without-rest`, `stripped-stands`); a string of the
-- pool (`string_at-outside`, `-cut`, `-pool`, `string_of-past`, `-in`); the index (`system_of-past`, `-in`, `find-..`).
use Rattle.std.specs.Prelude.{Option, Some, None}
use Prim.Native.Nat.{ℕ, ◌+◌, ◌-◌, ◌≤◌, ◌<◌}
use native.Mathlib.Omega.{arith}
use mathlib.Core.Path.{◌≡◌, refl, sym, ap, ◌∙◌}
use mathlib.Core.List.{List}
use mathlib.Core.Bool.{Bool, true, false, cond}
use borrow.Author.Tests.{lt-ltb, le-ltb}
use lib.ListN.{length, take, drop, length-drop}
use lib.Seq.{take-add, take-take, drop_at, drop-drop, length-take-le}
use Rattle.utf.specs.Plain.{is_ascii}
use Rattle.system_types.specs.Names.{starts_with, without, android_attr}
use Rattle.system_types.proofs.Prefix.{starts_with-le, is_ascii-without}
use Rattle.res_string_pool.specs.Content.{split_of}
use Rattle.res_string_pool.proofs.Strings.{split_of-fits}
use Rattle.text.specs.declared.Found.TheVariants.{Cut, System, Pool}
use Rattle.text.specs.Content.{cut, some, named_by, string_at}
use Rattle.text.specs.Inner.Found.{Stands}

-- ---- a part of a part

pub drop-take : (o m : ℕ) (l : List ℕ) → o + m ≤ length l → drop o (take (o + m) l) ≡ take m (drop o l)
drop-take o m l h = rw (take-add o m l) (drop_at (take o l) (take m (drop o l)) o (length-take-le o l (omega arith)))

-- n bytes at a place of the first m are n bytes at that place
pub take-drop-part : (n at m : ℕ) (l : List ℕ) → at + n ≤ m → m ≤ length l → take n (drop at (take m l)) ≡ take n (drop at l)
take-drop-part n at m l h p =
    let e : at + (m - at) ≡ m = omega arith in
    let d : drop at (take m l) ≡ take (m - at) (drop at l) = ap (λ (k : ℕ). drop at (take k l)) (sym e) ∙ drop-take at (m - at) l (omega arith) in
    rw (d, take-take n (m - at) (drop at l) (omega arith))

-- ---- a system name

without-case
    : (s : List ℕ) (b : Bool)
    → (b ≡ true → 13 ≤ length s)
    → (length (cond b (drop 13 s) s) ≤ length s) × (drop (length s - length (cond b (drop 13 s) s)) s ≡ cond b (drop 13 s) s)
without-case s true h =
    let p : 13 ≤ length s = h refl in
    let e : length s - length (drop 13 s) ≡ 13 = rw length-drop (omega arith) in
    (rw length-drop (omega arith), rw e)
without-case s false h =
    let e : length s - length s ≡ 0 = omega arith in
    (omega arith, rw e)

-- what is left of a name is its end
pub without-rest
    : (s : List ℕ)
    → (length (without android_attr s) ≤ length s) × (drop (length s - length (without android_attr s)) s ≡ without android_attr s)
without-rest s = without-case s (starts_with s android_attr) (starts_with-le s android_attr)

-- what a range from a place to its end takes
pub slice_of : (start n : ℕ) → start + n - start ≡ n
slice_of start n = omega arith

pub stripped-stands
    : (w : Bool) (t area : List ℕ) (start n k : ℕ)
    → start + n ≤ length area
    → is_ascii (take n (drop start area)) ≡ true
    → k ≡ length (without android_attr (take n (drop start area)))
    → Stands w t area (named_by area (Some (start, n))) (System (start + n - k) k)
stripped-stands w t area start n k h ascii e =
    let s = take n (drop start area) in
    let ls : length s ≡ n = length-take-le n (drop start area) (rw length-drop (omega arith)) in
    let q = without-rest s in
    let le : k ≤ n = omega arith in
    let i : n - k ≡ length s - length (without android_attr s) = omega arith in
    let d : drop (n - k) s ≡ without android_attr s = ap (λ (j : ℕ). drop j s) i ∙ q.1 in
    let m : (n - k) + k ≡ n = omega arith in
    let p : take k (drop (n - k) (drop start area)) ≡ drop (n - k) s =
    sym (drop-take (n - k) k (drop start area) (rw length-drop (omega arith))) ∙ ap (λ (j : ℕ). drop (n - k) (take j (drop start area))) m in
    let f : start + (n - k) ≡ start + n - k = omega arith in
    let g : drop (n - k) (drop start area) ≡ drop (start + n - k) area = drop-drop (n - k) start area ∙ ap (λ (j : ℕ). drop j area) f in
    let q : take k (drop (start + n - k) area) ≡ without android_attr s = rw (← g) (p ∙ d) in
    record { same = ap (some false) q; inside = (omega arith, rw q (is_ascii-without android_attr s ascii)) }

-- ---- a string of the pool

module _ (w : Bool) (d : List ℕ) (o : ℕ) where
  pub string_at-outside : length d ≤ o → string_at w d o ≡ cut
  unfolding string_at
  string_at-outside h = rw (le-ltb o (length d) h)

  pub string_at-cut : o < length d → split_of w (drop o d) ≡ None → string_at w d o ≡ cut
  unfolding string_at
  string_at-cut h e = rw (lt-ltb o (length d) h, e)

  pub string_at-content : (at n : ℕ) → o < length d → split_of w (drop o d) ≡ Some (at, n) → string_at w d o ≡ some w (take n (drop at (drop o d)))
  unfolding string_at
  string_at-content at n h e = rw (lt-ltb o (length d) h, e)

-- the data as it is lent, from an offset on
pub data-from : (t : List ℕ) (strings size o : ℕ) → strings + size ≤ length t → o ≤ size
    → drop o (take size (drop strings t)) ≡ take (size - o) (drop (strings + o) t)
data-from t strings size o h p =
    let e : o + (size - o) ≡ size = omega arith in
    let room : o + (size - o) ≤ length (drop strings t) = rw length-drop (omega arith) in
    ap (λ (k : ℕ). drop o (take k (drop strings t))) (sym e)
    ∙ drop-take o (size - o) (drop strings t) room
    ∙ ap (take (size - o)) (drop-drop o strings t)

pub length-data : (t : List ℕ) (strings size : ℕ) → strings + size ≤ length t → length (take size (drop strings t)) ≡ size
length-data t strings size h = length-take-le size (drop strings t) (rw length-drop (omega arith))

-- the same with the length as a range gives it
pub data-slice
    : (w : Bool) (t : List ℕ) (strings size o : ℕ) {r : Option (ℕ × ℕ)}
    → split_of w (take (strings + size - (strings + o)) (drop (strings + o) t)) ≡ r
    → split_of w (take (size - o) (drop (strings + o) t)) ≡ r
data-slice w t strings size o e =
    let p : size - o ≡ strings + size - (strings + o) = omega arith in
    ap (λ (k : ℕ). split_of w (take k (drop (strings + o) t))) p ∙ e

module _ (w : Bool) (t : List ℕ) (strings size o : ℕ) (h : strings + size ≤ length t) where
  pub string-outside : (area : List ℕ) → size ≤ o → Stands w t area (string_at w (take size (drop strings t)) o) Cut
  string-outside area p =
      let e = length-data t strings size h in
      record { same = sym (string_at-outside w (take size (drop strings t)) o (omega arith)); inside = tt }

  pub string-cut
      : (area : List ℕ)
      → o < size
      → split_of w (take (size - o) (drop (strings + o) t)) ≡ None
      → Stands w t area (string_at w (take size (drop strings t)) o) Cut
  string-cut area p s =
      let e = length-data t strings size h in
      let from = data-from t strings size o h (omega arith) in
      record { same = sym (string_at-cut w (take size (drop strings t)) o (omega arith) (rw from s)); inside = tt }

  -- its content ends in the data
  pub string-pool-le : {at n : ℕ} → o < size → split_of w (take (size - o) (drop (strings + o) t)) ≡ Some (at, n) → o + at + n ≤ size
  string-pool-le p s =
      let rest = drop (strings + o) t in
      let lr : length (take (size - o) rest) ≡ size - o = length-take-le (size - o) rest (rw length-drop (omega arith)) in
      let fits = split_of-fits w (take (size - o) rest) s in
      omega arith

  pub string-pool
      : (area : List ℕ) (at n : ℕ)
      → o < size
      → split_of w (take (size - o) (drop (strings + o) t)) ≡ Some (at, n)
      → Stands w t area (string_at w (take size (drop strings t)) o) (Pool (strings + o + at) n)
  string-pool area at n p s =
      let e = length-data t strings size h in
      let rest = drop (strings + o) t in
      let lr : length (take (size - o) rest) ≡ size - o = length-take-le (size - o) rest (rw length-drop (omega arith)) in
      let fits = split_of-fits w (take (size - o) rest) s in
      let from = data-from t strings size o h (omega arith) in
      let c : string_at w (take size (drop strings t)) o ≡ some w (take n (drop at (drop o (take size (drop strings t))))) =
      string_at-content w (take size (drop strings t)) o at n (omega arith) (rw from s) in
      let q : take n (drop at (drop o (take size (drop strings t)))) ≡ take n (drop (strings + o + at) t) =
      rw from (take-drop-part n at (size - o) rest (omega arith) (rw length-drop (omega arith)) ∙ ap (take n) (drop-drop at (strings + o) t)) in
      record { same = ap (some w) (sym q) ∙ sym c; inside = omega arith }
