-- What was found, read back. No contract cites this file.
-- In order: a part lies inside (`inside-..`); what a place stands for, by the case, its part as a range gives it (`partOf-..`);
-- whether there is a text (`is_found-text`, `has_text-in`, `has_text-past`); two texts (`sameText-..`); lent bytes (`isText-..`).
use Rattle.std.specs.Prelude.{Option, Some, None}
use Prim.Native.Nat.{ℕ, ◌+◌, ◌-◌, ◌≤◌, ◌<◌, min}
use native.Mathlib.Omega.{arith}
use mathlib.Core.Path.{◌≡◌, refl, sym, ap, ◌∙◌}
use mathlib.Core.List.{List, []}
use mathlib.Core.Bool.{Bool, true, false, cond, ◌&&◌}
use borrow.Author.Tests.{ltb-true, ltb-false}
use lib.ListN.{length, take, drop, get_or, length-take, length-drop, get_or-eq_default}
use lib.Seq.{get_or-take, get_or-drop, length-take-le}
use lib.Dec.{ltb}
use Rattle.records.specs.Limits.{file_limit}
use Rattle.utf.specs.Text.{text_of, put_text, eq_bytes, is_sound, all_sound, steps_after, whole}
use Rattle.utf.specs.Plain.{is_ascii}
use Rattle.utf.proofs.Filled.{put_text-nil}
use Rattle.utf.proofs.Laws.{text_of-nil, text_of-whole, text_of-sound, text_of-ascii, text_of-length-le, damage_of-whole}
use Rattle.utf.proofs.Equal.{eq_bytes-refl, eq_bytes-true}
use Rattle.utf.proofs.Ascii.{is_ascii-at}
use Rattle.utf.proofs.AsciiText.{ascii_text-sound}
use Rattle.res_string_pool.specs.Pool.{offset_of}
use Rattle.res_string_pool.specs.Content.{split_of}
use Rattle.system_types.specs.Names.{Lent}
use Rattle.text.specs.declared.Head.{Head}
use Rattle.text.specs.declared.Found.{Found}
use Rattle.text.specs.declared.Found.TheVariants.{Nothing, Cut, System, Pool}
use Rattle.text.specs.Content.{Content, none, cut, some, system_of, split_by, string_at, data_of, string_of, or_else, content_of, text_in, has_text}
use Rattle.text.specs.Content.{same_text, is_text, damage_in}
use Rattle.text.specs.Inner.Found.{part_of, Inside, is_found, ascii_in, Wrote}
use Rattle.text.proofs.Index.{string_of-in, string_of-past}
use Rattle.text.proofs.Parts.{slice_of}

-- ---- by the case

module _ (t area : List ℕ) {f : Found} {at n : ℕ} where
  pub inside-system : Inside t area f → f ≡ System at n → at + n ≤ length area
  inside-system i e = let q : (at + n ≤ length area) × (is_ascii (take n (drop at area)) ≡ true) = rw e at i in q.0

  -- a system name is plain
  pub inside-plain : Inside t area f → f ≡ System at n → is_ascii (take n (drop at area)) ≡ true
  inside-plain i e = let q : (at + n ≤ length area) × (is_ascii (take n (drop at area)) ≡ true) = rw e at i in q.1

  pub inside-pool : Inside t area f → f ≡ Pool at n → at + n ≤ length t
  inside-pool i e = rw e at i

module _ (w : Bool) (t area : List ℕ) {f : Found} where
  pub part_of-cut : f ≡ Cut → part_of w t area f ≡ cut
  part_of-cut e = rw e

  pub part_of-system : {at n : ℕ} → f ≡ System at n → part_of w t area f ≡ some false (take (at + n - at) (drop at area))
  part_of-system {at} {n} e = rw (e, slice_of at n)

  pub part_of-pool : {at n : ℕ} → f ≡ Pool at n → part_of w t area f ≡ some w (take (at + n - at) (drop at t))
  part_of-pool {at} {n} e = rw (e, slice_of at n)

-- ---- whether there is a text

pub is_found-text : (w : Bool) (t area : List ℕ) (f : Found) → is_found f ≡ has_text (part_of w t area f)
is_found-text w t area Nothing = refl
is_found-text w t area Cut = refl
is_found-text w t area (System at n) = refl
is_found-text w t area (Pool at n) = refl

has_text-or_else : (a b : Content) → has_text b ≡ true → has_text (or_else a b) ≡ true
has_text-or_else none b e = e
has_text-or_else cut b e = refl
has_text-or_else (some w s) b e = refl

has_text-or_else-none : (a : Content) → has_text (or_else a none) ≡ has_text a
has_text-or_else-none none = refl
has_text-or_else-none cut = refl
has_text-or_else-none (some w s) = refl

has_text-split : (w : Bool) (d : List ℕ) (b : Bool) (s : Option (ℕ × ℕ)) → has_text (cond b (split_by w d s) cut) ≡ true
has_text-split w d true None = refl
has_text-split w d true (Some (at, n)) = refl
has_text-split w d false s = refl

has_text-string : (w : Bool) (d : List ℕ) (o : ℕ) → has_text (string_at w d o) ≡ true
unfolding string_at
has_text-string w d o = has_text-split w (drop o d) (ltb o (length d)) (split_of w (drop o d))

module _ (h : Head) (t : List ℕ) (lent : Lent) (i : ℕ) where
  -- where the pool has a string there is a text
  pub has_text-in : i < h.count → has_text (content_of h t lent i) ≡ true
  unfolding content_of
  has_text-in p =
      let d = data_of h t in
      let o = offset_of (drop h.offsets t) i in
      let e : has_text (string_of h t i) ≡ true = ap has_text (string_of-in h t i p) ∙ has_text-string h.utf16 d o in
      has_text-or_else (system_of h t lent i) (string_of h t i) e

  -- past the pool a system name alone
  pub has_text-past : h.count ≤ i → has_text (content_of h t lent i) ≡ has_text (system_of h t lent i)
  unfolding content_of
  has_text-past p =
      ap (λ (b : Content). has_text (or_else (system_of h t lent i) b)) (string_of-past h t i p)
      ∙ has_text-or_else-none (system_of h t lent i)

-- ---- two texts, and lent bytes

and-false : (b : Bool) → (b && false) ≡ false
and-false true = refl
and-false false = refl

pub same_text-none : (a : Content) → same_text a none ≡ false
same_text-none a = and-false (has_text a)

-- a text is its own, and no text is not
pub same_text-self : (a : Content) → same_text a a ≡ has_text a
same_text-self none = refl
same_text-self cut = eq_bytes-refl []
same_text-self (some w s) = eq_bytes-refl (text_of w s)

-- an index is the same as itself where it has a text, whatever was found for it
pub same_text-index : (w : Bool) (t area : List ℕ) (f : Found) (c : Content) → part_of w t area f ≡ c → is_found f ≡ same_text c (part_of w t area f)
same_text-index w t area f c e = rw (← e) (is_found-text w t area f ∙ sym (same_text-self (part_of w t area f)))

-- an empty text is that of no bytes
pub same_text-cut : (a : Content) (w : Bool) → is_text a (text_of w []) ≡ same_text a cut
same_text-cut a w = rw (text_of-nil w)

pub is_text-cut : (w : Bool) (s : List ℕ) → eq_bytes (text_of w []) s ≡ is_text cut s
is_text-cut w s = rw (text_of-nil w)

-- bytes that are UTF-8 are their own text
pub is_text-sound : (a : Content) (s : List ℕ) → is_sound false s ≡ true → is_text a (text_of false s) ≡ is_text a s
is_text-sound a s e = rw (text_of-whole s e)

-- every byte of a part is a byte of the whole
pub part-lt : (t : List ℕ) (at n : ℕ) → ((i : ℕ) → get_or t i 0 < 256) → (i : ℕ) → get_or (take n (drop at t)) i 0 < 256
part-lt t at n b i = go (ltb i n) refl
  where
    go : (c : Bool) → ltb i n ≡ c → get_or (take n (drop at t)) i 0 < 256
    go true e = rw (get_or-take n (drop at t) i 0 (ltb-true i n e), get_or-drop at t i 0) (b (at + i))
    go false e =
        let p : length (take n (drop at t)) ≤ i = rw length-take (omega (arith, ltb-false i n e)) in
        rw (get_or-eq_default (take n (drop at t)) 0 p) (omega arith)

-- what comes out as a text is UTF-8
sound-part
    : (w : Bool) (t area : List ℕ) (f : Found)
    → ((i : ℕ) → get_or t i 0 < 256)
    → ((i : ℕ) → get_or area i 0 < 256)
    → is_sound false (text_in (part_of w t area f)) ≡ true
unfolding all_sound steps_after
sound-part w t area Nothing p q = refl
sound-part w t area Cut p q = refl
sound-part w t area (System at n) p q = text_of-sound false (take n (drop at area)) (part-lt area at n q)
sound-part w t area (Pool at n) p q = text_of-sound w (take n (drop at t)) (part-lt t at n p)

-- bytes that are no UTF-8 are no text's
pub is_text-unsound
    : (w : Bool) (t area : List ℕ) (f : Found) (s : List ℕ)
    → ((i : ℕ) → get_or t i 0 < 256)
    → ((i : ℕ) → get_or area i 0 < 256)
    → is_sound false s ≡ false
    → is_text (part_of w t area f) s ≡ false
is_text-unsound w t area f s p q e = go (eq_bytes (text_in (part_of w t area f)) s) refl
  where
    go : (b : Bool) → eq_bytes (text_in (part_of w t area f)) s ≡ b → is_text (part_of w t area f) s ≡ false
    go true r =
        let same = eq_bytes-true (text_in (part_of w t area f)) s r in
        let sound : is_sound false s ≡ true = rw (← same) (sound-part w t area f p q) in
        absurd (let z : ◌≡◌ {A = ℕ} 0 1 = cc in let y : ⊥ = omega arith in y)
    go false r = ap (λ (b : Bool). has_text (part_of w t area f) && b) r ∙ and-false (has_text (part_of w t area f))

-- ---- a system name is its own text

pub text_of-system : (s : List ℕ) → is_ascii s ≡ true → text_of false s ≡ s
text_of-system s e = text_of-ascii s (is_ascii-at s e)

pub text_in-system
    : (w : Bool) (t area : List ℕ) {f : Found} {at n : ℕ}
    → Inside t area f
    → f ≡ System at n
    → n ≡ length (text_in (part_of w t area f))
text_in-system w t area {f} {at} {n} i e =
    let q : (at + n ≤ length area) × (is_ascii (take n (drop at area)) ≡ true) = rw e at i in
    let l : length (take n (drop at area)) ≡ n = length-take-le n (drop at area) (rw length-drop (omega arith)) in
    sym (ap (λ (g : Found). length (text_in (part_of w t area g))) e ∙ ap length (text_of-system (take n (drop at area)) q.1) ∙ l)

-- ---- a text that is written, by its equal x; its length is told whole where a usize holds it

pub Wrote-by
    : (x : List ℕ) {y before after : List ℕ} {n : ℕ}
    → x ≡ y
    → length y ≤ 0xffffffffffffffff
    → (n ≡ min (length x) 0xffffffffffffffff) × (after ≡ put_text x before)
    → Wrote y before after n
Wrote-by x {y} {before} e l p = record { count = omega (arith, p.0, ap length e); bytes = p.1 ∙ ap (λ (z : List ℕ). put_text z before) e }

pub wrote_none : {y : List ℕ} (before : List ℕ) → [] ≡ y → Wrote y before before 0
wrote_none before e = rw (← e) (record { count = refl; bytes = sym (put_text-nil before) })

-- the text of a part of no more bytes than a file has
pub text_of-held : (w : Bool) (s : List ℕ) {y : List ℕ} → text_of w s ≡ y → length s ≤ file_limit → length y ≤ 0xffffffffffffffff
text_of-held w s e l = omega (arith, text_of-length-le w s, ap length e)

-- ---- a text of ASCII

-- and it is whole
pub ascii-whole : (c : Content) → ascii_in c ≡ true → damage_in c ≡ whole
ascii-whole none e = refl
ascii-whole cut e = let z : ◌≡◌ {A = ℕ} 0 1 = cc in absurd (let y : ⊥ = omega arith in y)
ascii-whole (some w s) e = damage_of-whole w s (ascii_text-sound w s e)
