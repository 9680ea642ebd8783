-- Laws of specs/Inner/Turns.antt: the items of an attribute one after the other. No contract cites this file.
-- In order: a name's length; the items left of a run (`run-..`); one item of a flag (`turned-..`) and all of them (`going-..`); the
-- first item with a value (`valued-..`); what all of them say (`spoken-..`). Which items are those of a name: proofs/RunLaws.antt.
use Rattle.std.specs.Prelude.{Option, Some, None, unwrap_or}
use Rattle.std.specs.Bool.{then_some}
use Rattle.std.specs.Option.{is_some as is_there}
use Prim.Native.Nat.{ℕ, suc, ◌+◌, ◌-◌, ◌*◌, ◌≤◌, ◌<◌}
use mathlib.Core.Path.{◌≡◌, refl, sym, ap, ◌∙◌}
use mathlib.Core.List.{List, [], ◌∷◌, ◌++◌}
use mathlib.Core.Bool.{Bool, true, false, cond, ◌||◌, true≢false}
use native.Mathlib.Omega.{arith}
use native.Mathlib.Numerals.{add-one}
use borrow.Author.Tests.{eq-eqb, ne_eqb}
use lib.ListN.{length, length-take}
use lib.Bits.{bit_xor}
use Rattle.digits.specs.Written.{Wrote}
use Rattle.digits.proofs.Written.{wrote_none, wrote-more, wrote-append, Left, left-first, left-piece, left-none}
use Rattle.items.specs.declared.Item.{Item}
use Rattle.items.specs.declared.Flags.{Flags}
use Rattle.items.specs.declared.Said.{Said}
use Rattle.items.specs.Items.{item_at, items_from, part_in, item_name_of, enum_of}
use Rattle.items.specs.Flags.{takes, left_after, taken, left_of, bit_sum, bar, joined_from, joined}
use Rattle.items.specs.Values.{enum_text, flag_text, is_said, said, attr_text, uncovered_of}
use Rattle.items.specs.Inner.Turns.{is_some, Turned, Put, Spoken}
use Rattle.items.proofs.FlagLaws.{bit_sum-le, bit_sum-some, bit_sum-apart, takes-true}

-- ---- lengths

pub part_in-le : (area : List ℕ) (start n : ℕ) → length (part_in area start n) ≤ n
part_in-le area start n = rw length-take (omega arith)

pub bar-le : (some : Bool) → length (bar some) ≤ 1
bar-le true = omega arith
bar-le false = omega arith

-- a part of that length at most
pub name-le : (area : List ℕ) (i : Item) {s : List ℕ} → s ≡ item_name_of area i → i.name_len < 4294967296 → length s ≤ 4294967296
name-le area i e h = rw e (omega (arith, part_in-le area i.name i.name_len))

-- a name of an item, behind the place where `|` may stand
pub wrote-name :
    {p q r : ℕ} {l k j s : List ℕ} (area : List ℕ) (i : Item) (some : Bool) →
    i.name_len < 4294967296 →
    s ≡ item_name_of area i →
    Wrote 1 p (bar some) l q k →
    Wrote (length s) q s k r j →
    Wrote 4294967296 p (bar some ++ item_name_of area i) l r j
wrote-name {s = s} area i some h e a b =
    let m : length s ≤ i.name_len = rw e (part_in-le area i.name i.name_len) in
    wrote-more (wrote-append a b) (ap (λ (x : List ℕ). bar some ++ x) e) (omega arith)

-- ---- the items left

module _ (w : List ℕ) (k end : ℕ) where
  pub run_step : k < end → items_from w k (end - k) ≡ item_at w k ∷ items_from w (k + 1) (end - (k + 1))
  unfolding items_from
  run_step p = let e : end - k ≡ suc (end - (k + 1)) = omega arith in rw (e, add-one k)

  pub run_end : end ≤ k → items_from w k (end - k) ≡ []
  unfolding items_from
  run_end p = let e : end - k ≡ 0 = omega arith in rw e

-- ---- one item of a flag

module _ (area : List ℕ) (i : Item) (st : Flags) (l l' : List ℕ) {b : Bool} (e : b ≡ takes st.left i.value) where
  pub turned-name :
      {at : ℕ} →
      b ≡ true →
      Wrote 4294967296 st.at (bar st.some ++ item_name_of area i) l at l' →
      Turned area i st l (record { at = at; left = bit_xor st.left i.value; some = true }) l'
  turned-name t w = let f : takes st.left i.value ≡ true = sym e ∙ t in record { left = rw f; some = rw f; wrote = rw f w }

  pub turned_none : b ≡ false → Turned area i st l st l
  turned_none t =
      let f : takes st.left i.value ≡ false = sym e ∙ t in
      record { left = rw f; some = rw f; wrote = rw f (wrote_none 4294967296 st.at l) }

-- what an item changes in what is left to be said
pub record Changes (area : List ℕ) (i : Item) (left : ℕ) (some b : Bool) (is : List Item) : Type 0 where
  pub says :
      joined_from area some (taken left (i ∷ is))
      ≡ cond b (bar some ++ item_name_of area i) [] ++ joined_from area (b || some) (taken (cond b (bit_xor left i.value) left) is)
  pub leaves : left_of left (i ∷ is) ≡ left_of (cond b (bit_xor left i.value) left) is
  pub any : (some || is_some (taken left (i ∷ is))) ≡ ((b || some) || is_some (taken (cond b (bit_xor left i.value) left) is))

or-true : (b : Bool) → (b || true) ≡ true
or-true true = refl
or-true false = refl

or-false : (b : Bool) → (b || false) ≡ b
or-false true = refl
or-false false = refl

changes :
    (area : List ℕ) (i : Item) (left : ℕ) (some : Bool) (is : List Item) (b : Bool) →
    takes left i.value ≡ b →
    Changes area i left some b is
unfolding taken left_of joined_from
changes area i left some is false f =
    let z : left_after left i.value ≡ left = rw f in
    record { says = rw f; leaves = ap (λ (x : ℕ). left_of x is) z; any = rw f }
changes area i left some is true f =
    let z : left_after left i.value ≡ bit_xor left i.value = rw f in
    record { says = rw f; leaves = ap (λ (x : ℕ). left_of x is) z; any = rw f (or-true some) }

-- ---- all of them

pub record Going (area : List ℕ) (n : ℕ) (all : List Item) (p₀ : ℕ) (l₀ : List ℕ) (rest : List Item) (st : Flags) (l : List ℕ) : Type 0 where
  pub text : Left p₀ (joined area (taken n all)) l₀ st.at (joined_from area st.some (taken st.left rest)) l
  pub left : left_of st.left rest ≡ left_of n all
  pub some : (st.some || is_some (taken st.left rest)) ≡ is_some (taken n all)
  pub room : st.at + 4294967296 * bit_sum 32 st.left ≤ p₀ + 4294967296 * bit_sum 32 n
  pub low : st.left < 4294967296

module _ (area : List ℕ) (n : ℕ) (all : List Item) (p₀ : ℕ) (l₀ : List ℕ) where
  pub going-first :
      {rest : List Item} →
      rest ≡ all →
      n < 4294967296 →
      Going area n all p₀ l₀ rest (record { at = p₀; left = n; some = false }) l₀
  going-first e h =
      rw e (record { text = left-first p₀ (joined area (taken n all)) l₀; left = refl; some = refl; room = omega arith; low = h })

  pub going-near : {rest : List Item} {st : Flags} {l : List ℕ} → Going area n all p₀ l₀ rest st l → st.at ≤ p₀ + 137438953472
  going-near g = omega (arith, g.room, bit_sum-le 32 n)

  -- one item more
  module _ (i : Item) (is : List Item) {st r : Flags} {l l' : List ℕ} where
    going_next :
        Going area n all p₀ l₀ (i ∷ is) st l →
        Turned area i st l r l' →
        Going area n all p₀ l₀ is r l'
    going_next g t = go (takes st.left i.value) refl
      where
        go : (b : Bool) → takes st.left i.value ≡ b → Going area n all p₀ l₀ is r l'
        go b e =
            let d = changes area i st.left st.some is (takes st.left i.value) refl in
            let m = room b e in
            record {
              text = rw (t.left, t.some) (left-piece g.text d.says t.wrote);
              left = rw t.left (sym d.leaves ∙ g.left);
              some = rw (t.left, t.some) (sym d.any ∙ g.some);
              room = m.0;
              low = m.1;
            }
          where
            room :
                (b : Bool) →
                takes st.left i.value ≡ b →
                (r.at + 4294967296 * bit_sum 32 r.left ≤ p₀ + 4294967296 * bit_sum 32 n) × (r.left < 4294967296)
            room true f =
                let k = takes-true st.left i.value f in
                let x : r.left ≡ st.left - i.value = t.left ∙ rw f k.less in
                let y = bit_sum-apart 32 st.left i.value k.part in
                let z = bit_sum-some 32 i.value (omega (arith, k.fits, g.low)) k.some in
                rw x (omega (arith, g.room, t.wrote.near, y, z), omega (arith, g.low))
            room false f =
                let x : r.left ≡ st.left = t.left ∙ rw f in
                let y : r.at ≡ st.at + 0 = t.wrote.place ∙ rw f in
                rw x (omega (arith, g.room, y), g.low)

    pub going_step :
        {rest : List Item} {j : Item} →
        rest ≡ i ∷ is →
        j ≡ i →
        Going area n all p₀ l₀ rest st l →
        Turned area j st l r l' →
        Going area n all p₀ l₀ is r l'
    going_step e q g t = going_next (rw e at g) (rw q at t)

  pub going_done : {rest : List Item} {st : Flags} {l : List ℕ} → rest ≡ [] → Going area n all p₀ l₀ rest st l → Put area n all p₀ l₀ st l
  unfolding taken joined_from left_of
  going_done {rest} {st} {l} e g =
      let h = going-near g in
      let g' = rw e at g in
      record {
        text = left-none 137438953472 g'.text refl h;
        left = g'.left;
        some = sym (or-false st.some) ∙ g'.some;
      }

-- ---- the first item with a value

module _ (v : ℕ) (i : Item) (is : List Item) {j : Item} (q : j ≡ i) where
  pub valued-here : j.value ≡ v → enum_of v (i ∷ is) ≡ Some i
  unfolding enum_of
  valued-here e = let f : i.value ≡ v = rw q at e in rw (eq-eqb i.value v f)

  pub valued-next : (j.value ≡ v → ⊥) → enum_of v (i ∷ is) ≡ enum_of v is
  unfolding enum_of
  valued-next e = let f : i.value ≡ v → ⊥ = rw q at e in rw (ne_eqb i.value v f)

-- ---- what all of them say

said-flags : (area : List ℕ) (is : List Item) → said (flag_text area is) ≡ joined area is
unfolding joined_from
said-flags area [] = refl
said-flags area (i ∷ is) = refl

is_said-flags : (area : List ℕ) (is : List Item) → is_said (flag_text area is) ≡ is_some is
is_said-flags area [] = refl
is_said-flags area (i ∷ is) = refl

there-told : (b : Bool) (n : ℕ) → is_there (then_some b n) ≡ b
there-told true n = refl
there-told false n = refl

-- where no name was taken, the place is the front
wrote-told :
    {n : ℕ} {l l' : List ℕ} (area : List ℕ) (is : List Item) (b : Bool) →
    b ≡ is_some is →
    Wrote 137438953472 0 (joined area is) l n l' →
    Wrote 137438953472 0 (joined area is) l (unwrap_or (then_some b n) 0) l'
unfolding joined_from
wrote-told area is true e w = w
wrote-told area [] false e w = record { place = refl; near = omega arith; out = w.out }
wrote-told area (i ∷ is) false e w = absurd (true≢false (sym e))

pub spoken-none :
    (area : List ℕ) (v : ℕ) (l : List ℕ) {is : List Item} →
    is ≡ [] →
    Spoken area v is l (record { length = None; uncovered = 0 }) l
unfolding attr_text uncovered_of
spoken-none area v l e = rw e (record { text = wrote_none 137438953472 0 l; some = refl; uncovered = refl })

module _
    (area : List ℕ) (v : ℕ) (i : Item) (js : List Item) {is : List Item} {head : Item}
    (first : is ≡ i ∷ js)
    (same : head ≡ i)
    {l l' : List ℕ}
  where
    pub spoken-enum :
        {n : ℕ} {f : Option Item} →
        head.kind ≡ 0 →
        f ≡ enum_of v is →
        Wrote 4294967296 0 (enum_text area v f) l n l' →
        Spoken area v is l (record { length = Some n; uncovered = 0 }) l'
    unfolding attr_text uncovered_of
    spoken-enum h e w =
        let k : i.kind ≡ 0 = rw same at h in
        let w' = rw (e, first) at w in
        rw first
        (record {
          text = rw (eq-eqb i.kind 0 k) (wrote-more w' refl (omega arith));
          some = rw (eq-eqb i.kind 0 k);
          uncovered = rw (eq-eqb i.kind 0 k);
        })

    pub spoken-flags :
        {st : Flags} {r : Said} →
        (head.kind ≡ 0 → ⊥) →
        Put area v is 0 l st l' →
        (r.length ≡ then_some st.some st.at) × (r.uncovered ≡ bit_sum 32 st.left) →
        Spoken area v is l r l'
    unfolding attr_text uncovered_of
    spoken-flags {st} h p q =
        let k : i.kind ≡ 0 → ⊥ = rw same at h in
        let p' = rw first at p in
        rw first
        (record {
          text = rw (ne_eqb i.kind 0 k, q.0, said-flags area (taken v (i ∷ js))) (wrote-told area (taken v (i ∷ js)) st.some p'.some p'.text);
          some = rw (ne_eqb i.kind 0 k, is_said-flags area (taken v (i ∷ js))) (ap is_there q.0 ∙ there-told st.some st.at ∙ p'.some);
          uncovered = rw (ne_eqb i.kind 0 k) (q.1 ∙ ap (bit_sum 32) p'.left);
        })
