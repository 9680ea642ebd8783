-- Laws of specs/Inner/Leads.antt and specs/Inner/Forms.antt: a text at the front of a buffer. No contract cites this file.
-- In order: what wrote it (`leads-wrote`, `leads-put`, `leads-none`); the forms of a value's type (`form-..`); the answers (`tells-..`,
-- `named-..`); the whole buffer (`gives-..`).
use Rattle.std.specs.Prelude.{Option, Some, None, is_some, Result, Ok, Err}
use Prim.Native.Nat.{ℕ, ◌+◌, ◌-◌, ◌≤◌, ◌<◌}
use mathlib.Core.Path.{◌≡◌, refl, sym, ap, ◌∙◌}
use mathlib.Core.List.{List, [], ◌∷◌, append-nil}
use mathlib.Core.Bool.{true, false, not, true≢false}
use native.Mathlib.Omega.{arith}
use native.Mathlib.Nat.{zero-add}
use borrow.Author.Tests.{le-leb, lt-leb}
use borrow.Rule.Slice.PartMut.{put_mid, mid_of}
use lib.ListN.{length, take, drop, replicate, length-drop, drop_of_length-le}
use lib.Seq.{sets-eq, take_all, take-append_seam}
use lib.Dec.{leb}
use Rattle.utf.proofs.Filled.{put_text-whole, put_text-length}
use Rattle.errors.specs.declared.Refusal.TheVariants.{NothingFound, TextShort, NoPlainText}
use Rattle.errors.specs.declared.TextState.{TextState}
use Rattle.errors.specs.declared.TextState.TheVariants.{Whole}
use Rattle.digits.specs.Written.{written, Wrote, fitted}
use Rattle.digits.proofs.Written.{length-written, wrote-more, wrote-append}
use Rattle.common.specs.ValueType.{value_type_of}
use Rattle.common.specs.declared.value.ResourceValueType.{ResourceValueType}
use Rattle.common.specs.declared.value.ResourceValueType.TheVariants.{Null, Reference, Attribute, String}
use Rattle.common.specs.declared.value.ResourceValueType.TheVariants.{Float, Dimension, Fraction, DynamicReference}
use Rattle.common.specs.declared.value.ResourceValueType.TheVariants.{DynamicAttribute, Dec, Hex, Boolean}
use Rattle.common.specs.declared.value.ResourceValueType.TheVariants.{ColorArgb8, ColorRgb8, ColorArgb4, ColorRgb4, Unknown}
use Rattle.system_types.specs.Names.{Lent}
use Rattle.text.specs.declared.Head.{Head}
use Rattle.text.specs.Content.{string_of, text_in}
use Rattle.text.specs.Inner.Found.{Wrote as Put}
use Rattle.items.specs.Items.{part_in, items_of, named_in}
use Rattle.items.specs.Values.{Text, nothing, says, is_said, said, attr_text, uncovered_of}
use Rattle.items.specs.Inner.Turns.{run_items, RunOf, Spoken}
use Rattle.items.proofs.TurnLaws.{part_in-le}
use Rattle.items.specs.declared.Run.{Run}
use Rattle.items.specs.declared.Said.{Said}
use Rattle.value_text.specs.Value.{Value, no_name, no_text, shows, string_state, or_plain, reference_by, attribute_by, plain_by, plain_state, named_value, answer_by}
use Rattle.value_text.specs.declared.Told.{Told}
use Rattle.value_text.specs.declared.Told.TheVariants.{Shown, NoName, NoText}
use Rattle.value_text.specs.Inner.Leads.{Leads, Tells, Gives, told_of}
use Rattle.value_text.specs.Inner.Forms.{form_of, form_text, form_state, is_other, is_pool}
use Rattle.value_text.specs.declared.plain.Form.{Form}
use Rattle.value_text.specs.declared.plain.Form.TheVariants as forms
use Rattle.errors.specs.declared.Refusal.{Refusal}
use Rattle.errors.specs.declared.ValueWritten.{ValueWritten}

-- ---- what wrote it

take-written : (s l : List ℕ) → length s ≤ length l → take (length s) (written 0 s l) ≡ s
unfolding written
take-written s l h =
    let f : 0 + length s ≤ length l = omega arith in
    rw (sets-eq s l 0 f, take-append_seam)

pub leads-wrote : {m n : ℕ} {s l k : List ℕ} → Wrote m 0 s l n k → Leads s l n k
leads-wrote {s = s} {l = l} w =
    record {
      count = w.place ∙ zero-add (length s);
      long = ap length w.out ∙ length-written s l 0;
      front = λ h. rw w.out (take-written s l h);
    }

pub leads-put : {n : ℕ} {s l k : List ℕ} → Put s l k n → Leads s l n k
leads-put {s = s} {l = l} w =
    record {
      count = w.count;
      long = ap length w.bytes ∙ put_text-length s l;
      front = λ h. rw (w.bytes, put_text-whole s l h, take-append_seam);
    }

pub leads-none : (l : List ℕ) → Leads [] l 0 l
leads-none l = record { count = refl; long = refl; front = λ h. refl }

pub leads-same : {n : ℕ} {s t l k : List ℕ} → s ≡ t → Leads s l n k → Leads t l n k
leads-same e a = rw (← e) a

-- a part of an area, alone and behind `@`
pub wrote-part :
    {r : ℕ} {s l k : List ℕ} (area : List ℕ) (start n : ℕ) →
    n < 4294967296 →
    s ≡ part_in area start n →
    Wrote (length s) 0 s l r k →
    Wrote 4294967296 0 (part_in area start n) l r k
wrote-part {s = s} area start n h e w =
    let m : length s ≤ n = rw e (part_in-le area start n) in
    wrote-more w e (omega arith)

pub wrote_at :
    {q r : ℕ} {s l k j : List ℕ} (area : List ℕ) (start n : ℕ) →
    n < 4294967296 →
    s ≡ part_in area start n →
    Wrote 1 0 (64 ∷ []) l q k →
    Wrote (length s) q s k r j →
    Wrote 4294967296 0 (64 ∷ part_in area start n) l r j
wrote_at {s = s} area start n h e a b =
    let m : length s ≤ n = rw e (part_in-le area start n) in
    wrote-more (wrote-append a b) (ap (λ (x : List ℕ). 64 ∷ x) e) (omega arith)

-- by what was found for an id
module _ {r : ℕ} {l k : List ℕ} (area : List ℕ) (v : ℕ) {x y : Option (ℕ × ℕ)} (e : x ≡ y) where
  pub wrote-reference : Wrote 4294967296 0 (reference_by area v y) l r k → Wrote 4294967296 0 (reference_by area v x) l r k
  wrote-reference w = rw e w

  pub wrote-attribute : Wrote 4294967296 0 (attribute_by area v y) l r k → Wrote 4294967296 0 (attribute_by area v x) l r k
  wrote-attribute w = rw e w

-- ---- the forms

pub form-said : (h : Head) (t : List ℕ) (lent : Lent) (v : ℕ) (y : ResourceValueType) → said (plain_by h t lent v y) ≡ form_text h t lent v (form_of y)
unfolding plain_by form_text form_of
form-said h t lent v Null = refl
form-said h t lent v Reference = refl
form-said h t lent v Attribute = refl
form-said h t lent v String = refl
form-said h t lent v Float = refl
form-said h t lent v Dimension = refl
form-said h t lent v Fraction = refl
form-said h t lent v DynamicReference = refl
form-said h t lent v DynamicAttribute = refl
form-said h t lent v Dec = refl
form-said h t lent v Hex = refl
form-said h t lent v Boolean = refl
form-said h t lent v ColorArgb8 = refl
form-said h t lent v ColorRgb8 = refl
form-said h t lent v ColorArgb4 = refl
form-said h t lent v ColorRgb4 = refl
form-said h t lent v (Unknown n) = refl

pub form-state : (h : Head) (t : List ℕ) (v : ℕ) (y : ResourceValueType) → form_state h t v (form_of y) ≡ plain_state h t v y
unfolding plain_state form_of
form-state h t v Null = refl
form-state h t v Reference = refl
form-state h t v Attribute = refl
form-state h t v String = refl
form-state h t v Float = refl
form-state h t v Dimension = refl
form-state h t v Fraction = refl
form-state h t v DynamicReference = refl
form-state h t v DynamicAttribute = refl
form-state h t v Dec = refl
form-state h t v Hex = refl
form-state h t v Boolean = refl
form-state h t v ColorArgb8 = refl
form-state h t v ColorRgb8 = refl
form-state h t v ColorArgb4 = refl
form-state h t v ColorRgb4 = refl
form-state h t v (Unknown n) = refl

pub form-other : (h : Head) (t : List ℕ) (lent : Lent) (v : ℕ) (y : ResourceValueType) → is_said (plain_by h t lent v y) ≡ not (is_other (form_of y))
unfolding plain_by form_of
form-other h t lent v Null = refl
form-other h t lent v Reference = refl
form-other h t lent v Attribute = refl
form-other h t lent v String = refl
form-other h t lent v Float = refl
form-other h t lent v Dimension = refl
form-other h t lent v Fraction = refl
form-other h t lent v DynamicReference = refl
form-other h t lent v DynamicAttribute = refl
form-other h t lent v Dec = refl
form-other h t lent v Hex = refl
form-other h t lent v Boolean = refl
form-other h t lent v ColorArgb8 = refl
form-other h t lent v ColorRgb8 = refl
form-other h t lent v ColorArgb4 = refl
form-other h t lent v ColorRgb4 = refl
form-other h t lent v (Unknown n) = refl

-- ---- the answers

pub tells-text : {n u : ℕ} {d : TextState} {s l k : List ℕ} → Leads s l n k → Tells (shows s u d) l (Shown n u d) k
tells-text {u = u} {d = d} a = record { told = ap (λ (m : ℕ). Shown m u d) a.count; long = a.long; front = a.front }

-- a text that is there, and its length
said-text : (u : ℕ) (d : TextState) (a p : Text) → is_said a ≡ true → or_plain u d a p ≡ shows (said a) u Whole
said-text u d nothing p e = let z : ◌≡◌ {A = ℕ} 0 1 = cc in absurd (let y : ⊥ = omega arith in y)
said-text u d (says s) p e = refl

plain-text : (u : ℕ) (d : TextState) (p : Text) → is_said p ≡ true → or_plain u d nothing p ≡ shows (said p) u d
plain-text u d nothing e = let z : ◌≡◌ {A = ℕ} 0 1 = cc in absurd (let y : ⊥ = omega arith in y)
plain-text u d (says s) e = refl

plain-none : (u : ℕ) (d : TextState) (p : Text) → is_said p ≡ false → or_plain u d nothing p ≡ no_text
plain-none u d nothing e = refl
plain-none u d (says s) e = let z : ◌≡◌ {A = ℕ} 0 1 = cc in absurd (let y : ⊥ = omega arith in y)

not-said : (a : Text) → is_said a ≡ false → a ≡ nothing
not-said nothing e = refl
not-said (says s) e = let z : ◌≡◌ {A = ℕ} 0 1 = cc in absurd (let y : ⊥ = omega arith in y)

module _ (h : Head) (t : List ℕ) (lent : Lent) (u v : ℕ) (y : ResourceValueType) {l : List ℕ} where
  pub tells-other : is_other (form_of y) ≡ true → Tells (or_plain u (plain_state h t v y) nothing (plain_by h t lent v y)) l NoText l
  tells-other e =
      let q : is_said (plain_by h t lent v y) ≡ false = form-other h t lent v y ∙ ap not e in
      rw (plain-none u (plain_state h t v y) (plain_by h t lent v y) q) (record { told = refl; long = refl; front = λ p. refl })

  pub tells-plain :
      {n : ℕ} {d : TextState} {k : List ℕ} →
      is_other (form_of y) ≡ false →
      Leads (form_text h t lent v (form_of y)) l n k →
      d ≡ form_state h t v (form_of y) →
      Tells (or_plain u (plain_state h t v y) nothing (plain_by h t lent v y)) l (Shown n u d) k
  tells-plain e a b =
      let q : is_said (plain_by h t lent v y) ≡ true = form-other h t lent v y ∙ ap not e in
      rw (plain-text u (plain_state h t v y) (plain_by h t lent v y) q, b, form-state h t v y) (tells-text (leads-same (sym (form-said h t lent v y)) a))

-- a string of the pool, told
pub tells-string :
    (h : Head) (t : List ℕ) (lent : Lent) (u v : ℕ) (y : ResourceValueType) {l k : List ℕ} {r : Told} →
    is_pool (form_of y) ≡ true →
    Tells (shows (text_in (string_of h t v)) u (string_state (string_of h t v))) l r k →
    Tells (or_plain u (plain_state h t v y) nothing (plain_by h t lent v y)) l r k
unfolding plain_by plain_state form_of
tells-string h t lent u v Null e a = absurd (true≢false (sym e))
tells-string h t lent u v Reference e a = absurd (true≢false (sym e))
tells-string h t lent u v Attribute e a = absurd (true≢false (sym e))
tells-string h t lent u v String e a = a
tells-string h t lent u v Float e a = absurd (true≢false (sym e))
tells-string h t lent u v Dimension e a = absurd (true≢false (sym e))
tells-string h t lent u v Fraction e a = absurd (true≢false (sym e))
tells-string h t lent u v DynamicReference e a = absurd (true≢false (sym e))
tells-string h t lent u v DynamicAttribute e a = absurd (true≢false (sym e))
tells-string h t lent u v Dec e a = absurd (true≢false (sym e))
tells-string h t lent u v Hex e a = absurd (true≢false (sym e))
tells-string h t lent u v Boolean e a = absurd (true≢false (sym e))
tells-string h t lent u v ColorArgb8 e a = absurd (true≢false (sym e))
tells-string h t lent u v ColorRgb8 e a = absurd (true≢false (sym e))
tells-string h t lent u v ColorArgb4 e a = absurd (true≢false (sym e))
tells-string h t lent u v ColorRgb4 e a = absurd (true≢false (sym e))
tells-string h t lent u v (Unknown n) e a = absurd (true≢false (sym e))

-- and what is not one is whole
pub form-whole : (h : Head) (t : List ℕ) (v : ℕ) (f : Form) → is_pool f ≡ false → Whole ≡ form_state h t v f
form-whole h t v forms.Reference e = refl
form-whole h t v forms.Attribute e = refl
form-whole h t v forms.Pool e = absurd (true≢false e)
form-whole h t v forms.Number e = refl
form-whole h t v forms.Word e = refl
form-whole h t v forms.Truth e = refl
form-whole h t v forms.Color e = refl
form-whole h t v forms.Other e = refl

-- the same of a buffer that held something else before
pub tells-behind : {v : Value} {l m k : List ℕ} {r : Told} → length m ≡ length l → Tells v m r k → Tells v l r k
tells-behind e a =
    record { told = a.told; long = a.long ∙ e; front = λ p. a.front (rw e p) }

-- ---- behind the items

-- the items that a name has, as a run
module _ (h : Head) (t : List ℕ) (lent : Lent) (items area name : List ℕ) (kind v : ℕ) (run : Run) (found : RunOf area name items run) where
  pub named-said :
      {l k : List ℕ} {s : Said} {n : ℕ} →
      Spoken area v (run_items items run) l s k →
      s.length ≡ Some n →
      Tells (named_value h t lent items area name kind v) l (Shown n s.uncovered Whole) k
  unfolding named_value
  named-said {l} {k} {s} {n} a e =
      let b = rw (sym found.all) at a in
      let is = named_in area name (items_of items) in
      let q : is_said (attr_text area v is) ≡ true = sym b.some ∙ ap is_some e in
      let w = rw e at b.text in
      rw (said-text (uncovered_of v is) (plain_state h t v (value_type_of kind)) (attr_text area v is) (plain_by h t lent v (value_type_of kind)) q, ← b.uncovered)
      (tells-text (leads-wrote w))

  pub named-plain :
      {l m k : List ℕ} {s : Said} {r : Told} →
      Spoken area v (run_items items run) l s m →
      s.length ≡ None →
      Tells (or_plain s.uncovered (plain_state h t v (value_type_of kind)) nothing (plain_by h t lent v (value_type_of kind))) m r k →
      Tells (named_value h t lent items area name kind v) l r k
  unfolding named_value
  named-plain {l} {m} {k} {s} {r} a e g =
      let b = rw (sym found.all) at a in
      let is = named_in area name (items_of items) in
      let q : attr_text area v is ≡ nothing = not-said (attr_text area v is) (sym b.some ∙ ap is_some e) in
      rw (q, ← b.uncovered) (tells-behind (leads-wrote b.text).long g)

-- ---- the whole buffer

module _ {n u : ℕ} {d : TextState} {s l k : List ℕ} (a : Leads s l n k) (kind : ℕ) where
  -- longer than the buffer
  pub gives-short :
      {x : Result ValueWritten Refusal} (ys : List ℕ) →
      length k < n →
      (x ≡ Err (TextShort n)) × (ys ≡ replicate (length k) 0) →
      Gives (length l) kind (shows s u d) x ys
  unfolding fitted
  gives-short {x} ys p z =
      let c = a.count in
      let b = a.long in
      let q : leb (length s) (length l) ≡ false = lt-leb (length s) (length l) (omega arith) in
      let e : Err (TextShort n) ≡ answer_by (length l) kind (shows s u d) = rw (q, c) in
      record { same = z.0 ∙ e; out = rw q (z.1 ∙ rw b) }

  -- zeros in the part from the end of the text on
  pub gives-text :
      (ys : List ℕ) →
      n ≤ length k →
      ys ≡ replicate (length (mid_of n (length k - n) k)) 0 →
      Gives (length l) kind (shows s u d) (Ok (record { length = n; uncovered = u; state = d })) (put_mid n (length k - n) k ys)
  unfolding fitted
  gives-text ys p z =
      let c = a.count in
      let b = a.long in
      let f : length s ≤ length l = omega arith in
      let i : length (drop n k) ≤ length k - n = omega (arith, length-drop n k) in
      let q : length (take (length k - n) (drop n k)) ≡ length k - n = ap length (take_all (length k - n) (drop n k) i) ∙ length-drop n k in
      let w : take n k ≡ s = rw c (a.front f) in
      record {
        same = rw (le-leb (length s) (length l) f, c);
        out = rw (le-leb (length s) (length l) f, w, drop_of_length-le (drop n k) i, append-nil, z, q, c, b);
      }

-- the answer of what the code told
module _ (n kind : ℕ) {v : Value} {l k ys : List ℕ} {r : Told} (a : Tells v l r k) where
  pub gives-no-name :
      r ≡ NoName →
      n ≡ length l →
      {x : Result ValueWritten Refusal} →
      (x ≡ Err NothingFound) × (ys ≡ replicate (length k) 0) →
      Gives n kind v x ys
  gives-no-name e m {x} z = go v (sym a.told ∙ e)
    where
      go : (w : Value) → told_of w ≡ NoName → Gives n kind w x ys
      go no_name q = record { same = z.0; out = z.1 ∙ rw (a.long, m) }
      go no_text q = let y : ◌≡◌ {A = ℕ} 0 1 = cc in absurd (let c : ⊥ = omega arith in c)
      go (shows s u d) q = let y : ◌≡◌ {A = ℕ} 0 1 = cc in absurd (let c : ⊥ = omega arith in c)

  pub gives-no-text :
      r ≡ NoText →
      n ≡ length l →
      {x : Result ValueWritten Refusal} →
      (x ≡ Err (NoPlainText kind)) × (ys ≡ replicate (length k) 0) →
      Gives n kind v x ys
  gives-no-text e m {x} z = go v (sym a.told ∙ e)
    where
      go : (w : Value) → told_of w ≡ NoText → Gives n kind w x ys
      go no_text q = record { same = z.0; out = z.1 ∙ rw (a.long, m) }
      go no_name q = let y : ◌≡◌ {A = ℕ} 0 1 = cc in absurd (let c : ⊥ = omega arith in c)
      go (shows s u d) q = let y : ◌≡◌ {A = ℕ} 0 1 = cc in absurd (let c : ⊥ = omega arith in c)

  pub gives-shown :
      {len u : ℕ} {d : TextState} →
      r ≡ Shown len u d →
      {x : Result ValueWritten Refusal} →
      ((s m : List ℕ) → Leads s m len k → Gives (length m) 0 (shows s u d) x ys) →
      Gives (length l) kind v x ys
  gives-shown {len} {u} {d} e {x} z = go v refl (sym a.told ∙ e)
    where
      go : (w : Value) → v ≡ w → told_of w ≡ Shown len u d → Gives (length l) kind w x ys
      go no_name i q = let y : ◌≡◌ {A = ℕ} 0 1 = cc in absurd (let c : ⊥ = omega arith in c)
      go no_text i q = let y : ◌≡◌ {A = ℕ} 0 1 = cc in absurd (let c : ⊥ = omega arith in c)
      go (shows s u' d') i q =
          let c : len ≡ length s = cc in
          let j : u' ≡ u = cc in
          let m : d' ≡ d = cc in
          let b : Tells (shows s u' d') l r k = rw i at a in
          let g = z s l (record { count = c; long = b.long; front = b.front }) in
          rw (j, m) (record { same = g.same; out = g.out })
