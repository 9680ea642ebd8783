-- Steps of a start that was begun: each makes the first of what is pending. No contract cites this file.
-- In order: gap, size, trailing bytes, the state of the name, the name; the element, behind which come the leading attribute and the attributes (`pending-opened`).
use Prim.Native.Nat.{ℕ, zero, suc, ◌+◌, ◌-◌, ◌*◌, ◌≤◌, ◌<◌}
use native.Mathlib.Omega.{arith}
use mathlib.Core.Path.{◌≡◌, refl, ◌∙◌}
use mathlib.Core.List.{List, ◌++◌, append_assoc}
use mathlib.Core.Bool.{Bool, true, false, cond, not, ◌&&◌}
use borrow.Author.Tests.{eqb-true, ltb-true, eq-eqb, ne_eqb}
use lib.ListN.{length, drop}
use lib.Seq.{drop-drop}
use lib.Dec.{ltb, eqb}
use Rattle.anomaly.specs.declared.ResAnomaly.TheVariants.{AttributeStartShifted, AttributeSizeMismatch, ElementTrailingBytes, DamagedElementName}
use Rattle.text.specs.declared.NameState.{NameState}
use Rattle.text.specs.declared.NameState.TheVariants.{NoText, Invalid, Valid}
use Rattle.head.specs.declared.Opened.{Opened}
use Rattle.head.specs.Head.{PoolThere}
use Rattle.xml_elements.specs.Chunk.{stride_of, attributes_at, trailing_of, start_len}
use Rattle.xml_elements.proofs.Laws.{cond-by}
use Rattle.events.specs.declared.Event.{Event}
use Rattle.events.specs.declared.Event.TheVariants.{Note}
use Rattle.events.specs.declared.Phase.{Phase}
use Rattle.events.specs.declared.Phase.TheVariants.{AtGap, AtSize, AtTrailing, AtShort, AtName, AtNamed, AtOpen, AtLead, AtAttribute}
use Rattle.events.specs.declared.Cursor.{Cursor}
use Rattle.events.specs.Events.{Names, event_if, leading, attribute_event, attributes_of, events_on}
use Rattle.events.specs.Inner.Starts.{from_gap, from_size, from_trailing, from_name, from_named, from_open, from_lead}
use Rattle.events.specs.Inner.Steps.{to_phase, left_next, behind_of, opened_by, moved_by, after_open}
use Rattle.events.specs.Inner.Steps.{to_step, note_if, gap_step, size_step, trailing_step, open_step, named_step, name_step}
use Rattle.events.specs.Inner.Pending.{There, Held, Within, spot_of, behind, pending, rank, steps, event_list}
use Rattle.events.proofs.Model.{event_list-if, event_list-attribute, Goes, goes, goes-if, goes-attribute, attributes_of-step, fit_next, fit_same}
use Rattle.events.proofs.Here.{Here, SteppedBy, made, stays}

module _ (N : Names) (o : Opened) (t b : List ℕ) where
  -- ---- attributes

  -- a cursor at n attributes, the first at the place p: what lies behind them is passed where there is none
  pub pending-attributes : (s : Cursor) (p n : ℕ) → s.left ≡ n → s.phase ≡ left_next n → s.at ≡ p + behind_of s.start n
      → pending N o t b s ≡ attributes_of N n (stride_of s.start) (drop p b) ++
      events_on N (drop (p + n * stride_of s.start + trailing_of s.start) b) (spot_of s)
  unfolding pending attributes_of
  pending-attributes s p zero e f h =
      let z : p + 0 * stride_of s.start + trailing_of s.start ≡ p + trailing_of s.start = omega arith in
      rw (f, h, z)
  pending-attributes s p (suc n) e f h =
      let k : eqb (suc n) 0 ≡ false = ne_eqb (suc n) 0 (λ x. omega arith) in
      let z : s.at ≡ p = h ∙ rw k (omega arith) in
      rw (f, k, e, z)

  -- it stays within
  held-attributes : (s : Cursor) (p n : ℕ) → PoolThere o.end → s.left ≡ n → s.at ≡ p + behind_of s.start n
      → p + n * stride_of s.start + trailing_of s.start ≤ length b → Held o.end (length b) s (left_next n)
  held-attributes s p zero w e h f = w
  held-attributes s p (suc n) w e h f =
      let k : eqb (suc n) 0 ≡ false = ne_eqb (suc n) 0 (λ x. omega arith) in
      let z : s.at ≡ p = h ∙ rw k (omega arith) in
      rw (k, e, z) (w, omega arith, f)

  rank_left : (n : ℕ) → rank (left_next n) ≤ 12
  rank_left n = cond-by (λ (p : Phase). rank p ≤ 12) (eqb n 0) (λ _. omega arith) (λ _. omega arith)

  behind-le : (s : Cursor) (n : ℕ) → behind_of s.start n ≤ trailing_of s.start
  behind-le s n = cond-by (λ (m : ℕ). m ≤ trailing_of s.start) (eqb n 0) (λ _. omega arith) (λ _. omega arith)

  -- ---- behind the element

  module _ (c : Cursor) where
    -- at the attributes of a start that is all there
    pending-opened : There (length b) c
        → pending N o t b (opened_by c) ≡ attributes_of N c.start.attribute_count (stride_of c.start) (drop (attributes_at c.start) (drop c.at b)) ++
        behind N b c
    pending-opened h =
        let s = c.start in
        let d : c.at + attributes_at s + s.attribute_count * stride_of s + trailing_of s ≡ c.at + start_len s = omega arith in
        pending-attributes (opened_by c) (c.at + attributes_at s) s.attribute_count refl refl refl ∙ rw (drop-drop, d, eq-eqb _ _ h.0)

    opened-within : (p : Phase) → Here o b c p → PoolThere o.end → There (length b) c → Within o b (opened_by c)
    opened-within p w q h =
        let s = c.start in
        let d : c.at + attributes_at s + s.attribute_count * stride_of s + trailing_of s ≤ length b = omega (arith, h.1) in
        record {
          short = w.short;
          inside = omega (arith, d, behind-le c s.attribute_count);
          deep = omega (arith, w.deep);
          few = omega (arith, w.few);
          held = held-attributes (opened_by c) (c.at + attributes_at s) s.attribute_count q refl refl d;
        }

    opened-less : There (length b) c → steps b (opened_by c) < 20 * (length b - c.at)
    opened-less h =
        let s = c.start in
        let r : rank (left_next s.attribute_count) ≤ 12 = rank_left s.attribute_count in
        let m : behind_of s s.attribute_count ≤ trailing_of s = behind-le c s.attribute_count in
        let d : c.at + attributes_at s + behind_of s s.attribute_count ≤ length b = omega (arith, h.1) in
        omega arith

    -- the element is out: what follows it is pending
    after_open_lem : (p : Phase) → Here o b c p → PoolThere o.end → There (length b) c
        → (pending N o t b (after_open c) ≡ from_lead N c.start c.starts (drop c.at b) ++ behind N b c) × Within o b (after_open c) ×
        (steps b (after_open c) < 20 * (length b - c.at) + 6)
    unfolding pending from_lead
    after_open_lem p w q h = go (eqb c.starts 0) refl
      where
        go : (x : Bool) → eqb c.starts 0 ≡ x
            → (pending N o t b (cond x (to_phase c AtLead) (opened_by c)) ≡ from_lead N c.start c.starts (drop c.at b) ++ behind N b c) ×
            Within o b (cond x (to_phase c AtLead) (opened_by c)) × (steps b (cond x (to_phase c AtLead) (opened_by c)) < 20 * (length b - c.at) + 6)
        go true e =
            let z : c.starts ≡ 0 = eqb-true _ _ e in
            (rw z, stays N o t b c p AtLead w (q, z, h), omega arith)
        go false e = (pending-opened h ∙ rw e, opened-within p w q h, omega (arith, opened-less h))

    pub lead-step : Here o b c AtLead → SteppedBy N o t b c AtLead (record { event = leading; cur = opened_by c })
    unfolding from_lead
    lead-step w =
        let h = w.held.2 in
        made N o t b c AtLead _ (goes refl) (rw (pending-opened h)) (opened-within AtLead w w.held.0 h) (omega (arith, opened-less h))

    pub open_step_lem : Here o b c AtOpen → SteppedBy N o t b c AtOpen (open_step c 1)
    open_step_lem w =
        let a = after_open_lem AtOpen w w.held.0 w.held.1 in
        made N o t b c AtOpen _ (goes refl) (rw a.0) a.1 a.2

    pub named_step_lem : Here o b c AtNamed → SteppedBy N o t b c AtNamed (named_step c (N.state c.start.name.0))
    unfolding pending from_named from_open
    named_step_lem w = go (N.state c.start.name.0) refl
      where
        go : (s : NameState) → N.state c.start.name.0 ≡ s → SteppedBy N o t b c AtNamed (named_step c s)
        go Valid e =
            let a = after_open_lem AtNamed w w.held.0 w.held.1 in
            made N o t b c AtNamed _ (goes refl) (rw (e, a.0)) a.1 (omega (arith, a.2))
        go Invalid e = made N o t b c AtNamed _ (goes refl) (rw e) (stays N o t b c AtNamed AtOpen w w.held) (omega arith)
        go NoText e = made N o t b c AtNamed _ (goes refl) (rw e) (stays N o t b c AtNamed AtOpen w w.held) (omega arith)

    -- a whole name goes on at once, as behind note 32
    pub name-step : Here o b c AtName → SteppedBy N o t b c AtName (name_step c (N.damage c.start.name.0) (N.state c.start.name.0))
    unfolding pending from_name
    name-step w = go (eqb (N.damage c.start.name.0) 0) refl
      where
        on : SteppedBy N o t b c AtNamed (named_step c (N.state c.start.name.0))
        on = named_step_lem (record { short = w.short; inside = w.inside; deep = w.deep; few = w.few; held = w.held })

        go : (x : Bool) → eqb (N.damage c.start.name.0) 0 ≡ x
            → SteppedBy N o t b c AtName
            (cond x (named_step c (N.state c.start.name.0)) (to_step c (Note (DamagedElementName c.start.name (N.damage c.start.name.0))) AtNamed))
        go true e = record { same = rw e on.same; within = on.within; less = λ g. omega (arith, on.less g); over = λ f. rw e (on.over f) }
        go false e = made N o t b c AtName _ (goes refl) (rw e) (stays N o t b c AtName AtNamed w w.held) (omega arith)

    -- ---- notes 6, 7, 8

    pub gap_step_lem : Here o b c AtGap → SteppedBy N o t b c AtGap (gap_step c)
    unfolding pending from_gap
    gap_step_lem w = go (eqb c.reach 0) refl
      where
        e : Event
        e = Note (AttributeStartShifted c.start.attribute_start)

        y : Bool
        y = ltb 20 c.start.attribute_start

        g : Goes (note_if y e)
        g = goes-if y e refl

        i : event_list (note_if y e) ≡ event_if y e
        i = event_list-if y e refl

        go : (x : Bool) → eqb c.reach 0 ≡ x → SteppedBy N o t b c AtGap (to_step c (note_if y e) (cond x AtShort AtSize))
        go true r =
            let z : eqb c.reach 3 ≡ false = ne_eqb c.reach 3 (λ u. omega (arith, eqb-true c.reach 0 r)) in
            made N o t b c AtGap _ g (rw (i, r, z, append_assoc)) (stays N o t b c AtGap AtShort w tt) (omega arith)
        go false r =
            made N o t b c AtGap _ g (rw (i, r, append_assoc)) (stays N o t b c AtGap AtSize w w.held) (omega arith)

    pub size_step_lem : Here o b c AtSize → SteppedBy N o t b c AtSize (size_step c)
    unfolding pending from_size
    size_step_lem w = go (ltb c.reach 2) refl
      where
        e : Event
        e = Note (AttributeSizeMismatch c.start.attribute_size)

        y : Bool
        y = not (eqb c.start.attribute_count 0) && ltb 20 c.start.attribute_size

        g : Goes (note_if y e)
        g = goes-if y e refl

        i : event_list (note_if y e) ≡ event_if y e
        i = event_list-if y e refl

        go : (x : Bool) → ltb c.reach 2 ≡ x → SteppedBy N o t b c AtSize (to_step c (note_if y e) (cond x AtShort AtTrailing))
        go true r =
            let z : eqb c.reach 3 ≡ false = ne_eqb c.reach 3 (λ u. omega (arith, ltb-true c.reach 2 r)) in
            made N o t b c AtSize _ g (rw (i, r, z, append_assoc)) (stays N o t b c AtSize AtShort w tt) (omega arith)
        go false r =
            made N o t b c AtSize _ g (rw (i, r, append_assoc)) (stays N o t b c AtSize AtTrailing w w.held) (omega arith)

    pub trailing-step : Here o b c AtTrailing → SteppedBy N o t b c AtTrailing (trailing_step c)
    unfolding pending from_trailing
    trailing-step w = go (eqb c.reach 3) refl
      where
        e : Event
        e = Note (ElementTrailingBytes (trailing_of c.start))

        y : Bool
        y = not (eqb (trailing_of c.start) 0)

        g : Goes (note_if y e)
        g = goes-if y e refl

        i : event_list (note_if y e) ≡ event_if y e
        i = event_list-if y e refl

        go : (x : Bool) → eqb c.reach 3 ≡ x → SteppedBy N o t b c AtTrailing (to_step c (note_if y e) (cond x AtName AtShort))
        go true r =
            let u : c.reach ≡ 3 = eqb-true _ _ r in
            made N o t b c AtTrailing _ g (rw (i, r, append_assoc)) (stays N o t b c AtTrailing AtName w (w.held.0, (u, w.held.1.1 u))) (omega arith)
        go false r =
            made N o t b c AtTrailing _ g (rw (i, r, append_assoc)) (stays N o t b c AtTrailing AtShort w tt) (omega arith)

    -- ---- an attribute

    pub attribute-step : Here o b c AtAttribute → SteppedBy N o t b c AtAttribute (record { event = attribute_event N (drop c.at b); cur = moved_by c })
    attribute-step w =
        let s = c.start in
        let h : 0 < c.left = w.held.1 in
        let f : c.at + c.left * stride_of s + trailing_of s ≤ length b = w.held.2 in
        let next = fit_next c.at c.left (stride_of s) (trailing_of s) (length b) h f in
        let m : behind_of s (c.left - 1) ≤ trailing_of s = behind-le c (c.left - 1) in
        let r : rank (left_next (c.left - 1)) ≤ 12 = rank_left (c.left - 1) in
        let inside : c.at + stride_of s + behind_of s (c.left - 1) ≤ length b = omega arith in
        made N o t b c AtAttribute _ (goes-attribute N (drop c.at b))
        (rw (
          attributes_of-step N c.left (stride_of s) (drop c.at b) h,
          pending-attributes (moved_by c) (c.at + stride_of s) (c.left - 1) refl refl refl,
          drop-drop,
          fit_same c.at c.left (stride_of s) (trailing_of s) h,
          event_list-attribute N (drop c.at b),
        ))
        (record {
          short = w.short;
          inside = inside;
          deep = w.deep;
          few = omega (arith, w.few);
          held = held-attributes (moved_by c) (c.at + stride_of s) (c.left - 1) w.held.0 refl refl next;
        })
        (omega arith)
