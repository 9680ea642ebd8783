-- The depth and the open elements: docs/FORMAT.md, W25 to W29. For proofs/Structure/Theorem.antt.
--
--   settled-near     as many elements are open as the depth says, or one more
--   near-second      so with depth 0 there is no second open element (`near_none`), and from depth 2 on there is one; second-some: of two open elements
--   settled-walked   where events leave tables, they are those of a whole walk: none of them refuses
--   second_none      where no note 12 is kept, no second element is open in the end, so that none is dropped
use Prim.Native.Nat.{ℕ, ◌+◌, ◌-◌, ◌≤◌, ◌<◌}
use native.Mathlib.Omega.{arith}
use mathlib.Core.Path.{◌≡◌, refl, sym, ◌∙◌, ap}
use mathlib.Core.List.{List, [], ◌∷◌}
use mathlib.Core.Bool.{Bool, true, false}
use borrow.Author.Tests.{eqb-true, eqb-false}
use lib.ListN.{length}
use lib.Dec.{eqb}
use Rattle.records.specs.Repeats.{Rule}
use Rattle.events.specs.declared.Event.{Event}
use Rattle.events.specs.declared.Event.TheVariants.{Refuse}
use Rattle.walk.specs.Settle.{Room, Tables, going, settle, nothing_yet, closed_in}
use Rattle.walk.specs.Reading.{Dropped, none_dropped, dropped_from, dropped_in}
use Rattle.claims.specs.Counts.{depth_from}
use Rattle.claims.specs.Shape.{count_of_kind}
use Rattle.claims.proofs.Settle.StoreAll.{empty, settled}
use Rattle.claims.proofs.Settle.ByEvent.{idle-still, Goes, settle-in}
use Rattle.claims.proofs.Structure.WalkDepth.{WalkedFile, Ending, refused_at, walked_to}
use Rattle.claims.proofs.Structure.NoteTwelve.{walked-twelve}
use Rattle.claims.proofs.Events.Refusals.{refuse-right}

-- ---- what is open

pub record Near (d : ℕ) (s : List ℕ) : Type 0 where
  pub low : d ≤ length s
  pub high : length s ≤ d + 1

near-closed : (d : ℕ) (s : List ℕ) → Near d s → Near (d - 1) (closed_in s)
near-closed d [] h = record { low = omega (arith, h.low); high = omega arith }
near-closed d (k ∷ []) h = record { low = omega (arith, h.low); high = omega (arith, h.high) }
near-closed d (k ∷ j ∷ s) h = record { low = omega (arith, h.low); high = omega (arith, h.high) }

pub near_none : (s : List ℕ) → Near 0 s → dropped_in s ≡ none_dropped
near_none [] h = refl
near_none (k ∷ []) h = refl
near_none (k ∷ j ∷ s) h = absurd (let y : ⊥ = omega (arith, h.high) in y)

abbrev pub SomeDropped : Dropped → Type 0
SomeDropped none_dropped = ⊥
SomeDropped (dropped_from k) = Unit {0}

pub second-some : (k j : ℕ) (s : List ℕ) → SomeDropped (dropped_in (k ∷ j ∷ s))
second-some k j [] = tt
second-some k j (i ∷ s) = second-some j i s

pub near-second : (d : ℕ) (s : List ℕ) → Near d s → 2 ≤ d → SomeDropped (dropped_in s)
near-second d [] h g = absurd (let y : ⊥ = omega (arith, h.low) in y)
near-second d (k ∷ []) h g = absurd (let y : ⊥ = omega (arith, h.low) in y)
near-second d (k ∷ j ∷ s) h g = second-some k j s

-- the depth so far, which the events to come take to the last one
record NearBy (last : ℕ) (es : List Event) (t : Tables) : Type 0 where
  now : ℕ
  then : depth_from now es ≡ last
  near : Near now t.stack

module _ (rule : Rule) (r : Room) where
  goes : (last : ℕ) → Goes r (NearBy last)
  goes last = record {
    idles = λ t e es i h. record {
      now = h.now;
      then = ap (λ (d : ℕ). depth_from d es) (sym ((idle-still e i).depth h.now)) ∙ h.then;
      near = h.near;
    };
    closes = λ t es h. record { now = h.now - 1; then = h.then; near = near-closed h.now t.stack h.near };
    opens = λ t es n f l g h. record {
      now = h.now + 1;
      then = h.then;
      near = record { low = omega (arith, h.near.low); high = omega (arith, h.near.high) };
    };
    keeps = λ t es p a some g h. record { now = h.now; then = h.then; near = h.near };
    notes = λ t es x d g h. record { now = h.now; then = h.then; near = h.near };
    past = λ t es x d h. record { now = h.now; then = h.then; near = h.near };
  }

  pub settled-near : (es : List Event) (t : Tables) → settle rule r nothing_yet es ≡ going t → Near (depth_from 0 es) t.stack
  settled-near es t e =
      let start : NearBy (depth_from 0 es) es empty = record { now = 0; then = refl; near = record { low = omega arith; high = omega arith } } in
      let h = rw e at (settle-in rule r (NearBy (depth_from 0 es)) (goes (depth_from 0 es)) nothing_yet es start) in
      rw (← h.then) h.near

  -- ---- events that leave tables

  pub settled-walked : (es : List Event) (t : Tables) → Ending es → settle rule r nothing_yet es ≡ going t → WalkedFile es
  settled-walked es t (refused_at a x q) e = absurd (refuse-right (λ x. ⊥) a (Refuse x ∷ []) (rw q at (settled rule r es t e).stay)).0
  settled-walked es t (walked_to w) e = w

-- ---- without note 12

module _ (rule : Rule) (r : Room) (es : List Event) (t : Tables) (ends : Ending es) (out : settle rule r nothing_yet es ≡ going t) where
  pub second_none : 0 < r.cap → ◌≡◌ {A = ℕ} (count_of_kind 12 t.notes) 0 → dropped_in t.stack ≡ none_dropped
  second_none one none = go (eqb (depth_from 0 es) 0) refl
    where
      go : (b : Bool) → eqb (depth_from 0 es) 0 ≡ b → dropped_in t.stack ≡ none_dropped
      go true e = near_none t.stack (rw (eqb-true (depth_from 0 es) 0 e) at (settled-near rule r es t out))
      go false e =
          let kept = ap (count_of_kind 12) (settled rule r es t out).notes in
          let some = walked-twelve es (settled-walked rule r es t ends out) r.cap one (eqb-false (depth_from 0 es) 0 e) in
          absurd (let y : ⊥ = omega (arith, none, kept, some) in y)
