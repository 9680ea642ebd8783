-- `main_activities::scan_filter` meets its contract: each child in turn, up to the first record that is no longer inside.
-- Invariant: what is known of the children before k.
use Prim.Native.Nat.{ℕ}
use mathlib.Core.Path.{◌≡◌, subst}
use native.Mathlib.Omega.{arith}
use Rattle.system_types.specs.Names.{lends}
use Rattle.main_activities.specs.Activities.{tree_of}
use Rattle.main_activities.specs.Inner.Pass.{Filtering}
use Rattle.main_activities.proofs.Laws.{filtering-start, filtering-step, filtering-end, rest_out, rest_end}
use Rattle.main_activities.proofs.scan_filter.Goals as goal

pub loop-k-init : goal.loop-k-init
loop-k-init c =
    let a = c.args in
    let w = tree_of a.h a.t.now (lends a.names.now a.area.now) a.items.now a.item_area.now a.nodes.now
    a.attributes.now a.count in
    filtering-start w a.f c.requires.1

pub parent_at-requires : goal.parent_at-requires
parent_at-requires c = omega (arith, c.requires.0.fits)

pub returns-then-parent_at-f : goal.returns-then-parent_at-f
returns-then-parent_at-f c =
    let a = c.args in
    let l = c.loop-k in
    let w = tree_of a.h a.t.now (lends a.names.now a.area.now) a.items.now a.item_area.now a.nodes.now
    a.attributes.now a.count in
    filtering-end w a.f (rest_out w a.f l.k (omega arith) (omega (arith, c.parent_at.ensures, c.if-parent_at-f.true))) l.invariant

pub is_main_child-m-requires : goal.is_main_child-m-requires
is_main_child-m-requires c = (c.requires.0, omega arith)

pub is_launcher_child-l-requires : goal.is_launcher_child-l-requires
is_launcher_child-l-requires c = (c.requires.0, omega arith)

pub loop-k-preserved : goal.loop-k-preserved
loop-k-preserved c =
    let a = c.args in
    let l = c.loop-k in
    let w = tree_of a.h a.t.now (lends a.names.now a.area.now) a.items.now a.item_area.now a.nodes.now
    a.attributes.now a.count in
    filtering-step w a.f (omega arith) (omega (arith, c.parent_at.ensures, c.if-parent_at-f.false)) c.is_main_child-m.ensures
    c.is_launcher_child-l.ensures l.invariant

pub returns : goal.returns
returns c =
    let a = c.args in
    let l = c.loop-k in
    let w = tree_of a.h a.t.now (lends a.names.now a.area.now) a.items.now a.item_area.now a.nodes.now
    a.attributes.now a.count in
    let all : l.k ≡ a.count = omega arith in
    filtering-end w a.f (rest_end w a.f a.count (omega arith))
    (subst (λ (x : ℕ). Filtering w a.f x l.main l.launcher) all l.invariant)
