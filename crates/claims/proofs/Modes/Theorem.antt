-- What the first mode keeps is what the second keeps, without what it merges: docs/FORMAT.md, W22, W23, B16. No contract cites this file.
--
--   same-trans        texts that are equal to one are equal
--   left-attributes   what a success leaves of its attributes; all_grown: they are grown from all events
--   mode-merged       THE THEOREM: the attributes that two successful readings leave
use Rattle.std.specs.Prelude.{Ok}
use Prim.Native.Nat.{ℕ, ◌*◌, ◌≤◌}
use native.Mathlib.Omega.{arith}
use mathlib.Core.Path.{◌≡◌, sym, ◌∙◌, ap}
use mathlib.Core.List.{List}
use mathlib.Core.Bool.{Bool, true, ◌&&◌}
use lib.ListN.{length, take}
use lib.Seq.{take_at, length-take-le}
use Rattle.utf.specs.Text.{eq_bytes}
use Rattle.utf.proofs.Equal.{eq_bytes-true, eq_bytes-refl}
use Rattle.utf.proofs.Tables.{both_true}
use Rattle.anomaly.specs.declared.Note.{Note as NoteOf}
use Rattle.errors.specs.declared.ReadCounts.{ReadCounts}
use Rattle.system_types.specs.Names.{Lent}
use Rattle.text.specs.Content.{Content, content_of, has_text, text_in, same_text, same_name}
use Rattle.text.specs.declared.Head.{Head}
use Rattle.head.specs.Head.{opened_of, tables_in, body_in}
use Rattle.events.specs.declared.Event.{Event}
use Rattle.events.specs.Events.{names_in, file_events}
use Rattle.records.specs.Words.{attribute_width, merged, apart}
use Rattle.records.specs.Repeats.{Rule, by_prefix}
use Rattle.walk.specs.Settle.{Room}
use Rattle.walk.specs.Reading.{Reading, attributes_kept, reading, room_in, Reads}
use Rattle.claims.specs.Modes.{Merges}
use Rattle.claims.proofs.Settle.TableGrowth.{bare, grown}
use Rattle.claims.proofs.Settle.StoreAll.{empty, settled}
use Rattle.claims.proofs.Structure.Tables.{Shaped, settled-shaped, kept_in}
use Rattle.claims.proofs.Settle.Success.{Success, success}
use Rattle.claims.proofs.Calls.Readings.{left-reading}
use Rattle.claims.proofs.Modes.MergedEvents.{merge_all, merged-events}
use Rattle.claims.proofs.Modes.TablesBeside.{TablesBeside, tables-none, tables-all, tables-kept}

-- texts that are equal to one are equal
same-trans : (h : Head) (t : List ℕ) (lent : Lent) (i j k : ℕ) → same_name h t lent i j ≡ true → same_name h t lent j k ≡ true → same_name h t lent i k ≡ true
same-trans h t lent i j k e f = go (content_of h t lent i) (content_of h t lent j) (content_of h t lent k) e f
  where
    go : (a b c : Content) → same_text a b ≡ true → same_text b c ≡ true → same_text a c ≡ true
    go a b c x y =
        let x₁ = both_true (has_text a) (has_text b && eq_bytes (text_in a) (text_in b)) x in
        let y₁ = both_true (has_text b) (has_text c && eq_bytes (text_in b) (text_in c)) y in
        let x₂ = both_true (has_text b) (eq_bytes (text_in a) (text_in b)) x₁.1 in
        let y₂ = both_true (has_text c) (eq_bytes (text_in b) (text_in c)) y₁.1 in
        let z : text_in a ≡ text_in c = eq_bytes-true (text_in a) (text_in b) x₂.1 ∙ eq_bytes-true (text_in b) (text_in c) y₂.1 in
        rw (x₁.0, y₂.0, z) (eq_bytes-refl (text_in c))

-- what a success leaves of its attributes
module _ (r : Room) (f : List ℕ) (lent : Lent) (c : ReadCounts) (s : Success r f lent c) where
  abbrev h : Head
  h = (opened_of f).head

  abbrev es : List Event
  es = file_events (names_in r.mode h (tables_in f h) lent) (opened_of f) (tables_in f h) (body_in f h)

  abbrev by : Rule
  by = by_prefix (same_name h (tables_in f h) lent)

  shaped : Shaped r s.tables
  shaped = rw s.settles at (settled-shaped r by es)

  left-attributes : take (attribute_width * c.attributes) (reading r f lent).attributes
      ≡ take (attribute_width * attributes_kept s.tables) s.tables.attributes
  left-attributes =
      let k = kept_in r s.tables shaped in
      let l : attribute_width * attributes_kept s.tables ≤ length s.tables.attributes = omega (arith, k.attributes, shaped.attributes) in
      let e : c.attributes ≡ attributes_kept s.tables = sym (ap (λ (d : ReadCounts). d.attributes) s.counts) in
      ap (λ (n : ℕ). take (attribute_width * n) (reading r f lent).attributes) e
      ∙ ap (λ (x : Reading). take (attribute_width * attributes_kept s.tables) x.attributes) s.whole
      ∙ take_at (take (attribute_width * attributes_kept s.tables) s.tables.attributes) _ (attribute_width * attributes_kept s.tables)
      (length-take-le (attribute_width * attributes_kept s.tables) s.tables.attributes l)

  all_grown : bare s.tables ≡ grown by (bare empty) es
  all_grown = (settled by r es s.tables s.settles).tree

module _ (f : List ℕ) (lent : Lent) (ns ats : List ℕ) (os : List NoteOf) (cap : ℕ) (c : ReadCounts) (ns₁ ats₁ : List ℕ) (os₁ : List NoteOf)
    (first : Reads f lent ns ats os cap merged (Ok c) ns₁ ats₁ os₁) (ns' ats' : List ℕ) (os' : List NoteOf) (cap' : ℕ) (c' : ReadCounts)
    (ns₂ ats₂ : List ℕ) (os₂ : List NoteOf) (second : Reads f lent ns' ats' os' cap' apart (Ok c') ns₂ ats₂ os₂) where
  abbrev r₁ : Room
  r₁ = room_in ns ats os cap merged

  abbrev r₂ : Room
  r₂ = room_in ns' ats' os' cap' apart

  s₁ : Success r₁ f lent c
  s₁ = success r₁ f lent c (sym (ap (λ (x : Reading). x.answer) (left-reading f lent ns ats os cap merged (Ok c) ns₁ ats₁ os₁ first)))

  s₂ : Success r₂ f lent c'
  s₂ = success r₂ f lent c' (sym (ap (λ (x : Reading). x.answer) (left-reading f lent ns' ats' os' cap' apart (Ok c') ns₂ ats₂ os₂ second)))

  abbrev H : Head
  H = (opened_of f).head

  abbrev T : List ℕ
  T = tables_in f H

  abbrev same : ℕ → ℕ → Bool
  same = same_name H T lent

  tables-beside : TablesBeside same (same-trans H T lent) (bare s₁.tables) (bare s₂.tables)
  tables-beside =
      let b = body_in f H in
      let es₂ = file_events (names_in apart H T lent) (opened_of f) T b in
      let e₁ : bare s₁.tables ≡ grown (by_prefix same) (bare empty) (merge_all es₂) =
      all_grown r₁ f lent c s₁ ∙ ap (grown (by_prefix same) (bare empty)) (sym (merged-events H T lent (opened_of f) b)) in
      let e₂ : bare s₂.tables ≡ grown (by_prefix same) (bare empty) es₂ = all_grown r₂ f lent c' s₂ in
      rw (e₁, e₂) (tables-all same (same-trans H T lent) es₂ (bare empty) (bare empty) (tables-none same (same-trans H T lent)))

  -- THE THEOREM
  pub mode-merged : Merges (take (attribute_width * c.attributes) ats₁) (take (attribute_width * c'.attributes) ats₂)
  mode-merged =
      let sh = shaped r₂ f lent c' s₂ in
      let e₁ : take (attribute_width * c.attributes) ats₁ ≡ take (attribute_width * attributes_kept s₁.tables) s₁.tables.attributes =
      ap (take (attribute_width * c.attributes)) first.attributes ∙ left-attributes r₁ f lent c s₁ in
      let e₂ : take (attribute_width * c'.attributes) ats₂ ≡ take (attribute_width * attributes_kept s₂.tables) s₂.tables.attributes =
      ap (take (attribute_width * c'.attributes)) second.attributes ∙ left-attributes r₂ f lent c' s₂ in
      rw (e₁, e₂)
      (tables-kept same (same-trans H T lent) (bare s₁.tables) (bare s₂.tables) tables-beside sh.n sh.nodes sh.stack)
