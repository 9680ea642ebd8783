-- The text of an index by its parts. No contract cites this file.
-- In order: a pool string (`string_of-past`, `string_of-in`), a system name (`system_of-past`, `system_of-in`), the one before the
-- other (`content_of-system`, `content_of-string`).
use Rattle.std.specs.Prelude.{Some, None}
use Prim.Native.Nat.{ℕ, ◌+◌, ◌-◌, ◌*◌, ◌≤◌, ◌<◌}
use native.Mathlib.Nat.{le_of_eq}
use mathlib.Core.Path.{◌≡◌, refl, sym, ap, ◌∙◌}
use mathlib.Core.List.{List}
use mathlib.Core.Bool.{Bool}
use borrow.Author.Tests.{lt-ltb, le-ltb}
use lib.ListN.{length, take, drop, length-drop}
use lib.Seq.{take_all}
use Rattle.field.specs.Le.{u32le}
use Rattle.system_types.specs.Names.{Lent, system_name}
use Rattle.resource_map.specs.Map.{id_of}
use Rattle.res_string_pool.specs.Pool.{offset_of}
use Rattle.res_string_pool.proofs.Offsets.{offset_of-drop}
use Rattle.text.specs.declared.Head.{Head}
use Rattle.text.specs.declared.Found.{Found}
use Rattle.text.specs.declared.Found.TheVariants.{Nothing, Cut, System, Pool}
use Rattle.text.specs.Content.{none, named_by, system_of, string_at, string_of, data_of, content_of}
use Rattle.text.specs.Inner.Found.{Fits, Stands}

module _ (h : Head) (t : List ℕ) (i : ℕ) where
  pub string_of-past : h.count ≤ i → string_of h t i ≡ none
  unfolding string_of
  string_of-past p = rw (le-ltb i h.count p)

  pub string_of-in : i < h.count → string_of h t i ≡ string_at h.utf16 (data_of h t) (offset_of (drop h.offsets t) i)
  unfolding string_of
  string_of-in p = rw (lt-ltb i h.count p)

  pub string-past : (area : List ℕ) → h.count ≤ i → Stands h.utf16 t area (string_of h t i) Nothing
  string-past area p = record { same = sym (string_of-past p); inside = tt }

  -- with o the offset as it is read
  pub string-in
      : (area : List ℕ) (r : Found) (o : ℕ)
      → i < h.count
      → o ≡ u32le t (h.offsets + 4 * i)
      → Stands h.utf16 t area (string_at h.utf16 (data_of h t) o) r
      → Stands h.utf16 t area (string_of h t i) r
  string-in area r o p e s = let q : offset_of (drop h.offsets t) i ≡ o = offset_of-drop t h.offsets i ∙ sym e in rw (string_of-in p, q) s

  -- an id as it is read from the bytes that are lent for it
  pub map-slice : {id : ℕ} → Fits t h → id ≡ id_of (take (length t - h.map) (drop h.map t)) i → id ≡ id_of (drop h.map t) i
  map-slice f e =
      let p : length (drop h.map t) ≤ length t - h.map = le_of_eq (length-drop h.map t) in
      e ∙ ap (λ (l : List ℕ). id_of l i) (take_all (length t - h.map) (drop h.map t) p)

module _ (h : Head) (t : List ℕ) (lent : Lent) (i : ℕ) where
  pub system_of-past : h.ids ≤ i → system_of h t lent i ≡ none
  unfolding system_of
  system_of-past p = rw (le-ltb i h.ids p)

  pub system_of-in : i < h.ids → system_of h t lent i ≡ named_by lent.area (system_name (id_of (drop h.map t) i) lent.names)
  unfolding system_of
  system_of-in p = rw (lt-ltb i h.ids p)

  pub system-past : h.ids ≤ i → Stands h.utf16 t lent.area (system_of h t lent i) Nothing
  system-past p = record { same = sym (system_of-past p); inside = tt }

  pub system-missing
      : {id : ℕ}
      → i < h.ids
      → id ≡ id_of (drop h.map t) i
      → system_name id lent.names ≡ None
      → Stands h.utf16 t lent.area (system_of h t lent i) Nothing
  system-missing p e m =
      let q : system_name (id_of (drop h.map t) i) lent.names ≡ None = rw (← e) m in
      record { same = sym (system_of-in p ∙ ap (named_by lent.area) q); inside = tt }

  pub system-name
      : {id start n : ℕ} {r : Found}
      → i < h.ids
      → id ≡ id_of (drop h.map t) i
      → system_name id lent.names ≡ Some (start, n)
      → Stands h.utf16 t lent.area (named_by lent.area (Some (start, n))) r
      → Stands h.utf16 t lent.area (system_of h t lent i) r
  system-name {id} {start} {n} p e m s =
      let q : system_name (id_of (drop h.map t) i) lent.names ≡ Some (start, n) = rw (← e) m in
      record { same = s.same ∙ sym (system_of-in p ∙ ap (named_by lent.area) q); inside = s.inside }

  -- a system name goes first
  pub content_of-system
      : (w : Bool) (r : Found)
      → (r ≡ Nothing → ⊥)
      → Stands w t lent.area (system_of h t lent i) r
      → Stands w t lent.area (content_of h t lent i) r
  unfolding content_of
  content_of-system w Nothing e s = absurd (e refl)
  content_of-system w Cut e s = record { same = rw (← s.same); inside = s.inside }
  content_of-system w (System at n) e s = record { same = rw (← s.same); inside = s.inside }
  content_of-system w (Pool at n) e s = record { same = rw (← s.same); inside = s.inside }

  -- without one, the pool's string
  pub content_of-string
      : (w : Bool) (r : Found)
      → Stands w t lent.area (system_of h t lent i) Nothing
      → Stands w t lent.area (string_of h t i) r
      → Stands w t lent.area (content_of h t lent i) r
  unfolding content_of
  content_of-string w r n s = record { same = rw (← n.same) s.same; inside = s.inside }
