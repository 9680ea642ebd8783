-- Laws of specs/Content.antt, for the crates above. No contract cites this file.
-- In order: a text looks at nothing behind the head's tables (`content_of-append`); no text is no name (`is_name-none`); a system
-- name is its own text (`text_in-named`).
use Rattle.std.specs.Prelude.{Option, Some, None, Ok}
use Prim.Native.Nat.{ℕ, ◌+◌, ◌*◌, ◌≤◌, ◌<◌}
use native.Mathlib.Omega.{arith}
use mathlib.Core.Path.{◌≡◌, refl, sym, ap, ◌∙◌}
use mathlib.Core.List.{List, ◌++◌}
use mathlib.Core.Bool.{Bool, true, false}
use borrow.Author.Tests.{ltb-true, ltb-false}
use lib.ListN.{length, take, drop, length-drop}
use lib.Seq.{take-append-le, drop-append-le}
use lib.Dec.{ltb}
use Rattle.system_types.specs.Names.{Lent, names_of, system_name, without, android_attr}
use Rattle.system_types.proofs.Laws.{system_name-of-good}
use Rattle.system_types.proofs.Prefix.{is_ascii-without}
use Rattle.resource_map.specs.Map.{id_of}
use Rattle.resource_map.proofs.Laws.{id_of-append}
use Rattle.res_string_pool.specs.Pool.{offset_of}
use Rattle.res_string_pool.proofs.Offsets.{offset_of-append}
use Rattle.text.specs.declared.Head.{Head}
use Rattle.text.specs.Content.{Content, none, cut, some, named_by, system_of, string_at, data_of, string_of, content_of, raw_of, text_in, has_text}
use Rattle.text.specs.Content.{is_name}
use Rattle.text.specs.Inner.Found.{Fits}
use Rattle.text.proofs.Index.{string_of-past, string_of-in, system_of-past, system_of-in}
use Rattle.text.proofs.Read.{text_of-system}

-- ---- a text looks at nothing behind the head's tables

module _ (c m : List ℕ) (lent : Lent) (h : Head) (fits : Fits c h) (i : ℕ) where
  system_of-append : system_of h (c ++ m) lent i ≡ system_of h c lent i
  system_of-append = go (ltb i h.ids) refl
    where
      go : (b : Bool) → ltb i h.ids ≡ b → system_of h (c ++ m) lent i ≡ system_of h c lent i
      go true t =
          let p : i < h.ids = ltb-true i h.ids t in
          let room : 4 * i + 4 ≤ length (drop h.map c) = rw length-drop (omega arith) in
          let e : id_of (drop h.map (c ++ m)) i ≡ id_of (drop h.map c) i =
          rw (drop-append-le h.map c m (omega arith)) (id_of-append (drop h.map c) m i room) in
          system_of-in h (c ++ m) lent i p ∙ ap (λ (id : ℕ). named_by lent.area (system_name id lent.names)) e ∙ sym (system_of-in h c lent i p)
      go false t =
          let p = ltb-false i h.ids t in
          system_of-past h (c ++ m) lent i p ∙ sym (system_of-past h c lent i p)

  string_of-append : string_of h (c ++ m) i ≡ string_of h c i
  string_of-append = go (ltb i h.count) refl
    where
      data-same : data_of h (c ++ m) ≡ data_of h c
      data-same =
          rw (drop-append-le h.strings c m (omega arith))
          (take-append-le h.size (drop h.strings c) m (rw length-drop (omega arith)))

      go : (b : Bool) → ltb i h.count ≡ b → string_of h (c ++ m) i ≡ string_of h c i
      go true t =
          let p : i < h.count = ltb-true i h.count t in
          let room : 4 * i + 4 ≤ length (drop h.offsets c) = rw length-drop (omega arith) in
          let e : offset_of (drop h.offsets (c ++ m)) i ≡ offset_of (drop h.offsets c) i =
          rw (drop-append-le h.offsets c m (omega arith)) (offset_of-append (drop h.offsets c) m i room) in
          string_of-in h (c ++ m) i p
          ∙ ap (λ (d : List ℕ). string_at h.utf16 d (offset_of (drop h.offsets (c ++ m)) i)) data-same
          ∙ ap (string_at h.utf16 (data_of h c)) e
          ∙ sym (string_of-in h c i p)
      go false t =
          let p = ltb-false i h.count t in
          string_of-past h (c ++ m) i p ∙ sym (string_of-past h c i p)

  pub content_of-append : content_of h (c ++ m) lent i ≡ content_of h c lent i
  unfolding content_of
  content_of-append = rw (system_of-append, string_of-append)

-- ---- no text is no name

pub is_name-none : (c : Content) → has_text c ≡ false → is_name c ≡ false
is_name-none none e = refl
is_name-none cut e = refl
is_name-none (some w s) e = let z : ◌≡◌ {A = ℕ} 0 1 = cc in absurd (let y : ⊥ = omega arith in y)

-- ---- a system name is its own text

module _ (h : Head) (t : List ℕ) (lent : Lent) (good : names_of lent ≡ (Ok tt)) (i : ℕ) where
  named : (l : Option (ℕ × ℕ)) (id : ℕ) → system_name id lent.names ≡ l → text_in (named_by lent.area l) ≡ raw_of (named_by lent.area l)
  named None id e = refl
  named (Some (start, n)) id e =
      let q = system_name-of-good lent id start n good e in
      text_of-system (without android_attr (take n (drop start lent.area))) (is_ascii-without android_attr (take n (drop start lent.area)) q.2)

  pub text_in-named : text_in (system_of h t lent i) ≡ raw_of (system_of h t lent i)
  text_in-named = go (ltb i h.ids) refl
    where
      id : ℕ
      id = id_of (drop h.map t) i

      go : (b : Bool) → ltb i h.ids ≡ b → text_in (system_of h t lent i) ≡ raw_of (system_of h t lent i)
      go true b = rw (system_of-in h t lent i (ltb-true i h.ids b)) (named (system_name id lent.names) id refl)
      go false b = rw (system_of-past h t lent i (ltb-false i h.ids b))
