-- A whole chunk within the front c of a list is read the same whatever follows c: `turn_of-append` of an XML chunk, `turn_of-foreign-append` of a
-- complete foreign one, `attribute_at-append` of an attribute. No contract cites this file.
use Rattle.std.specs.Prelude.{Option, Some, None}
use Prim.Native.Nat.{ℕ, ◌+◌, ◌-◌, ◌≤◌}
use native.Mathlib.Omega.{arith}
use mathlib.Core.Path.{◌≡◌, refl, sym, ◌∙◌, subst}
use mathlib.Core.List.{List, ◌++◌}
use mathlib.Core.Bool.{Bool, true, false, cond}
use borrow.Author.Tests.{le-ltb, eqb-true, eqb-false}
use lib.ListN.{length, length-append}
use lib.Dec.{ltb, eqb}
use Rattle.field.specs.Le.{u16le, u32le}
use Rattle.field.proofs.Laws.{u8le-append, u16le-append, u32le-append}
use Rattle.common.specs.Header.{header_of}
use Rattle.common.specs.declared.ResChunkHeader.{ResChunkHeader}
use Rattle.common.proofs.Laws.{header_of-long, header_of-append}
use Rattle.chunk.specs.Sort.{chunk_sort, foreign_len}
use Rattle.chunk.proofs.Laws.{content_size-whole}
use Rattle.xml_elements.specs.declared.Chunk.{Chunk}
use Rattle.xml_elements.specs.declared.Chunk.TheVariants.{Start, End, Other, Last}
use Rattle.xml_elements.specs.declared.CutChunk.{CutChunk}
use Rattle.xml_elements.specs.declared.CutChunk.TheVariants.{CutHead, CutGap, CutAttributes, CutTrailing, CutEnd, CutOther}
use Rattle.xml_elements.specs.declared.Turn.{Turn}
use Rattle.xml_elements.specs.declared.Turn.TheVariants.{Stop, Foreign, Met, Cut}
use Rattle.xml_elements.specs.Chunk.{start_of, attributes_at, attributes_end, start_len, attribute_at, start_turn, xml_turn, foreign_number, turn_of, len_of, used_of}
use Rattle.xml_elements.proofs.Laws.{turn_of-stop, turn_of-xml, turn_of-foreign, told}

abbrev IsMet : Turn → Type 0
IsMet Stop = ⊥
IsMet (Foreign k a u) = ⊥
IsMet (Met x) = Unit {0}
IsMet (Cut x) = ⊥

-- the cases of a start and of an XML chunk, by their tests
abbrev parts : Bool → Bool → Bool → Bool → List ℕ → Turn
parts a b d e l =
    cond a (Cut CutHead)
    (cond b (Cut (CutGap (start_of l))) (cond d (Cut (CutAttributes (start_of l))) (cond e (Cut (CutTrailing (start_of l))) (Met (Start (start_of l))))))

abbrev kinds : Bool → Bool → Bool → Bool → List ℕ → Turn
kinds a b d e l =
    cond a (Met Last)
    (cond b (start_turn l)
    (cond d (cond (ltb (length l) 24) (Cut CutEnd) (Met End))
    (cond e (cond (ltb (length l) 28) (Cut CutOther) (Met (Other 28))) (cond (ltb (length l) 24) (Cut CutOther) (Met (Other 24))))))

-- ---- XML chunks that are whole

-- c with two endings, read the same where only c is looked at
module _ (c m m' : List ℕ) where
  longer : (n : ℕ) → n ≤ length c → ltb (length (c ++ m')) n ≡ false
  longer n h = le-ltb (length (c ++ m')) n (rw length-append (omega arith))

  both16 : (k : ℕ) → k + 2 ≤ length c → u16le (c ++ m') k ≡ u16le (c ++ m) k
  both16 k h = u16le-append c m' k h ∙ sym (u16le-append c m k h)

  both32 : (k : ℕ) → k + 4 ≤ length c → u32le (c ++ m') k ≡ u32le (c ++ m) k
  both32 k h = u32le-append c m' k h ∙ sym (u32le-append c m k h)

  pub header_of-same : {h : ResChunkHeader} → header_of (c ++ m) ≡ Some h → 8 ≤ length c → header_of (c ++ m') ≡ Some h
  unfolding header_of
  header_of-same {h} w q =
      let more : 8 ≤ length (c ++ m) = rw length-append (omega arith) in
      let w' = rw (le-ltb (length (c ++ m)) 8 more) at w in
      rw (longer 8 q, both16 0 (omega arith), both16 2 (omega arith), both32 4 (omega arith)) w'

  pub start_of-same : 36 ≤ length c → start_of (c ++ m') ≡ start_of (c ++ m)
  unfolding start_of
  start_of-same h =
      rw (
        both32 4 (omega arith),
        both32 8 (omega arith),
        both32 20 (omega arith),
        both16 24 (omega arith),
        both16 26 (omega arith),
        both16 28 (omega arith),
      )

  module _ (x : Chunk) (h : len_of x ≤ length c) where
    not-met : {A : Type 0} {T : Turn} → T ≡ Met x → (IsMet T → ⊥) → A
    not-met e n = absurd (n (subst IsMet (sym e) tt))

    within : {T : Turn} → T ≡ Met x → used_of 0 T ≤ length c
    within e = rw e h

    start_turn-same : start_turn (c ++ m) ≡ Met x → start_turn (c ++ m') ≡ Met x
    unfolding start_turn
    start_turn-same e =
        go (ltb (length (c ++ m)) 36) (ltb (length (c ++ m)) (attributes_at (start_of (c ++ m)))) (ltb (length (c ++ m)) (attributes_end (start_of (c ++ m))))
        (ltb (length (c ++ m)) (start_len (start_of (c ++ m)))) e
      where
        go : (a b d f : Bool) → parts a b d f (c ++ m) ≡ Met x → start_turn (c ++ m') ≡ Met x
        go true b d f e = not-met e (λ z. z)
        go false true d f e = not-met e (λ z. z)
        go false false true f e = not-met e (λ z. z)
        go false false false true e = not-met e (λ z. z)
        go false false false false e =
            let n : start_len (start_of (c ++ m)) ≤ length c = within e in
            let k : 36 ≤ length c = omega arith in
            rw (
              longer 36 k,
              start_of-same k,
              longer (attributes_at (start_of (c ++ m))) (omega arith),
              longer (attributes_end (start_of (c ++ m))) (omega arith),
              longer (start_len (start_of (c ++ m))) n,
            ) e

    -- a chunk of n bytes that is cut if they are not there
    fixed_same : (n : ℕ) (y : CutChunk) (z : Chunk) → len_of z ≡ n → (b : Bool) → cond b (Cut y) (Met z) ≡ Met x
        → cond (ltb (length (c ++ m')) n) (Cut y) (Met z) ≡ Met x
    fixed_same n y z e true q = not-met q (λ i. i)
    fixed_same n y z e false q = rw (longer n (rw e at (within q))) q

    xml_turn-same : (kind : ℕ) → 16 ≤ length c → xml_turn (c ++ m) kind ≡ Met x → xml_turn (c ++ m') kind ≡ Met x
    unfolding xml_turn
    xml_turn-same kind k e =
        let long : ltb (length (c ++ m)) 16 ≡ false = le-ltb (length (c ++ m)) 16 (rw length-append (omega arith)) in
        rw (longer 16 k) (go (eqb kind 0x17f) (eqb kind 0x102) (eqb kind 0x103) (eqb kind 0x104) (rw long at e))
      where
        go : (a b d f : Bool) → kinds a b d f (c ++ m) ≡ Met x → kinds a b d f (c ++ m') ≡ Met x
        go true b d f e = e
        go false true d f e = start_turn-same e
        go false false true f e = fixed_same 24 CutEnd End refl (ltb (length (c ++ m)) 24) e
        go false false false true e = fixed_same 28 CutOther (Other 28) refl (ltb (length (c ++ m)) 28) e
        go false false false false e = fixed_same 24 CutOther (Other 24) refl (ltb (length (c ++ m)) 24) e

    -- THE LAW: a whole XML chunk within c is the same turn whatever follows c
    pub turn_of-append : turn_of (c ++ m) ≡ Met x → turn_of (c ++ m') ≡ Met x
    turn_of-append e = go (header_of (c ++ m)) refl
      where
        k : 16 ≤ length c
        k = omega (arith, (told (c ++ m) e).0)

        sorted : (r : ResChunkHeader) → header_of (c ++ m) ≡ Some r → (b : Bool) → eqb (chunk_sort r) 2 ≡ b → turn_of (c ++ m') ≡ Met x
        sorted r q true p =
            let s : chunk_sort r ≡ 2 = eqb-true _ _ p in
            turn_of-xml (c ++ m') (header_of-same q (omega (arith, k))) s ∙ xml_turn-same r.kind k (sym (turn_of-xml (c ++ m) q s) ∙ e)
        sorted r q false p = not-met (sym (turn_of-foreign (c ++ m) q (eqb-false _ _ p)) ∙ e) (λ z. z)

        go : (r : Option ResChunkHeader) → header_of (c ++ m) ≡ r → turn_of (c ++ m') ≡ Met x
        go None q = not-met (sym (turn_of-stop (c ++ m) q) ∙ e) (λ z. z)
        go (Some r) q = sorted r q (eqb (chunk_sort r) 2) refl

-- an attribute within c
pub attribute_at-append : (c m : List ℕ) → 20 ≤ length c → attribute_at (c ++ m) ≡ attribute_at c
unfolding attribute_at
attribute_at-append c m h =
    rw (u32le-append c m 0 (omega arith), u32le-append c m 4 (omega arith), u8le-append c m 15 (omega arith), u32le-append c m 16 (omega arith))

-- ---- foreign chunks that are complete

-- the bytes c of a foreign chunk with its own size, whatever follows them
pub turn_of-foreign-append : (c m : List ℕ) {h : ResChunkHeader} → header_of c ≡ Some h → (chunk_sort h ≡ 2 → ⊥) → h.size ≡ length c
    → turn_of (c ++ m) ≡ Foreign (chunk_sort h) (foreign_number h) (length c)
unfolding foreign_len
turn_of-foreign-append c m {h} w n q =
    let long : 8 ≤ length c = header_of-long c w in
    let e = turn_of-foreign (c ++ m) (header_of-append c m w) n in
    let u : foreign_len (length (c ++ m)) h ≡ length c =
    rw (content_size-whole (length (c ++ m) - 8) h.size (rw (length-append, q) (omega arith)), q) (omega arith) in
    rw u at e
