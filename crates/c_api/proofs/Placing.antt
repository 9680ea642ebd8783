-- Laws of specs/Place.antt: what was found, told in numbers, is the content of the index. No contract cites this file.
-- In order: a part of the bytes behind the header (`part-behind`), what a place of each sort tells (`tells-..`), an open file
-- (`place-open`) and a closed one (`place-closed`).
use Rattle.std.specs.Prelude.{Ok, Err}
use Prim.Native.Nat.{ℕ, ◌+◌, ◌≤◌}
use native.Mathlib.Omega.{arith}
use mathlib.Core.Path.{◌≡◌, refl, sym, ap, ◌∙◌}
use mathlib.Core.List.{List}
use mathlib.Core.Bool.{Bool, true, false, not}
use borrow.Author.Tests.{ltb-true, ltb-false, leb-true, leb-false}
use lib.ListN.{length, take, drop, length-take, length-drop}
use lib.Seq.{drop-drop, take_all}
use lib.Dec.{eqb, ltb, leb}
use Rattle.errors.specs.declared.Refusal.{Refusal}
use Rattle.system_types.specs.Names.{Lent}
use Rattle.text.specs.declared.Found.{Found}
use Rattle.text.specs.declared.Found.TheVariants.{Nothing, Cut, System, Pool}
use Rattle.text.specs.declared.Head.{Head}
use Rattle.text.specs.Content.{Content, none, content_of, raw_of}
use Rattle.text.specs.Inner.Found.{part_of, Inside, Stands}
use Rattle.text.proofs.Parts.{take-drop-part}
use Rattle.head.specs.Head.{tables_in, head_len}
use Rattle.head.specs.Ask.{open_of, content_asked, content_answer}
use Rattle.head.proofs.Cases.{opened_of-small}
use Rattle.head.proofs.Questions.{open_of-open, content-open, content-closed}
use Rattle.c_api.specs.declared.content.AxmlContentAnswer.{AxmlContentAnswer}
use Rattle.c_api.specs.Place.{slice_of, is_there, AsksContent}
use Rattle.c_api.specs.Inner.Placed.{place_of}

-- ---- a part of the bytes behind the file's header is a part of the file

part-of-front : (n at m : ℕ) (l : List ℕ) → at + n ≤ length (take m l) → take n (drop at (take m l)) ≡ take n (drop at l)
part-of-front n at m l h = go (leb m (length l)) refl
  where
    go : (b : Bool) → leb m (length l) ≡ b → take n (drop at (take m l)) ≡ take n (drop at l)
    go true e = take-drop-part n at m l (omega (arith, h, length-take m l)) (leb-true m (length l) e)
    go false e = ap (λ (k : List ℕ). take n (drop at k)) (take_all m l (omega (arith, leb-false m (length l) e)))

module _ (f : List ℕ) (m at n : ℕ) (h : at + n ≤ length (take m (drop 8 f))) where
  behind-fits : 8 ≤ length f → 8 + at + n ≤ length f
  behind-fits p = omega (arith, h, p, length-take m (drop 8 f), length-drop 8 f)

  part-behind : take n (drop (8 + at) f) ≡ take n (drop at (take m (drop 8 f)))
  part-behind = ap (take n) (sym (drop-drop at 8 f)) ∙ sym (part-of-front n at m (drop 8 f) h)

-- ---- what a place tells

-- with c the content that it stands for
pub record Tells (f area : List ℕ) (c : Content) (r : AxmlContentAnswer) : Type 0 where
  pub known : r.slice ≤ 2
  pub there : not (eqb r.slice 0) ≡ is_there c
  pub inside : r.start + r.length ≤ length (slice_of f area r.slice)
  pub bytes : take r.length (drop r.start (slice_of f area r.slice)) ≡ raw_of c

tells : (w : Bool) (f area : List ℕ) (m : ℕ) → 8 ≤ length f → (g : Found) → Inside (take m (drop 8 f)) area g → Tells f area (part_of w (take m (drop 8 f)) area g) (place_of g)
tells w f area m l Nothing h = record { known = omega arith; there = refl; inside = omega arith; bytes = refl }
tells w f area m l Cut h = record { known = omega arith; there = refl; inside = omega arith; bytes = refl }
tells w f area m l (System at n) h = record { known = omega arith; there = refl; inside = h.0; bytes = refl }
tells w f area m l (Pool at n) h = record { known = omega arith; there = refl; inside = behind-fits f m at n h l; bytes = part-behind f m at n h }

-- ---- by whether the file is open

module _ (f : List ℕ) (lent : Lent) (i : ℕ) where
  asks_of : {c : Content} {r : AxmlContentAnswer} → content_asked f lent i ≡ c → raw_of c ≡ content_answer f lent i → Tells f lent.area c r
      → AsksContent f lent i r
  asks_of e q t = record { known = t.known; there = t.there ∙ ap is_there (sym e); inside = t.inside; bytes = t.bytes ∙ q }

  -- a file that is open has its header
  open-long : {h : Head} → open_of f lent ≡ Ok h → 8 ≤ length f
  open-long e = go (ltb (length f) 8) refl
    where
      go : (b : Bool) → ltb (length f) 8 ≡ b → 8 ≤ length f
      go true p =
          let s = opened_of-small f (ltb-true (length f) 8 p) in
          let w = (open_of-open f lent e).whole in
          let z : ◌≡◌ {A = ℕ} 0 1 = cc in
          absurd (let y : ⊥ = omega arith in y)
      go false p = ltb-false (length f) 8 p

  pub place-open
      : {h : Head} {t : List ℕ} {g : Found} {r : AxmlContentAnswer}
      → open_of f lent ≡ Ok h
      → t ≡ tables_in f h
      → Stands h.utf16 t lent.area (content_of h t lent i) g
      → r ≡ place_of g
      → AsksContent f lent i r
  place-open {h} {t} {g} {r} e q s p =
      let s' = rw q at s in
      let asked : content_asked f lent i ≡ content_of h (tables_in f h) lent i = rw e in
      rw p
      (asks_of asked (content-open f lent i e refl)
      (rw (← s'.same) (tells h.utf16 f lent.area (head_len h) (open-long e) g s'.inside)))

  pub place-closed
      : {why : Refusal} {r : AxmlContentAnswer}
      → open_of f lent ≡ Err why
      → r ≡ place_of Nothing
      → AsksContent f lent i r
  place-closed e p =
      let asked : content_asked f lent i ≡ none = rw e in
      rw p (asks_of asked (content-closed f lent i e) (record { known = omega arith; there = refl; inside = omega arith; bytes = refl }))
