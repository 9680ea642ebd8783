-- What the two loops that measure and write a text know at their heads: `Counted`, and `Written` over the lent bytes.
-- Each has its turn and its end, over plain values. At the end: what a text that is written leaves, and one that is not.
use mathlib.Core.Path.{◌≡◌, refl, sym, ap, ◌∙◌}
use mathlib.Core.Bool.{Bool, true, false, cond}
use mathlib.Core.List.{List, [], ◌++◌, append_assoc, append-nil}
use Prim.Native.Nat.{ℕ, ◌+◌, ◌≤◌, ◌<◌, min}
use native.Mathlib.Omega.{arith}
use borrow.Author.Tests.{le-leb, lt-leb, leb-true}
use lib.Dec.{leb}
use lib.ListN.{length, take, drop, length-append, length-drop, take-append-drop}
use lib.Seq.{drop-drop, sets, sets-eq, length-sets, take_at, drop_at, length-take-le}
use Rattle.utf.specs.Utf8.{encode}
use Rattle.utf.specs.Text.{steps_of, bytes_of, put_text}
use Rattle.utf.specs.Inner.StepRuns.{Took}
use Rattle.utf.proofs.Turns.{turn-bytes, end-bytes}

-- ---- the length, and no more than a usize holds
pub record Counted (w : Bool) (s : List ℕ) (at n : ℕ) : Type 0 where
  pub rest : min (n + length (bytes_of (steps_of w (drop at s)))) 0xffffffffffffffff ≡ min (length (bytes_of (steps_of w s))) 0xffffffffffffffff
  pub held : n ≤ 0xffffffffffffffff

module _ (w : Bool) (s : List ℕ) (at n value width k : ℕ) (sound : Bool) (c : Counted w s at n) (h : at < length s) (t : Took w s at value width sound)
    (e : k ≡ length (encode value)) where
  next : length (bytes_of (steps_of w (drop at s))) ≡ k + length (bytes_of (steps_of w (drop (at + width) s)))
  next =
      ap length (turn-bytes w s at value width sound h t)
      ∙ length-append (encode value) (bytes_of (steps_of w (drop (at + width) s)))
      ∙ ap (λ (m : ℕ). m + length (bytes_of (steps_of w (drop (at + width) s)))) (sym e)

  pub counted : (m : ℕ) → m ≡ min (n + k) 0xffffffffffffffff → Counted w s (at + width) m
  counted m f = record { rest = omega (arith, c.rest, next, f); held = omega (arith, f) }

pub all-counted : (w : Bool) (s : List ℕ) (at n : ℕ) → Counted w s at n → length s ≤ at → n ≡ min (length (bytes_of (steps_of w s))) 0xffffffffffffffff
all-counted w s at n c h = omega (arith, c.rest, c.held, ap length (end-bytes w s at h))

-- ---- the bytes: o of them stand in out, the rest is to come, and what lies past them is as it was
pub record Written (w : Bool) (s out₀ out : List ℕ) (at o : ℕ) : Type 0 where
  pub same : length out ≡ length out₀
  pub room : o ≤ length out₀
  pub done : take o out ++ bytes_of (steps_of w (drop at s)) ≡ bytes_of (steps_of w s)
  pub kept : drop o out ≡ drop o out₀

pub fitting : (w : Bool) (s out₀ out : List ℕ) (at o value width : ℕ) (sound : Bool) → Written w s out₀ out at o → at < length s
    → Took w s at value width sound → length (bytes_of (steps_of w s)) ≤ length out₀ → o + length (encode value) ≤ length out
fitting w s out₀ out at o value width sound d h t l =
    let e : length (take o out) ≡ o = length-take-le o out (omega arith) in
    omega (
      arith,
      sym (length-append (take o out) (bytes_of (steps_of w (drop at s)))) ∙ ap length d.done,
      ap length (turn-bytes w s at value width sound h t),
      length-append (encode value) (bytes_of (steps_of w (drop (at + width) s))),
    )

pub written : (w : Bool) (s out₀ out out' : List ℕ) (at o value width : ℕ) (sound : Bool) → Written w s out₀ out at o → at < length s
    → Took w s at value width sound
    → o + length (encode value) ≤ length out → out' ≡ sets out o (encode value) → Written w s out₀ out' (at + width) (o + length (encode value))
written w s out₀ out out' at o value width sound d h t fits p =
    let vs = encode value in
    let n = o + length vs in
    let e : out' ≡ take o out ++ vs ++ drop n out = p ∙ sets-eq vs out o fits in
    let l : length (take o out ++ vs) ≡ n = length-append (take o out) vs ∙ ap (λ (x : ℕ). x + length vs) (length-take-le o out (omega arith)) in
    record {
      same = ap length p ∙ length-sets out o vs ∙ d.same;
      room = omega (arith, d.same);
      done =
          ap (λ (l : List ℕ). take n l ++ bytes_of (steps_of w (drop (at + width) s))) e
          ∙ ap (λ (l : List ℕ). l ++ bytes_of (steps_of w (drop (at + width) s))) (take_at (take o out ++ vs) (drop n out) n l)
          ∙ append_assoc (take o out) vs (bytes_of (steps_of w (drop (at + width) s)))
          ∙ ap (λ (l : List ℕ). take o out ++ l) (sym (turn-bytes w s at value width sound h t))
          ∙ d.done;
      kept =
          ap (λ (l : List ℕ). drop n l) e
          ∙ drop_at (take o out ++ vs) (drop n out) n l
          ∙ sym (drop-drop (length vs) o out)
          ∙ ap (λ (l : List ℕ). drop (length vs) l) d.kept
          ∙ drop-drop (length vs) o out₀;
    }

pub all-written : (w : Bool) (s out₀ out : List ℕ) (at o : ℕ) → Written w s out₀ out at o → length s ≤ at
    → (o ≡ length (bytes_of (steps_of w s))) × (out ≡ bytes_of (steps_of w s) ++ drop (length (bytes_of (steps_of w s))) out₀)
all-written w s out₀ out at o d h =
    let b = bytes_of (steps_of w s) in
    let e : take o out ≡ b = sym (append-nil (take o out)) ∙ ap (λ (l : List ℕ). take o out ++ l) (sym (end-bytes w s at h)) ∙ d.done in
    let n : o ≡ length b = sym (length-take-le o out (omega (arith, d.same))) ∙ ap length e in
    (n, sym (take-append-drop o out) ∙ ap (λ (l : List ℕ). l ++ drop o out) e ∙ ap (λ (l : List ℕ). b ++ l) (d.kept ∙ ap (λ (k : ℕ). drop k out₀) n))

-- ---- the text in its buffer, or the buffer as it was
pub put_text-nil : (out : List ℕ) → put_text [] out ≡ out
unfolding put_text
put_text-nil out = rw (le-leb 0 (length out) (omega arith))

pub put_text-whole : (x out : List ℕ) → length x ≤ length out → put_text x out ≡ x ++ drop (length x) out
unfolding put_text
put_text-whole x out l = rw (le-leb (length x) (length out) l)

pub put_text-length : (x out : List ℕ) → length (put_text x out) ≡ length out
unfolding put_text
put_text-length x out = go (leb (length x) (length out)) refl
  where
    go : (b : Bool) → leb (length x) (length out) ≡ b → length (cond b (x ++ drop (length x) out) out) ≡ length out
    go true e = omega (arith, length-append x (drop (length x) out), length-drop (length x) out, leb-true (length x) (length out) e)
    go false e = refl

pub put_text-fits : (x out after : List ℕ) (n : ℕ) → length x ≤ length out → length out ≤ 0xffffffffffffffff
    → (n ≡ length x) × (after ≡ x ++ drop (length x) out) → (n ≡ min (length x) 0xffffffffffffffff) × (after ≡ put_text x out)
put_text-fits x out after n l m p = (omega (arith, p.0), p.1 ∙ sym (put_text-whole x out l))

pub put_text-short : (x out : List ℕ) (n : ℕ) → n ≡ min (length x) 0xffffffffffffffff → length out < n
    → (n ≡ min (length x) 0xffffffffffffffff) × (out ≡ put_text x out)
unfolding put_text
put_text-short x out n e l = (e, rw (lt-leb (length x) (length out) (omega (arith, e))))
