-- Laws of specs/Inner/Data.antt, for the proofs of this crate. No contract cites this file.
-- In order: a word behind the last; a table that is filled word by word; a count outside the table; the text of a group, and a text that fits a
-- buffer.
use Rattle.std.proofs.Common.{◌≡◌, ℕ, zero, suc, ◌+◌, ◌*◌, ◌/◌, ◌<◌, ◌≤◌, Bool, true, false, List, [], ◌∷◌, ◌++◌, length, get_or, take, drop, set}
use Rattle.std.proofs.Common.{sym, refl, ap, ◌∙◌, append_assoc, zero-add, add-one, arith, length-append, length-take-le, drop-cons, drop_of_length-le}
use Rattle.std.proofs.Common.{append-nil, le-ltb, lt-ltb}
use lib.Seq.{set_at, set_out, sets-eq}
use Rattle.digits.specs.Digits.{decimal}
use Rattle.digits.specs.Written.{written, Wrote}
use Rattle.digits.proofs.Written.{length-written, wrote-append, wrote-more, wrote_none}
use Rattle.stored.specs.Inner.Data.{word_at, words_to, room_for, loaded, bumped, tallied, group_text, Leads}

-- ---- a word

pub word_at_behind : (s : List ℕ) (i : ℕ) → length s / 4 ≤ i → word_at s i ≡ 0
unfolding word_at
word_at_behind s i h = rw (le-ltb i (length s / 4) h)

-- ---- a table that is filled

pub length-words_to : (n : ℕ) (s : List ℕ) → length (words_to n s) ≡ n
unfolding words_to
length-words_to zero s = refl
length-words_to (suc n) s = rw (length-append, length-words_to n s) (omega arith)

pub filled_none : (s table : List ℕ) → table ≡ words_to 0 s ++ drop 0 table
unfolding words_to
filled_none s table = refl

-- one word more
pub filled-step :
    {l : List ℕ} {v : ℕ} (s table : List ℕ) (n : ℕ) → l ≡ words_to n s ++ drop n table → n < length table → v ≡ word_at s n →
    set l n v ≡ words_to (n + 1) s ++ drop (n + 1) table
unfolding words_to
filled-step s table n e h f =
    rw (add-one, e, f, drop-cons table n 0 h, set_at (words_to n s) (get_or table n 0) (drop (suc n) table) (word_at s n) n (length-words_to n s), append_assoc)

-- all of the first n places are filled, and the rest stands behind them
pub filled-whole :
    {l : List ℕ} (s table : List ℕ) (n i : ℕ) → l ≡ words_to i s ++ drop i (take n table) → n ≡ room_for s table → i ≡ length (take n table) →
    l ++ drop n table ≡ loaded s table
unfolding loaded
filled-whole s table n i e f h =
    let k : i ≡ n = omega (arith, length-take-le n table (omega arith)) in
    let g : length (take n table) ≤ n = omega arith in
    rw (e, k, drop_of_length-le (take n table) g, append-nil, f)

-- ---- the counts

pub bumped_outside : (l : List ℕ) (i : ℕ) → length l ≤ i → l ≡ bumped l i
unfolding bumped
bumped_outside l i h = sym (set_out l i _ h)

pub tallied_outside : (l : List ℕ) (g : ℕ) (right : Bool) → length l ≤ g → l ≡ tallied l g right
unfolding tallied
tallied_outside l g true h = rw (← bumped_outside l (2 * g + 1) (omega arith), ← bumped_outside l (2 * g) (omega arith))
tallied_outside l g false h = bumped_outside l (2 * g + 1) (omega arith)

-- ---- the text of a group

pub group_text-outside : (l out : List ℕ) (g : ℕ) → length l ≤ g → Wrote 25 0 (group_text l g) out 0 out
unfolding group_text
group_text-outside l out g h = rw (le-ltb g (length l) h) (wrote_none 25 0 out)

-- the four texts that make it, one behind the other
pub group_text-inside :
    {o₀ o₁ o₂ o₃ o₄ : List ℕ} {right asked a b c end : ℕ} (l : List ℕ) (g : ℕ) → g < length l → right ≡ get_or l (2 * g) 0 → asked ≡ get_or l (2 * g + 1) 0 →
    Wrote 10 0 (decimal right) o₀ a o₁ → Wrote 4 a (32 ∷ 111 ∷ 102 ∷ 32 ∷ []) o₁ b o₂ → Wrote 10 b (decimal asked) o₂ c o₃ →
    Wrote 1 c (10 ∷ []) o₃ end o₄ → Wrote 25 0 (group_text l g) o₀ end o₄
unfolding group_text
group_text-inside l g h e f w x y z =
    wrote-more (wrote-append (wrote-append (wrote-append w x) y) z) (rw (lt-ltb g (length l) h, e, f)) (omega arith)

-- a text that fits stands at the front, whole
pub leads_of_wrote : {text l k : List ℕ} {m r : ℕ} → Wrote m 0 text l r k → m ≤ length l → Leads text l r k
unfolding written
leads_of_wrote {text} {l} {k} {m} {r} w h =
    let e : r ≡ length text = omega (arith, w.place) in
    let f : 0 + length text ≤ length l = omega (arith, w.near) in
    let o : k ≡ text ++ drop r l = w.out ∙ (sets-eq text l 0 f ∙ rw (e, zero-add)) in
    let n : r ≤ length k = omega (arith, w.near, ap length w.out, length-written text l 0) in
    record { count = e; out = o; within = n; front = sym (length-take-le r k n) }
