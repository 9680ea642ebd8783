-- Equal texts have equal numbers (`hash-same`), attributes that repeat each other have equal keys (`key-same`), and the turns of the loop of
-- `hash_of`. No contract cites this file.
use Prim.Native.Nat.{ℕ, ◌+◌, ◌*◌, ◌/◌, ◌%◌, ◌≤◌, ◌<◌}
use mathlib.Core.Path.{◌≡◌, refl, sym, ap, ◌∙◌}
use mathlib.Core.Bool.{Bool, true, false, cond, ◌&&◌, true≢false}
use mathlib.Core.List.{List, [], ◌∷◌}
use native.Mathlib.Omega.{arith}
use lib.Dec.{eqb}
use lib.ListN.{length, get_or, drop, length-append}
use borrow.Author.Tests.{eqb-true, eq-eqb, ne_eqb}
use Rattle.utf.specs.declared.Step.{Step}
use Rattle.utf.specs.Utf8.{encode}
use Rattle.utf.specs.Text.{step_value, steps_of, bytes_of, refused, text_of, eq_bytes}
use Rattle.utf.specs.Inner.StepRuns.{Took}
use Rattle.utf.proofs.Scalars.{encode-length-lt}
use Rattle.utf.proofs.Tables.{both_true}
use Rattle.utf.proofs.Equal.{eq_bytes-true, eq_bytes-encode}
use Rattle.utf.proofs.Steps.{steps_of-next, steps_of-end}
use Rattle.utf.proofs.Turns.{text_of-refused, text_of-kept}
use Rattle.records.specs.Words.{attribute_width, attribute_prefix, attribute_name, attribute_namespace, own_prefix}
use Rattle.records.specs.Repeats.{same_space}
use Rattle.system_types.specs.Names.{Lent}
use Rattle.text.specs.declared.Head.{Head}
use Rattle.text.specs.Content.{Content, none, cut, some, content_of, same_text, same_name}
use Rattle.tables.specs.Inner.Keys.{mixed, fold_of, hash_of, hash_in, joined, key_by, keys_of}
use Rattle.tables.specs.Inner.Ways.{same_at}

-- ---- a text

some_bytes : (t : Step) (ts : List Step) → 0 < length (bytes_of (t ∷ ts))
unfolding bytes_of
some_bytes t ts = rw (length-append (encode (step_value t)) (bytes_of ts)) (omega (arith, encode-length-lt (step_value t)))

fold_same : (ts us : List Step) (s : ℕ) → eq_bytes (bytes_of ts) (bytes_of us) ≡ true → fold_of s ts ≡ fold_of s us
unfolding fold_of bytes_of
fold_same [] [] s e = refl
fold_same [] (u ∷ us) s e =
    absurd (let q : length (bytes_of []) ≡ length (bytes_of (u ∷ us)) = ap length (eq_bytes-true (bytes_of []) (bytes_of (u ∷ us)) e) in
    let z : ⊥ = omega (arith, q, some_bytes u us) in z)
fold_same (t ∷ ts) [] s e =
    absurd (let q : length (bytes_of (t ∷ ts)) ≡ length (bytes_of []) = ap length (eq_bytes-true (bytes_of (t ∷ ts)) (bytes_of []) e) in
    let z : ⊥ = omega (arith, q, some_bytes t ts) in z)
fold_same (t ∷ ts) (u ∷ us) s e =
    let p = both_true (eqb (step_value t) (step_value u)) (eq_bytes (bytes_of ts) (bytes_of us))
    (sym (eq_bytes-encode (step_value t) (step_value u) (bytes_of ts) (bytes_of us)) ∙ e) in
    let v : step_value t ≡ step_value u = eqb-true (step_value t) (step_value u) p.0 in
    ap (λ (n : ℕ). fold_of (mixed s n) ts) v ∙ fold_same ts us (mixed s (step_value u)) p.1

-- the steps that the text is made of
abbrev kept : Bool → List ℕ → List Step
kept utf16 b = cond (refused utf16 b) [] (steps_of utf16 b)

none-bytes : [] ≡ bytes_of []
unfolding bytes_of
none-bytes = refl

text-kept : (utf16 : Bool) (b : List ℕ) → text_of utf16 b ≡ bytes_of (kept utf16 b)
text-kept utf16 b = go (refused utf16 b) refl
  where
    go : (r : Bool) → refused utf16 b ≡ r → text_of utf16 b ≡ bytes_of (cond r [] (steps_of utf16 b))
    go true e = text_of-refused utf16 b e ∙ none-bytes
    go false e = text_of-kept utf16 b e

hash-kept : (s : ℕ) (utf16 : Bool) (b : List ℕ) → hash_of s utf16 b ≡ fold_of s (kept utf16 b)
unfolding hash_of fold_of
hash-kept s utf16 b = go (refused utf16 b)
  where
    go : (r : Bool) → cond r s (fold_of s (steps_of utf16 b)) ≡ fold_of s (cond r [] (steps_of utf16 b))
    go true = refl
    go false = refl

pub hash-same : (s : ℕ) (wa : Bool) (a : List ℕ) (wb : Bool) (b : List ℕ) → eq_bytes (text_of wa a) (text_of wb b) ≡ true → hash_of s wa a ≡ hash_of s wb b
hash-same s wa a wb b e =
    let f : eq_bytes (bytes_of (kept wa a)) (bytes_of (kept wb b)) ≡ true = rw (sym (text-kept wa a), sym (text-kept wb b)) e in
    hash-kept s wa a ∙ fold_same (kept wa a) (kept wb b) s f ∙ sym (hash-kept s wb b)

-- the empty text is that of no bytes
hash-none : (s : ℕ) (utf16 : Bool) (b : List ℕ) → eq_bytes [] (text_of utf16 b) ≡ true → s ≡ hash_of s utf16 b
unfolding fold_of
hash-none s utf16 b e =
    let f : eq_bytes (bytes_of []) (bytes_of (kept utf16 b)) ≡ true = rw (← none-bytes, sym (text-kept utf16 b)) e in
    fold_same [] (kept utf16 b) s f ∙ sym (hash-kept s utf16 b)

hash-empty : (s : ℕ) (utf16 : Bool) (b : List ℕ) → eq_bytes (text_of utf16 b) [] ≡ true → hash_of s utf16 b ≡ s
unfolding fold_of
hash-empty s utf16 b e =
    let f : eq_bytes (bytes_of (kept utf16 b)) (bytes_of []) ≡ true = rw (← none-bytes, sym (text-kept utf16 b)) e in
    hash-kept s utf16 b ∙ fold_same (kept utf16 b) [] s f

-- ---- what an index stands for

pub hash_in-same : (s : ℕ) (a b : Content) → same_text a b ≡ true → hash_in s a ≡ hash_in s b
hash_in-same s none b e = absurd (true≢false (sym e))
hash_in-same s cut none e = absurd (true≢false (sym e))
hash_in-same s cut cut e = refl
hash_in-same s cut (some wb b) e = hash-none s wb b e
hash_in-same s (some wa a) none e = absurd (true≢false (sym e))
hash_in-same s (some wa a) cut e = hash-empty s wa a e
hash_in-same s (some wa a) (some wb b) e = hash-same s wa a wb b e

-- ---- an attribute

module _ (h : Head) (t : List ℕ) (lent : Lent) where
  abbrev number_of : ℕ → ℕ
  number_of i = hash_in 0 (content_of h t lent i)

  space-same : (s p a b : ℕ) → same_space (same_name h t lent) p a b ≡ true
      → cond (eqb p own_prefix) (joined s (number_of a)) s ≡ cond (eqb p own_prefix) (joined s (number_of b)) s
  space-same s p a b e = go (eqb p own_prefix) e
    where
      go : (c : Bool) → cond c (same_name h t lent a b) true ≡ true → cond c (joined s (number_of a)) s ≡ cond c (joined s (number_of b)) s
      go true f = ap (joined s) (hash_in-same 0 (content_of h t lent a) (content_of h t lent b) f)
      go false f = refl

  key-by : (p q n m a b : ℕ) → p ≡ q → same_name h t lent n m ≡ true → same_space (same_name h t lent) q a b ≡ true
      → key_by h t lent p n a ≡ key_by h t lent q m b
  unfolding key_by
  key-by p q n m a b e f g =
      let c : number_of n ≡ number_of m = hash_in-same 0 (content_of h t lent n) (content_of h t lent m) f in
      rw (e, c) (ap (λ (x : ℕ). x / 4294967296) (space-same (mixed (number_of m) q) q a b g))

  pub key-same : (w : List ℕ) (p n ns j : ℕ) → same_at (same_name h t lent) p n ns w (attribute_width * j) ≡ true
      → keys_of (key_by h t lent) w j ≡ key_by h t lent p n ns
  key-same w p n ns j e =
      let x = get_or w (attribute_width * j + attribute_prefix) 0 in
      let y = get_or w (attribute_width * j + attribute_name) 0 in
      let z = get_or w (attribute_width * j + attribute_namespace) 0 in
      let a = both_true (eqb x p) (same_name h t lent y n && same_space (same_name h t lent) p z ns) e in
      let b = both_true (same_name h t lent y n) (same_space (same_name h t lent) p z ns) a.1 in
      key-by x p y n z ns (eqb-true x p a.0) b.0 b.1

  -- as `key_of` finds it, without and with a namespace
  pub key-plain : (p n ns x s : ℕ) → (p ≡ own_prefix → ⊥) → x ≡ number_of n → s ≡ mixed x p → s / 4294967296 ≡ key_by h t lent p n ns
  unfolding key_by
  key-plain p n ns x s d e q = rw (ne_eqb p own_prefix d) (ap (λ (y : ℕ). y / 4294967296) (q ∙ ap (λ (y : ℕ). mixed y p) e))

  pub key-own : (p n ns x y s u r : ℕ) → p ≡ own_prefix → x ≡ number_of n → y ≡ number_of ns → s ≡ mixed x p → u ≡ mixed s (y / 4294967296)
      → r ≡ mixed u (y % 4294967296) → r / 4294967296 ≡ key_by h t lent p n ns
  unfolding key_by
  key-own p n ns x y s u r o e f q v w =
      rw (eq-eqb p own_prefix o)
      (ap (λ (z : ℕ). z / 4294967296)
      (w ∙ ap (λ (z : ℕ). mixed z (y % 4294967296)) v ∙ ap (joined s) f ∙ ap (λ (z : ℕ). joined z (number_of ns)) (q ∙ ap (λ (z : ℕ). mixed z p) e)))

-- ---- the loop

pub record Mixing (seed : ℕ) (utf16 : Bool) (b : List ℕ) (at s : ℕ) : Type 0 where
  pub whole : hash_of seed utf16 b ≡ fold_of s (steps_of utf16 (drop at b))

module _ (seed : ℕ) (utf16 : Bool) (b : List ℕ) where
  pub mixing-first : (r : Bool) → r ≡ refused utf16 b → r ≡ false → Mixing seed utf16 b 0 seed
  unfolding hash_of
  mixing-first r e f = record { whole = rw (sym e ∙ f) }

  pub mixing-none : (r : Bool) → r ≡ refused utf16 b → r ≡ true → seed ≡ hash_of seed utf16 b
  unfolding hash_of
  mixing-none r e f = rw (sym e ∙ f)

  pub mixing-next : (at s v n k : ℕ) (sound : Bool) → Mixing seed utf16 b at s → at < length b → Took utf16 b at v n sound → k ≡ mixed s v
      → Mixing seed utf16 b (at + n) k
  unfolding fold_of
  mixing-next at s v n k sound m l t e = record {
    whole =
        m.whole ∙ ap (fold_of s) (steps_of-next utf16 b at n l t.width_is t.least)
        ∙ ap (λ (x : ℕ). fold_of x (steps_of utf16 (drop (at + n) b))) (sym (e ∙ ap (mixed s) t.value-is));
  }

  pub mixing-last : (at s : ℕ) → Mixing seed utf16 b at s → length b ≤ at → s ≡ hash_of seed utf16 b
  unfolding fold_of
  mixing-last at s m l = sym (m.whole ∙ ap (fold_of s) (steps_of-end utf16 b at l))
