-- What reads put into a room, one behind the other, for the proof of `stored::read_in`. No contract cites this file.
use Rattle.std.proofs.Common.{◌≡◌, ℕ, ◌+◌, ◌≤◌, List, ◌++◌, length, take, drop, sym, ap, ◌∙◌, subst, le_refl, drop_at, length-take-le}
use Rattle.std.proofs.lemmas.Slice.{take-put_mid_below}
use Rattle.std.specs.declared.option.Option.{Option}
use Rattle.std.specs.Io.KnownBytes.{Consumes}
use Rattle.std.proofs.KnownBytes.{Consumes-trans}
use borrow.Rule.Slice.PartMut.{put_mid, post_of}
use lib.Seq.{take-add, take-append-le}

-- the room's first n bytes, and those that a read put behind them
pub take-came : (n k more : ℕ) (room buf : List ℕ) → n ≤ length room → more ≤ length buf → take (n + more) (put_mid n k room buf) ≡ take n room ++ take more buf
take-came n k more room buf within fits =
    let after = post_of n k room in
    take-add n more (put_mid n k room buf) ∙
    (ap (λ (l : List ℕ). l ++ take more (drop n (put_mid n k room buf))) (take-put_mid_below n k room buf n (le_refl n) within) ∙
    ap (λ (l : List ℕ). take n room ++ l)
    (ap (take more) (drop_at (take n room) (buf ++ after) n (length-take-le n room within)) ∙ take-append-le more buf after fits))

pub came-more :
    (a b c : Option (List ℕ)) (n k more : ℕ) (room buf : List ℕ) → n ≤ length room → more ≤ length buf →
    Consumes a b (take n room) → Consumes b c (take more buf) → Consumes a c (take (n + more) (put_mid n k room buf))
came-more a b c n k more room buf within fits p q = subst (Consumes a c) (sym (take-came n k more room buf within fits)) (Consumes-trans a b c _ _ p q)
