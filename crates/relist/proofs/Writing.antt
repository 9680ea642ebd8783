-- What is written of a listing, from what `judge` promises. No contract cites this file.
use Rattle.std.proofs.Common.{◌≡◌, ℕ, ◌+◌, ◌<◌, ◌≤◌, List, [], ◌++◌, OnOk, None, Some, length, take, refl, sym, ap, ◌∙◌, subst, arith, append-nil, length-append, length-take-le}
use Rattle.std.specs.declared.option.Option.{Option}
use Rattle.std.specs.declared.result.Result.{Result}
use Rattle.std.specs.declared.result.Result.TheVariants.{Ok, Err}
use Rattle.std.specs.Io.KnownBytes.{Consumes, Appends, IsAtEnd}
use Rattle.listing_back.specs.Back.{Relisting, fault, found, relisting}
use Rattle.relist.specs.Inner.Judged.{IsListing, RelistsOut, RelistsAll}

module _ (text : List ℕ) (ns ats os : ℕ) (before after : Option (List ℕ)) where
  listing-out : (printed : List ℕ) → IsListing text (record { nodes = ns; attributes = ats; notes = os }) printed → Appends before after printed →
      RelistsOut text ns ats os before after
  unfolding RelistsOut
  listing-out printed h w =
      λ (said : Relisting) (says : relisting (record { nodes = ns; attributes = ats; notes = os }) text ≡ found said). subst (Appends before after) h.same w

  fault-out : (x y : ℕ) → relisting (record { nodes = ns; attributes = ats; notes = os }) text ≡ fault x y → RelistsOut text ns ats os before after
  unfolding RelistsOut
  fault-out x y h =
      λ (said : Relisting) (says : relisting (record { nodes = ns; attributes = ats; notes = os }) text ≡ found said).
      let z : fault x y ≡ found said = sym h ∙ says in absurd (let b : ⊥ = cc in b)

  pub listing-written : {A E : Type 0} (printed : List ℕ) → IsListing text (record { nodes = ns; attributes = ats; notes = os }) printed →
      (r : Result A E) → OnOk r (Appends before after printed) → OnOk r (RelistsOut text ns ats os before after)
  listing-written printed h (Ok x) w = listing-out printed h w
  listing-written printed h (Err x) w = tt

  pub fault-written : {A E : Type 0} (x y : ℕ) → relisting (record { nodes = ns; attributes = ats; notes = os }) text ≡ fault x y →
      (r : Result A E) → OnOk r (RelistsOut text ns ats os before after)
  fault-written x y h (Ok u) = fault-out x y h
  fault-written x y h (Err u) = tt

-- ---- all that the reader had

module _ (known rest : Option (List ℕ)) (n room : ℕ) (f : List ℕ) (ns ats os : ℕ) (before after : Option (List ℕ)) (size : length f ≡ room) (within : n ≤ length f)
    (came : Consumes known rest (take n f)) (end : n < length f → IsAtEnd rest) where
  full-out : length f ≤ n → RelistsAll known room ns ats os before after
  full-out h = go known rest came
    where
      go : (known rest : Option (List ℕ)) → Consumes known rest (take n f) → RelistsAll known room ns ats os before after
      go None rest c = tt
      go (Some l) None c = absurd c
      go (Some l) (Some k) c = λ less.
          let e : length l ≡ length (take n f) + length k = ap length c ∙ length-append (take n f) k in
          let m : length (take n f) ≡ n = length-take-le n f within in
          absurd (let z : ⊥ = omega (arith, e, m, less, h, size) in z)

  whole-out : n < length f → RelistsOut (take n f) ns ats os before after → RelistsAll known room ns ats os before after
  whole-out h w = go known rest came (end h)
    where
      go : (known rest : Option (List ℕ)) → Consumes known rest (take n f) → IsAtEnd rest → RelistsAll known room ns ats os before after
      go None rest c e = tt
      go (Some l) None c e = absurd c
      go (Some l) (Some k) c e = λ less.
          let same : take n f ≡ l = sym (c ∙ (ap (λ (m : List ℕ). take n f ++ m) e ∙ append-nil (take n f))) in
          subst (λ (x : List ℕ). RelistsOut x ns ats os before after) same w

  pub run-full : {A E : Type 0} (r : Result A E) → length f ≤ n → OnOk r (RelistsAll known room ns ats os before after)
  run-full (Ok x) h = full-out h
  run-full (Err x) h = tt

  pub run-whole : {A E : Type 0} (r : Result A E) → n < length f → OnOk r (RelistsOut (take n f) ns ats os before after) →
      OnOk r (RelistsAll known room ns ats os before after)
  run-whole (Ok x) h w = whole-out h w
  run-whole (Err x) h w = tt
