-- A listing read back in numbers, from the promise of `read_listing`. No contract cites this file.
use Prim.Native.Nat.{ℕ}
use mathlib.Core.Path.{◌≡◌, ap, ◌∙◌}
use mathlib.Core.List.{List}
use Rattle.errors.specs.Refusal.{numbers_of}
use Rattle.errors.specs.declared.Numbers.{Numbers}
use Rattle.listing_back.specs.Back.{relisted_in, Relists}
use Rattle.listing_back.specs.declared.Relisted.{Relisted}
use Rattle.c_api.specs.Relisting.{relisted_of, RelistsWords}
use Rattle.c_api.specs.declared.relisting.AxmlRelisted.{AxmlRelisted}

pub relists-words :
    {text ns ats os : List ℕ} {r : Relisted} {ns' ats' os' : List ℕ} → Relists text ns ats os r ns' ats' os' → (n : Numbers) (c : AxmlRelisted) →
    n ≡ numbers_of r.answer → c ≡ relisted_of n r.cap → RelistsWords text ns ats os c ns' ats' os'
relists-words {text} {ns} {ats} {os} {r} h n c q p =
    record {
      answer = p ∙ (ap (λ (m : Numbers). relisted_of m r.cap) (q ∙ h.answer) ∙ ap (relisted_of (relisted_in text ns ats os).numbers) h.capped);
      nodes = h.nodes;
      attributes = h.attributes;
      notes = h.notes;
    }
