-- Laws of specs/Values.antt: what C has follows from the promise of the function behind it. No contract cites this file.
use Rattle.std.specs.Prelude.{Result}
use Prim.Native.Nat.{ℕ}
use mathlib.Core.Path.{◌≡◌, ap, ◌∙◌}
use mathlib.Core.List.{List}
use Rattle.errors.specs.declared.ValueNumbers.{ValueNumbers}
use Rattle.errors.specs.declared.ManyNumbers.{ManyNumbers}
use Rattle.errors.specs.Refusal.{value_numbers_of, many_numbers_of}
use Rattle.system_types.specs.Names.{Lent}
use Rattle.value_text.specs.declared.Attribute.{Attribute}
use Rattle.value_text.specs.Value.{ValueReads}
use Rattle.many_texts.specs.Many.{ReadsValues, ReadsTexts}
use Rattle.c_api.specs.declared.values.AxmlValueAnswer.{AxmlValueAnswer}
use Rattle.c_api.specs.declared.values.AxmlManyAnswer.{AxmlManyAnswer}
use Rattle.c_api.specs.Values.{value_answer_of, many_answer_of, AsksValue, AsksValues, AsksTexts}
use Rattle.errors.specs.declared.Refusal.{Refusal}
use Rattle.errors.specs.declared.TextsWritten.{TextsWritten}
use Rattle.errors.specs.declared.ValueWritten.{ValueWritten}

pub asks-value :
    {f : List ℕ} {lent : Lent} {items area before : List ℕ} {a : Attribute} {r : Result ValueWritten Refusal} {after : List ℕ} {n : ValueNumbers} {x : AxmlValueAnswer} →
    ValueReads f lent items area before a r after →
    n ≡ value_numbers_of r →
    x ≡ value_answer_of n →
    AsksValue f lent items area before a x after
asks-value h p q = record { answer = q ∙ ap value_answer_of (p ∙ h.answer); out = h.out }

pub asks-values :
    {f : List ℕ} {lent : Lent} {items area ats out₀ table₀ : List ℕ} {count : ℕ} {r : Result TextsWritten Refusal} {out table : List ℕ} {n : ManyNumbers} {x : AxmlManyAnswer} →
    ReadsValues f lent items area ats out₀ table₀ count r out table →
    n ≡ many_numbers_of r →
    x ≡ many_answer_of n →
    AsksValues f lent items area ats out₀ table₀ count x out table
asks-values h p q = record { answer = q ∙ ap many_answer_of (p ∙ h.answer); bytes = h.bytes; words = h.words }

pub asks-texts :
    {f : List ℕ} {lent : Lent} {indices out₀ table₀ : List ℕ} {r : Result TextsWritten Refusal} {out table : List ℕ} {n : ManyNumbers} {x : AxmlManyAnswer} →
    ReadsTexts f lent indices out₀ table₀ r out table →
    n ≡ many_numbers_of r →
    x ≡ many_answer_of n →
    AsksTexts f lent indices out₀ table₀ x out table
asks-texts h p q = record { answer = q ∙ ap many_answer_of (p ∙ h.answer); bytes = h.bytes; words = h.words }
