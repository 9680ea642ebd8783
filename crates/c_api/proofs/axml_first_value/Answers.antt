-- `c_api::axml_first_value` meets its contract: the answer of `first_value`, in numbers.
use mathlib.Core.Path.{◌∙◌, ap}
use Rattle.c_api.specs.Answers.{first_answer_of}
use Rattle.c_api.proofs.axml_first_value.Goals as goal

pub returns : goal.returns
returns c = c.first_answer_of.ensures
    ∙ ap first_answer_of (c.first_numbers.ensures ∙ c.first_value-answer.ensures.answer)
