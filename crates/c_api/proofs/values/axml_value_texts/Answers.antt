-- `c_api::values::axml_value_texts` meets its contract: the answer of `many_texts::value_texts`, in numbers, and what it wrote.
use Rattle.c_api.proofs.Valued.{asks-values}
use Rattle.c_api.proofs.values.axml_value_texts.Goals as goal

pub returns : goal.returns
returns c = asks-values c.value_texts-answer.ensures c.many_numbers.ensures c.many_answer_of.ensures
