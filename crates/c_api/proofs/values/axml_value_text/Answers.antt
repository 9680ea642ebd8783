-- `c_api::values::axml_value_text` meets its contract: the answer of `value_text::value_text`, in numbers, and what it wrote.
use Rattle.c_api.proofs.Valued.{asks-value}
use Rattle.c_api.proofs.values.axml_value_text.Goals as goal

pub returns : goal.returns
returns c = asks-value c.value_text-answer.ensures c.value_numbers.ensures c.value_answer_of.ensures
