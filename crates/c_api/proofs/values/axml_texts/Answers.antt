-- `c_api::values::axml_texts` meets its contract: the answer of `many_texts::texts`, in numbers, and what it wrote.
use Rattle.c_api.proofs.Valued.{asks-texts}
use Rattle.c_api.proofs.values.axml_texts.Goals as goal

pub returns : goal.returns
returns c = asks-texts c.texts-answer.ensures c.many_numbers.ensures c.many_answer_of.ensures
