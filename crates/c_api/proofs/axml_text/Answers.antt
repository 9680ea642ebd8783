-- `c_api::axml_text` meets its contract: the answer of `head::text`, in numbers, and its buffer.
use Rattle.system_types.specs.Names.{lends}
use Rattle.c_api.proofs.Same.{asks-of-reads}
use Rattle.c_api.proofs.axml_text.Goals as goal

pub returns : goal.returns
returns c =
    let a = c.args in
    let q = c.text-answer in
    let n = c.text_numbers in
    asks-of-reads a.file.now (lends a.names.now a.area.now) a.out.now a.index q.result q.new.out q.ensures
    n.result n.ensures c.text_answer_of.result c.text_answer_of.ensures
