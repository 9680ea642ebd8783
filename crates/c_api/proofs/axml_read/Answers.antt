-- `c_api::axml_read` meets its contract: the reading over words, and its answer in numbers (proofs/LoopInvariant.antt).
use Rattle.system_types.specs.Names.{lends}
use Rattle.c_api.proofs.LoopInvariant.{reads-by}
use Rattle.c_api.proofs.axml_read.Goals as goal

pub returns : goal.returns
returns c =
    let a = c.args in
    let q = c.read_words-answer in
    let n = c.read_numbers in
    reads-by a.file.now (lends a.names.now a.area.now) a.nodes.now a.attributes.now a.notes.now a.cap a.mode q.result
    q.new.nodes q.new.attributes q.new.notes q.ensures n.result n.ensures c.answer_of.result c.answer_of.ensures
