-- `relist::note_at` meets its contract: three words, each at its place.
use Rattle.relist.proofs.Judging.{note-drop}
use Rattle.relist.proofs.note_at.Goals as goal

pub returns : goal.returns
returns c = note-drop c.args.i c.args.words.now
    c.word_at-kind.ensures c.word_at-a.ensures c.word_at-b.ensures
