-- `listing::run` meets its contract: what the writer has more is the listing of all that came in.
use Rattle.listing.proofs.Laws.{run-listed}
use Rattle.listing.proofs.run.Goals as goal

pub returns : goal.returns
returns g c =
    run-listed c.write_all.result (g.R.Read.remaining c.args.reader.now) (g.R.Read.remaining c.read_in.new.reader) (g.W.Write.contents c.args.writer.now)
    (g.W.Write.contents c.write_all.new.self) _ _ _ _ _ _ _ _ _ c.in-Ok.ensures.bytes c.in-Ok.ensures.end c.requires.1
    c.list_input-length.ensures.listed c.write_all.ensures.bytes
