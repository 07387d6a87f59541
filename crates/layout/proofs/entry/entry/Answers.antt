use Rattle.layout.proofs.Rows.{entry_lent}
use Rattle.layout.proofs.entry.entry.Goals as goal

pub returns : goal.returns
returns c = entry_lent c.args.i c.args.row.now _ c.get.result c.as_chunks.ensures.front c.get.ensures.lookup.3
