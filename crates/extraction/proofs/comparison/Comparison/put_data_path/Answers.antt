use Rattle.std.proofs.Common.{◌+◌, ap}
use Rattle.fraud.specs.Charge.{block_of}
use Rattle.extraction.proofs.Paths.{path_cut}
use Rattle.extraction.proofs.comparison.Comparison.put_data_path.Goals as goal

pub returns : goal.returns
returns g c =
    let s = c.args.self.now in
    path_cut g.H.Hash.meaning (block_of s.charge) s.charge.header.now.width (c.lengths-depth.result.depth + 1) (ap (λ l. l.depth + 1) c.lengths-depth.ensures) s.roots.now s.rooted
    c.args.line c.args.tree.now c.value_tree.new.tree c.args.path.now _ c.requires.line c.requires.room.0 c.value_tree.auto.tree c.requires.room.1
    c.value_tree.ensures.written c.tree_path.ensures.written
