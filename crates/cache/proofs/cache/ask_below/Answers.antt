use Rattle.std.proofs.Common.{refl, ◌∙◌}
use Rattle.header.specs.Fields.{fields_of}
use Rattle.cache.proofs.Bringing.{brings, part_long, part_kept}
use Rattle.cache.proofs.cache.ask_below.Goals as goal

pub returns : goal.returns
returns g c o =
    let a = c.args in
    brings g.H.Hash.meaning g.H.Hash.KIND (fields_of a.h.now) _ _ _ a.cell a.share_len a.path_len _ _ c.take_evidence-taken.new.share c.take_evidence-taken.new.path c.requires.free
    (part_long a.share_len _ c.requires.room.0) (part_long a.path_len _ c.requires.room.1) _
    c.take_evidence-taken.result c.in_ok-axis.was (c.take_evidence-taken.ensures.taken o) refl
    (part_kept a.share_len _ _ (c.take_evidence-taken.auto.share ∙ part_long a.share_len _ c.requires.room.0))
    (part_kept a.path_len _ _ (c.take_evidence-taken.auto.path ∙ part_long a.path_len _ c.requires.room.1))
    c.header_fits-fits.result c.header_fits-fits.ensures _ c.then_some.ensures
