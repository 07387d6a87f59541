use Rattle.std.proofs.Common.{sym, ◌∙◌, length, ◌/◌, ◌%◌}
use Rattle.std.proofs.lemmas.Bool.{eqb-true, eq-eqb}
use Rattle.hash.specs.Digests.{digest_len}
use Rattle.merkle.proofs.Chunks.{chunks_slots}
use Rattle.climbs.proofs.climb.siblings.Goals as goal

pub returns : goal.returns
returns c =
    let n = length c.args.path.now in
    let none = eqb-true (length c.as_chunks.result.1.now) 0 (sym c.is_empty.ensures ∙ c.if-not-is_empty.false) in (
      eq-eqb (n % digest_len) 0 (sym c.as_chunks.ensures.back_len ∙ none),
      c.as_chunks.ensures.front ∙ chunks_slots (n / digest_len) c.args.path.now,
    )
