use Rattle.header.specs.Fields.{fields_of}
use Rattle.wire.proofs.body.record_in.Goals as goal

pub returns-in-Header-clause-place : goal.returns-in-Header-clause-place
returns-in-Header-clause-place c = c.header_in.ensures.place (fields_of c.args.h.now)

pub returns-in-Claim-clause-place : goal.returns-in-Claim-clause-place
returns-in-Claim-clause-place c = c.claim_in.ensures.place (fields_of c.args.h.now)
