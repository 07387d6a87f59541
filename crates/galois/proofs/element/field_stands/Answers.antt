use Rattle.galois.proofs.Law.{stands}
use Rattle.galois.proofs.element.field_stands.Goals as goal

pub returns : goal.returns
returns c = stands
