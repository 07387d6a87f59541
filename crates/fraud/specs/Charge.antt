-- A proof that was read, by its values.
use Rattle.header.specs.Fields.{Fields, fields_of}
use Rattle.fraudproof.specs.Proof.{Case, case_of}
use Rattle.fraud.specs.declared.charge.Charge.{Charge}

-- the block that it was read for
abbrev pub block_of : Charge → Fields
block_of c = fields_of c.header.now

-- its claim and its witnesses
abbrev pub case_in : Charge → Case
case_in c = case_of (block_of c) c.proof
