-- Evidence that is found in a file.
use Rattle.std.specs.Prelude.{Some, None, Option}
use Rattle.evidence.specs.Evidence.{Evidence}
use Rattle.blockfile.specs.declared.found.Found.{Found}

abbrev pub some_evidence : Option Found → Option Evidence
some_evidence None = None
some_evidence (Some f) = Some (record { axis = f.axis; share = f.share.now; path = f.path.now })
