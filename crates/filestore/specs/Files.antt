-- What an opened block file means as a store: the k and the share size of its header, and at each cell the evidence that it has there.
use Rattle.blockfile.specs.declared.file.BlockFile.{BlockFile}
use Rattle.blockfile.specs.File.{evidence_of}
use Rattle.store.specs.Meaning.{Meaning}

abbrev pub file_meaning : BlockFile → Meaning
file_meaning f = record { k = f.header.k; s = f.header.s; at = evidence_of f }
