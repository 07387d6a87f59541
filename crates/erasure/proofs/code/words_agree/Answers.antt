use Rattle.codes.proofs.Words.{words_law}
use Rattle.erasure.proofs.code.words_agree.Goals as goal

pub returns : goal.returns
returns g c = words_law g.C.Code.table g.met.C.Code.second
