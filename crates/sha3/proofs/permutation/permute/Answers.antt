use Rattle.sha3.specs.Keccak.{constants, permuted}
use Rattle.sha3.specs.Lanes.{lanes}
use Rattle.sha3.proofs.Rounds.{more, done}
use Rattle.sha3.proofs.permutation.permute.Goals as goal

pub loop-rc-preserved : goal.loop-rc-preserved
loop-rc-preserved c = more constants (lanes c.args.s) (lanes c.loop-rc.t) (lanes c.round-t.result) c.loop-rc.rc-index c.loop-rc-test.true c.loop-rc.invariant c.round-t.ensures

pub returns : goal.returns
unfolding permuted
returns c = done constants (lanes c.args.s) (lanes c.loop-rc.t) c.loop-rc.rc-index c.loop-rc-test.false c.loop-rc.invariant
