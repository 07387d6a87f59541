use Rattle.erasure.proofs.Bounds.{width_most}
use Rattle.fraud.proofs.charge.Charge.judge.Goals as goal

pub slice_bounds-room-end : goal.slice_bounds-room-end
slice_bounds-room-end g c = width_most c.args.self.now.header.now.k c.args.self.now.header.now.width
