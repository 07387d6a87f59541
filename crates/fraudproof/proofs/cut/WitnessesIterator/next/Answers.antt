use Rattle.std.proofs.Common.{◌≡◌, ◌<◌, length, ap, arith, rules}
use Rattle.header.specs.Fields.{fields_of}
use Rattle.header.specs.Sizes.{path_len}
use Rattle.fraudproof.proofs.Cuts.{none_left, first_cut}
use Rattle.fraudproof.proofs.cut.WitnessesIterator.next.Goals as goal

pub returns-in_err-low-clause-steps : goal.returns-in_err-low-clause-steps
returns-in_err-low-clause-steps c =
    let short : length c.args.self.now.records.now < 9 = c.in_err-low.ensures.cases in
    let none = none_left (fields_of c.args.self.now.header.now) c.args.self.now.records.now (omega arith) in
    rw c.from_residual.ensures (none, none)

pub returns-in_err-share-clause-steps : goal.returns-in_err-share-clause-steps
returns-in_err-share-clause-steps c =
    let long = c.in_ok-low.ensures.cases in
    let short : length c.in_ok-low.parts.now < c.lengths-n.result.share = c.in_err-share.ensures.cases in
    let n : c.lengths-n.result.share ≡ c.args.self.now.header.now.s = ap (λ l. l.share) c.lengths-n.ensures in
    let none = none_left (fields_of c.args.self.now.header.now) c.args.self.now.records.now (omega arith) in
    rw c.from_residual-in_err-share.ensures (none, none)

pub returns-in_err-path-clause-steps : goal.returns-in_err-path-clause-steps
returns-in_err-path-clause-steps c =
    let long = c.in_ok-low.ensures.cases in
    let share = c.in_ok-share.ensures.cases in
    let short : length c.in_ok-share.behind.now < c.lengths-n.result.path = c.in_err-path.ensures.cases in
    let n : c.lengths-n.result.share ≡ c.args.self.now.header.now.s = ap (λ l. l.share) c.lengths-n.ensures in
    let m : c.lengths-n.result.path ≡ path_len (fields_of c.args.self.now.header.now) = ap (λ l. l.path) c.lengths-n.ensures in
    let none = none_left (fields_of c.args.self.now.header.now) c.args.self.now.records.now (omega arith) in
    rw c.from_residual-in_err-path.ensures (none, none)

first : goal.returns-clause-steps
first c =
    let long = c.in_ok-low.ensures.cases in
    let share = c.in_ok-share.ensures.cases in
    let path = c.in_ok-path.ensures.cases in
    first_cut (fields_of c.args.self.now.header.now) c.args.self.now.records.now c.lengths-n.result.share c.lengths-n.result.path c.from_le_bytes.result
    c.in_ok-low.field-0-0.now c.in_ok-low.parts.now c.in_ok-share.share.now c.in_ok-share.behind.now c.in_ok-path.path.now c.in_ok-path.others.now
    (ap (λ l. l.share) c.lengths-n.ensures) (ap (λ l. l.path) c.lengths-n.ensures) long.0 long.1 share.1 share.2 path.1 path.2 path.4 share.4 long.2 c.from_le_bytes.ensures

pub returns-clause-steps : goal.returns-clause-steps
returns-clause-steps c = first c

pub returns-clause-goes : goal.returns-clause-goes
returns-clause-goes c =
    let shorter = ap length (first c) in
    search rules
