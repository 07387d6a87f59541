use Rattle.std.proofs.Common.{ℕ, ◌-◌, ◌*◌, ◌≤◌, arith}
use Rattle.std.proofs.lemmas.Nat.{mul-le}
use Rattle.erasure.proofs.Bounds.{width_most, width_some}
use Rattle.header.specs.Fields.{fields_of}
use Rattle.header.proofs.Measures.{square_most}
use Rattle.header.proofs.header.Header.lengths.Goals as goal

-- the trees of all rows
trees_most : (k : ℕ) → k ≤ 32 → 2 * k * (32 * (2 * (2 * k) - 1)) ≤ 260096
trees_most k m = mul-le (2 * k) (32 * (2 * (2 * k) - 1)) 64 4064 (omega arith) (omega arith)

pub overflow_sub-axis_tree : goal.overflow_sub-axis_tree
overflow_sub-axis_tree c = omega (arith, width_some c.args.self.now.k c.args.self.now.width)

pub overflow_sub-data_tree : goal.overflow_sub-data_tree
overflow_sub-data_tree c = omega (arith, width_some c.args.self.now.k c.args.self.now.width)

pub overflow_mul-square-2 : goal.overflow_mul-square-2
overflow_mul-square-2 c = omega (arith, square_most (fields_of c.args.self.now) (record { wide = c.args.self.now.width; sized = c.args.self.now.size }))

pub overflow_add-result : goal.overflow_add-result
overflow_add-result c =
    let m = width_most c.args.self.now.k c.args.self.now.width in
    omega (arith, square_most (fields_of c.args.self.now) (record { wide = c.args.self.now.width; sized = c.args.self.now.size }), trees_most c.args.self.now.k m)

pub overflow_add-result-2 : goal.overflow_add-result-2
overflow_add-result-2 c =
    let m = width_most c.args.self.now.k c.args.self.now.width in
    omega (arith, square_most (fields_of c.args.self.now) (record { wide = c.args.self.now.width; sized = c.args.self.now.size }), trees_most c.args.self.now.k m)
