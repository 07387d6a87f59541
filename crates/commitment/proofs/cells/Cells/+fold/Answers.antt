use Rattle.std.proofs.Common.{◌≡◌, ℕ, ◌+◌, ◌-◌, ◌*◌, ◌<◌, sym, ap, ◌∙◌, ap₂, arith, length-drop, length-take}
use Rattle.octets.specs.Splice.{over}
use Rattle.hash.specs.Digests.{digest_len}
use Rattle.merkle.specs.Tree.{node, root}
use Rattle.merkle.specs.Climb.{Node, join_of, plain_rule}
use Rattle.merkle.proofs.Climbing.{node_start, node_more}
use Rattle.layout.proofs.Entries.{entries_more}
use Rattle.commitment.specs.Roots.{line_leaf}
use Rattle.commitment.proofs.Folds.{halves, range_row, rows_below, leaf_turned, one_row, put_in, rest_front, rest_behind}
use Rattle.commitment.proofs.Trees.{root_sized}
use Rattle.commitment.proofs.cells.Cells.+fold.Goals as goal

pub fold-requires : goal.fold-requires
fold-requires g t c κs within =
    let h = halves c.args.i c.args.level (omega arith) in
    let r = rows_below c.args.self.now.lengths.width c.args.level (omega arith) in
    (omega arith, (within, (omega (arith, h.middle), ((omega arith, c.requires.room.1), λ n l. c.requires.done n (omega (arith, h.begins))))))

pub fold-requires-else-level-eq0 : goal.fold-requires-else-level-eq0
fold-requires-else-level-eq0 g t c κs within =
    let h = halves c.args.i c.args.level (omega arith) in
    let r = rows_below c.args.self.now.lengths.width c.args.level (omega arith) in (
      omega arith,
      (within, (omega (arith, h.ends), ((simp (length-take, length-drop) (omega arith), omega arith), c.fold.ensures.rows))),
    )

pub returns-then-level-eq0-clause-columns : goal.returns-then-level-eq0-clause-columns
returns-then-level-eq0-clause-columns g t c j l =
    let f = g.H.Hash.meaning in
    let s = c.args.self.now in
    let w = s.lengths.width in
    let i = c.args.i in
    let none : c.args.level ≡ 0 = omega arith in
    let leaf : ℕ → Node = line_leaf f w s.lengths.share s.shares.now (w + j) in
    c.hash_row-root.ensures.leaves j l
    ∙ leaf_turned f w s.lengths.share s.shares.now i j (range_row i c.args.level w c.requires.rows)
    ∙ sym (node_start (join_of plain_rule f) leaf i)
    ∙ ap (λ h. node (join_of plain_rule f) leaf h i) (sym none)

pub returns-then-level-eq0-clause-rows : goal.returns-then-level-eq0-clause-rows
returns-then-level-eq0-clause-rows g t c n l =
    let f = g.H.Hash.meaning in
    let s = c.args.self.now in
    let w = s.lengths.width in
    let i = c.args.i in
    let sized = g.met.H.Hash.sized in
    let none : c.args.level ≡ 0 = omega arith in
    let row : i < w = range_row i c.args.level w c.requires.rows in
    let of : ℕ → Node = λ n. root (join_of plain_rule f) s.lengths.depth (line_leaf f w s.lengths.share s.shares.now n) in
    entries_more of i c.args.roots.now _
    (c.put_entry.ensures.written ∙ put_in i _ c.args.roots.now (omega arith) ∙ ap (λ z. over (digest_len * i) z c.args.roots.now) c.hash_row-root.ensures.root)
    (root_sized f sized (line_leaf f w s.lengths.share s.shares.now i) s.lengths.depth (sized _)) (omega arith)
    (λ m b. c.requires.done m (omega (arith, one_row i c.args.level none))) n (omega (arith, one_row (i + 1) c.args.level none))

pub returns-else-level-eq0-clause-columns : goal.returns-else-level-eq0-clause-columns
returns-else-level-eq0-clause-columns g t c j l =
    let f = g.H.Hash.meaning in
    let J = join_of plain_rule f in
    let s = c.args.self.now in
    let w = s.lengths.width in
    let i = c.args.i in
    let level = c.args.level in
    let up : level - 1 + 1 ≡ level = omega arith in
    let leaf : ℕ → Node = line_leaf f w s.lengths.share s.shares.now (w + j) in
    let work = c.fold.new.work in
    let rest = c.fold-else-level-eq0.new.work in
    c.join_rows.ensures j l
    ∙ ap₂ J (rest_front w j work rest (omega arith) l ∙ c.fold.ensures.columns j l) (rest_behind w j work rest (omega arith) ∙ c.fold-else-level-eq0.ensures.columns j l)
    ∙ sym (node_more J leaf (level - 1) i)
    ∙ ap (λ m. node J leaf m i) up

pub returns-else-level-eq0-clause-rows : goal.returns-else-level-eq0-clause-rows
returns-else-level-eq0-clause-rows g t c n l =
    let h = halves c.args.i c.args.level (omega arith) in
    c.fold-else-level-eq0.ensures.rows n (omega (arith, h.ends))
