use Rattle.std.proofs.Common.{◌-◌, refl, inl, inr, arith}
use Rattle.octets.proofs.Windows.{laid_from, laid_none}
use Rattle.octets.proofs.window.lay.Goals as goal

pub returns-then-from-part : goal.returns-then-from-part
returns-then-from-part c =
    laid_from c.args.block.now c.overlay.new.block c.args.part.now c.args.start c.args.begin (omega arith)
    0 (c.args.start - c.args.begin) (omega arith) (inl refl) c.overlay.ensures

pub returns-else-from-part : goal.returns-else-from-part
returns-else-from-part c =
    laid_none c.args.block.now c.args.block.now c.args.part.now c.args.start c.args.begin refl (inr (omega arith)) refl

pub returns-then-at-block : goal.returns-then-at-block
returns-then-at-block c =
    laid_from c.args.block.now c.overlay-then-at-block.new.block c.args.part.now c.args.start c.args.begin (omega arith)
    (c.args.begin - c.args.start) 0 (omega arith) (inr refl) c.overlay-then-at-block.ensures

pub returns-else-at-block : goal.returns-else-at-block
returns-else-at-block c =
    laid_none c.args.block.now c.args.block.now c.args.part.now c.args.start c.args.begin refl (inl (omega arith)) refl
