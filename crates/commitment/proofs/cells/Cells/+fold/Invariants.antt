use Rattle.commitment.proofs.cells.Cells.+fold.Given as goal

abbrev pub decreases-fold : goal.decreases-fold
decreases-fold g l = l.level
