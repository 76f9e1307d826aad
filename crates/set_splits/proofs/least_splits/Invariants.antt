-- `set_splits::least_splits` meets its contract. The loop's invariant: the pairs of splits by the parts above y have been tried. The measure is y.
-- Assumes nothing.
use Rattle.set_splits.specs.laws.PairSums.{TriedAt}
use Rattle.set_splits.proofs.least_splits.Given as goal

abbrev pub invariant-loop-y : goal.invariant-loop-y
invariant-loop-y l = TriedAt l.by_set l.w l.y l.best

abbrev pub decreases-loop-y : goal.decreases-loop-y
decreases-loop-y l = l.y
