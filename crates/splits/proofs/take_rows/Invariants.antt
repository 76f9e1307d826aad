-- `splits::take_rows` meets its contract. The loop's invariant: the first w sets have the cells of the nodes.
-- Assumes nothing.
use Rattle.lanes.specs.laws.Four.{nth}
use Rattle.splits.specs.laws.FourRows.{RowsTaken}
use Rattle.splits.proofs.take_rows.Given as goal

abbrev pub invariant-loop-w : goal.invariant-loop-w
invariant-loop-w l = RowsTaken l.cells l.size (nth l.rows) l.w l.initial.by_set l.by_set
