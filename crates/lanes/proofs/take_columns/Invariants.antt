-- `lanes::take_columns` meets its contract. The loop's invariant: the columns of the sites so far are taken.
-- Assumes nothing.
use Rattle.lanes.specs.laws.Four.{nth}
use Rattle.lanes.specs.laws.Columns.{ColumnsTaken}
use Rattle.lanes.proofs.take_columns.Given as goal

abbrev pub invariant-loop-v : goal.invariant-loop-v
invariant-loop-v l = ColumnsTaken l.size (nth l.sets) l.cells l.v l.initial.lanes l.lanes
