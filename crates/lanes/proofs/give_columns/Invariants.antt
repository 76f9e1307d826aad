-- `lanes::give_columns` meets its contract. The loop's invariant: the nodes from v on have what the lanes have.
-- Assumes nothing.
use Rattle.lanes.specs.laws.Four.{nth}
use Rattle.lanes.specs.laws.Columns.{GivenFrom}
use Rattle.lanes.proofs.give_columns.Given as goal

abbrev pub invariant-loop-v : goal.invariant-loop-v
invariant-loop-v l = GivenFrom l.size (nth l.sets) l.lanes l.n l.v l.initial.cells l.cells
