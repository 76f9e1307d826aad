-- `splits::split_four` meets its contract. The loop's invariant: the sets at the positions so far are split.
-- Assumes nothing.
use Rattle.order_ranges.specs.laws.Ranges.{entry_of}
use Rattle.lanes.specs.laws.Four.{nth}
use Rattle.splits.specs.laws.SplitRows.{FourSplit}
use Rattle.splits.proofs.split_four.Given as goal

abbrev pub invariant-loop-position : goal.invariant-loop-position
invariant-loop-position l = FourSplit (entry_of l.sets) l.first l.position l.size (nth l.rows) l.initial.cells l.cells
