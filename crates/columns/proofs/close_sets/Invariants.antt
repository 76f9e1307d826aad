-- `columns::close_sets` meets its contract. The loop's invariant: the sets at the positions so far are closed.
-- Assumes nothing.
use Rattle.std.proofs.Common.{◌≤◌, ◌≡◌, length}
use Rattle.lent_tables.specs.SheetTables.{arcs_alone}
use Rattle.order_ranges.specs.laws.Ranges.{entry_of}
use Rattle.columns.specs.laws.ClosedCells.{SetsClosed}
use Rattle.columns.proofs.close_sets.Given as goal

abbrev pub invariant-loop-position : goal.invariant-loop-position
invariant-loop-position l = (l.first ≤ l.position) × (length l.lanes ≡ length l.initial.lanes) × SetsClosed l.legs.n l.arcs l.size (arcs_alone l.legs.starts.now l.legs.ends.now l.legs.weights.now) (entry_of l.sets) l.first l.position l.last l.initial.cells l.cells
