-- `rows::start_row` meets its contract. The loop's invariant: the first w cells are written.
-- Assumes nothing.
use Rattle.lists.specs.Values.{ValuesTo}
use Rattle.rows.specs.laws.Start.{start_cell}
use Rattle.rows.proofs.start_row.Given as goal

abbrev pub invariant-loop-w : goal.invariant-loop-w
invariant-loop-w l = ValuesTo (start_cell l.landings.0) l.w l.initial.row l.row
