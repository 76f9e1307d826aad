-- `rows::start_rows` meets its contract. The loop's invariant: the rows so far are as they are before the search.
-- Assumes nothing.
use Rattle.rows.specs.laws.Rows.{EachRow, StartRow}
use Rattle.rows.proofs.start_rows.Given as goal

abbrev pub invariant-loop-v : goal.invariant-loop-v
invariant-loop-v l = EachRow (StartRow l.landings) l.n l.size l.v l.initial.cells l.cells
