-- `arc_rows::mark_row` meets its contract. The loop's invariant: some of the row has marked.
-- Assumes nothing.
use Rattle.std.proofs.Common.{length}
use Rattle.marking.specs.Listed.{listed_in, graph_along}
use Rattle.arc_rows.specs.Rows.{RowMarked}
use Rattle.arc_rows.proofs.mark_row.Given as goal

abbrev pub invariant-loop : goal.invariant-loop
invariant-loop l =
    RowMarked (graph_along (length l.initial.marks) l.arcs) (listed_in l.arcs) l.initial.marks l.marks l.queue l.tail
