-- `arc_rows::walk` meets its contract. The loop's invariant: the rows of the nodes in the queue so far have marked. The measure is the room
-- that is left in the queue.
-- Assumes nothing.
use Rattle.std.proofs.Common.{◌-◌, length}
use Rattle.marking.specs.Listed.{listed_in, graph_along}
use Rattle.arc_rows.specs.Rows.{RowMarked}
use Rattle.arc_rows.proofs.walk.Given as goal

abbrev pub invariant-loop-at : goal.invariant-loop-at
invariant-loop-at l =
    RowMarked (graph_along (length l.initial.marks) l.arcs) (listed_in l.arcs) l.initial.marks l.marks l.queue l.tail

abbrev pub decreases-loop-at : goal.decreases-loop-at
decreases-loop-at l = length l.initial.queue - l.at
