-- `reaching::passes::mark_once` meets its contract. The loop's invariant: the pass has gone over the first i listed arcs.
-- Assumes nothing.
use Rattle.std.proofs.Common.{length}
use Rattle.planfile.specs.Format.{arcs_to}
use Rattle.marking.specs.Listed.{listed_in, graph_along}
use Rattle.reaching.specs.Passes.{Passing}
use Rattle.reaching.proofs.passes.mark_once.Given as goal

abbrev pub invariant-loop-i : goal.invariant-loop-i
invariant-loop-i l = Passing (graph_along (length l.initial.marks) l.arcs) (listed_in l.arcs) (arcs_to l.arcs.listing.file.now l.i) l.initial.marks l.marks l.marked
