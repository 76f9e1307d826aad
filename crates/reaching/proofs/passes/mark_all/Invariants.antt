-- `reaching::passes::mark_all` meets its contract. The loop's invariant: a marking of any root is still one. The measure is the number of
-- nodes that are not marked.
-- Assumes nothing.
use Rattle.std.proofs.Common.{length}
use Rattle.marking.specs.Listed.{listed_in, graph_along}
use Rattle.marking.specs.Marking.{Carried}
use Rattle.reaching.specs.Passes.{unmarked}
use Rattle.reaching.proofs.passes.mark_all.Given as goal

abbrev pub invariant-loop : goal.invariant-loop
invariant-loop l = Carried (graph_along (length l.initial.marks) l.arcs) (listed_in l.arcs) l.initial.marks l.marks

abbrev pub decreases-loop : goal.decreases-loop
decreases-loop l = unmarked (length l.initial.marks) l.marks
