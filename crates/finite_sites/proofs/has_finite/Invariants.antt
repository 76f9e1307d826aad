-- `finite_sites::has_finite` meets its contract. The loop's invariant: the terminals so far are not finite by themselves.
-- Assumes nothing.
use Rattle.std.proofs.Common.{◌-◌}
use Rattle.cost_table.specs.Cells.{cell_in}
use Rattle.finite_sites.specs.laws.Finite.{LookedAt}
use Rattle.finite_sites.proofs.has_finite.Given as goal

abbrev pub invariant-loop-one : goal.invariant-loop-one
invariant-loop-one l = LookedAt (cell_in l.cells l.size l.v) l.one

abbrev pub decreases-loop-one : goal.decreases-loop-one
decreases-loop-one l = l.size - l.one
