-- `finite_sites::next_finite` meets its contract. The loop's invariant: the nodes so far have no finite terminal.
-- Assumes nothing.
use Rattle.cost_table.specs.Cells.{cell_in}
use Rattle.finite_sites.specs.laws.Finite.{NoneBetween}
use Rattle.finite_sites.proofs.next_finite.Given as goal

abbrev pub invariant-loop-v : goal.invariant-loop-v
invariant-loop-v l = NoneBetween (cell_in l.cells l.size) l.size l.n l.from l.v
