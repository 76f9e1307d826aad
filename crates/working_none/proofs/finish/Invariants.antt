-- `working_none::finish` meets its contract. The loop's invariant: the first cells are finished.
-- Assumes nothing.
use Rattle.lists.specs.Values.{ValuesTo}
use Rattle.working_none.specs.laws.WorkingNone.{finished}
use Rattle.working_none.specs.laws.Low.{entry}
use Rattle.working_none.proofs.finish.Given as goal

abbrev pub invariant-loop-cost : goal.invariant-loop-cost
invariant-loop-cost l = ValuesTo (λ j. finished (entry l.initial.cells j)) l.cost-index l.initial.cells l.cells
