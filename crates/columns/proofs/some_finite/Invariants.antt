-- `columns::some_finite` meets its contract. The loop's invariant: where nothing is found so far, the entries so far are "none".
-- Assumes nothing.
use Rattle.std.proofs.Common.{◌≡◌, false}
use Rattle.columns.specs.laws.NoneFinite.{NoneTo}
use Rattle.columns.proofs.some_finite.Given as goal

abbrev pub invariant-loop-cost : goal.invariant-loop-cost
invariant-loop-cost l = l.found ≡ false → NoneTo l.lanes l.cost-index
