-- `finite_sites::has_finite` meets its contract.
-- Assumes nothing.
use Rattle.finite_sites.specs.laws.Finite.{looked_next, looked_all}
use Rattle.finite_sites.proofs.has_finite.Goals as goal

pub loop-one-preserved : goal.loop-one-preserved
loop-one-preserved c = looked_next c.loop-one.invariant c.if-cells-row-lt-WORKING_NONE.false

pub returns : goal.returns
returns c = λ e. looked_all c.loop-one.invariant c.loop-one-test.false
