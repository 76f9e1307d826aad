-- `layout_steps::block_has` meets its contract. The loop's invariant: where nothing is found so far, no leg of the block before the index starts
-- at v.
-- Assumes nothing.
use Rattle.std.proofs.Common.{◌+◌, ◌≡◌, false}
use Rattle.layout_steps.specs.laws.Passing.{PassedOver}
use Rattle.layout_steps.proofs.block_has.Given as goal

abbrev pub invariant-loop-start : goal.invariant-loop-start
invariant-loop-start l = l.found ≡ false → PassedOver l.starts l.v l.from l.end (l.from + l.start-index)
