-- `splits::take_rows` meets its contract.
-- Assumes nothing.
use Rattle.std.proofs.Common.{arith}
use Rattle.lanes.specs.laws.Columns.{take_next}
use Rattle.splits.proofs.take_rows.Goals as goal

pub loop-w-preserved : goal.loop-w-preserved
loop-w-preserved c = take_next (omega (arith, c.requires.1)) c.loop-w.invariant c.read_rows.ensures c.set_lanes.ensures
