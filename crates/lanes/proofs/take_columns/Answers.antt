-- `lanes::take_columns` meets its contract.
-- Assumes nothing.
use Rattle.std.proofs.Common.{arith}
use Rattle.lanes.specs.laws.Columns.{take_next}
use Rattle.lanes.proofs.take_columns.Goals as goal

pub loop-v-preserved : goal.loop-v-preserved
loop-v-preserved c = take_next (omega (arith, c.requires.1)) c.loop-v.invariant c.read_four.ensures c.set_lanes.ensures
