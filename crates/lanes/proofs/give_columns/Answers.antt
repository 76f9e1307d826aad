-- `lanes::give_columns` meets its contract.
-- Assumes nothing.
use Rattle.std.proofs.Common.{arith}
use Rattle.lanes.specs.laws.Columns.{give_next}
use Rattle.lanes.proofs.give_columns.Goals as goal

pub loop-v-preserved : goal.loop-v-preserved
loop-v-preserved c =
    let p = c.requires in
    give_next p.2 (omega arith) p.0 c.loop-v.invariant c.lanes_of.ensures c.write_four.ensures
