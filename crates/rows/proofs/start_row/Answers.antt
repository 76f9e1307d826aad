-- `rows::start_row` meets its contract.
-- Assumes nothing.
use Rattle.std.proofs.Common.{arith}
use Rattle.lists.specs.Values.{next_value, all_values}
use Rattle.rows.proofs.start_row.Goals as goal

pub loop-w-preserved : goal.loop-w-preserved
loop-w-preserved c = next_value (omega arith) c.start_cell.ensures c.loop-w.invariant

pub returns : goal.returns
returns c = all_values {v = c.loop-w.w} (omega arith) (omega arith) c.loop-w.invariant
