-- `set_ranges::put_sizes` meets its contract.
-- Assumes nothing.
use Rattle.std.proofs.Common.{arith, rules}
use Rattle.lists.specs.Values.{next_value, all_values}
use Rattle.set_ranges.proofs.put_sizes.Goals as goal

pub loop-w-preserved : goal.loop-w-preserved
loop-w-preserved c = next_value (omega arith) (search rules) c.loop-w.invariant

pub returns : goal.returns
returns c = all_values {v = c.loop-w.w} (omega arith) (omega arith) c.loop-w.invariant
