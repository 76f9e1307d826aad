-- `set_splits::free_part` meets its contract.
-- Assumes nothing.
use Rattle.std.proofs.Common.{arith}
use Rattle.set_splits.specs.laws.FourCosts.{set_costs}
use Rattle.set_splits.specs.laws.FreeParts.{lowest_free}
use Rattle.set_splits.proofs.free_part.Goals as goal

pub returns : goal.returns
returns c = lowest_free (set_costs c.args.by_set.now c.args.j) c.args.w c.args.heard (omega (arith, c.if-by_set-lowest-gt0.false))
