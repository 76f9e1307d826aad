-- `best_plan::lay_best` meets its contract.
-- Assumes nothing.
use Rattle.std.proofs.Common.{arith}
use Rattle.best_plan.proofs.laws.Best.{plan_fits, plan_sent}
use Rattle.best_plan.proofs.lay_best.Goals as goal

pub write_best-requires : goal.write_best-requires
write_best-requires c =
    let (finished, root) = c.requires in
    let (laid, counted) = c.lay_out-count.ensures in
    rw c.from.ensures (plan_fits finished root _ _ _ laid counted (omega arith))

pub returns : goal.returns
returns c =
    let (finished, root) = c.requires in
    let (laid, counted) = c.lay_out-count.ensures in
    plan_sent finished root _ _ _ laid counted (rw c.from.ensures at c.write_best.ensures)
