-- `best_plan::best_plan` meets its contract.
-- Assumes nothing.
use Rattle.best_plan.proofs.laws.Best.{of_full, none_sent}
use Rattle.best_plan.proofs.best_plan.Goals as goal

pub returns-then-cost : goal.returns-then-cost
returns-then-cost c =
    let pre = c.requires in
    rw c.into.ensures (none_sent pre _ c.best_root-root.ensures _
    (of_full pre c.best_root-root.result c.full.result.0 c.sender_cell-cost.result c.sender_cell-cost.ensures c.full.ensures) c.if-cost.true _)
