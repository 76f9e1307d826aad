-- `held_plan::plan_held` meets its contract.
-- Assumes nothing.
use Rattle.best_plan.proofs.laws.Best.{search_finishes}
use Rattle.held_plan.proofs.plan_held.Goals as goal

pub best_plan-requires : goal.best_plan-requires
best_plan-requires c =
    search_finishes c.requires c.args.cells.now c.requires.long.further.cells c.search_indexed.ensures.1.0

pub returns : goal.returns
returns c =
    let filled = c.search_indexed.ensures in
    (filled.0, (filled.1.0, (filled.1.1, c.best_plan.ensures)))
