-- `set_splits::best_splits` meets its contract.
-- Assumes nothing.
use Rattle.std.proofs.Common.{sym, ◌∙◌}
use Rattle.set_splits.specs.laws.FreeParts.{free_best}
use Rattle.set_splits.proofs.best_splits.Goals as goal

pub returns-then-none_empty : goal.returns-then-none_empty
returns-then-none_empty c = free_best c.free_parts-parts.ensures (sym c.none_empty.ensures ∙ c.if-none_empty.true)
    c.lanes_of.ensures c.rest_costs.ensures c.lesser_of.ensures
