-- `at` meets its contract. The loop's invariant: what is chosen, with the way that is left, is the subset at the position; the stations that are passed
-- and those that are left are all.
-- Assumes nothing.
use Rattle.std.proofs.Common.{◌≡◌, ◌+◌}
use Rattle.limits.specs.Limits.{max_terminals}
use Rattle.order.specs.Order.{in_order}
use Rattle.subset_at.specs.laws.Choices.{Open, wanted}
use Rattle.subset_at.proofs.at.Given as goal

abbrev pub invariant-loop-passed : goal.invariant-loop-passed
invariant-loop-passed l = Open l.choice × (wanted l.choice ≡ in_order l.position) × (l.choice.stations + l.passed ≡ max_terminals)
