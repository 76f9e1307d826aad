-- `order::copy_order` meets its contract. The loop's invariant: the subsets at the positions so far are written. The table of the source is the order,
-- which is computed here once.
-- Assumes nothing.
use Rattle.std.proofs.Common.{◌≡◌, length}
use Rattle.limits.specs.Limits.{max_subsets}
use Rattle.lists.specs.Values.{ValuesTo}
use Rattle.order.specs.Order.{in_order}
use Rattle.order.proofs.copy_order.Given as goal

abbrev pub invariant-loop-position : goal.invariant-loop-position
invariant-loop-position l = (length l.initial.sets ≡ max_subsets) × ValuesTo in_order l.position l.initial.sets l.sets
