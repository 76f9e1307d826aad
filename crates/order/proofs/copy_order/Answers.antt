-- `order::copy_order` meets its contract.
-- Assumes nothing.
use Rattle.std.proofs.Common.{ℕ, ap, ◌∙◌, List, map, arith, get_or}
use lib.Count.{ones_in}
use Rattle.lists.specs.Numbers.{numbers}
use Rattle.lists.specs.Values.{no_values, next_value, all_values}
use Rattle.order.specs.Order.{of_size, order_by, in_order}
use Rattle.order.proofs.laws.Rule.{computed}
use Rattle.order.proofs.copy_order.Goals as goal

pub loop-position-init : goal.loop-position-init
loop-position-init c = (c.requires, no_values)

pub loop-position-preserved : goal.loop-position-preserved
unfolding in_order order_by of_size ones_in
loop-position-preserved c = (c.loop-position.invariant.0, next_value (omega (arith, c.loop-position-test.true, c.loop-position.invariant.0, c.loop-position.invariant.1.same_length)) (ap (λ (l : List ℕ). get_or l c.loop-position.position 0) computed) c.loop-position.invariant.1)

pub returns : goal.returns
returns c = all_values (omega (arith, c.requires)) (omega (arith, c.loop-position.invariant.0, c.loop-position.invariant.1.same_length)) c.loop-position.invariant.1 ∙ ap (λ (m : ℕ). map in_order (numbers 0 m)) c.requires
