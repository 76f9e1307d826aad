-- `price_parts::split_listed` meets its contract.
-- Assumes nothing.
use Rattle.std.proofs.Common.{arith}
use Rattle.price_parts.specs.laws.ListedLaws.{listed_asked, listed_fits}
use Rattle.price_parts.proofs.split_listed.Goals as goal

pub split_arc-unpaid-requires : goal.split_arc-unpaid-requires
split_arc-unpaid-requires c = listed_asked c.requires c.loop-i.invariant c.loop-i-test.true c.arc.ensures.number

pub overflow_add-unpaid : goal.overflow_add-unpaid
overflow_add-unpaid c =
    omega (arith, listed_fits c.requires c.loop-i.invariant c.loop-i-test.true c.arc.ensures.number c.split_arc-unpaid.ensures)
