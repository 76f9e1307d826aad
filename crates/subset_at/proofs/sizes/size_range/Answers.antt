-- `size_range` meets its contract.
-- Assumes nothing.
use Rattle.std.proofs.Common.{arith}
use Rattle.subset_at.specs.laws.Sizes.{first_size, in_stations, last_small, size_product, next_size, size_found}
use Rattle.subset_at.proofs.sizes.size_range.Goals as goal

pub loop-count-init : goal.loop-count-init
loop-count-init c = first_size c.requires.0 c.requires.1

pub overflow_sub-count : goal.overflow_sub-count
overflow_sub-count c = in_stations c.loop-count.invariant

pub overflow_mul-count : goal.overflow_mul-count
overflow_mul-count c = omega (arith, size_product c.loop-count.invariant)

pub overflow_add-count : goal.overflow_add-count
overflow_add-count c = omega (arith, in_stations c.loop-count.invariant, c.requires.0)

pub overflow_add-size : goal.overflow_add-size
overflow_add-size c = omega (arith, in_stations c.loop-count.invariant, c.requires.0)

pub loop-count-smaller : goal.loop-count-smaller
loop-count-smaller c = omega (arith, in_stations c.loop-count.invariant)

pub loop-count-preserved : goal.loop-count-preserved
loop-count-preserved c = next_size c.loop-count.invariant c.loop-count-test.true

pub overflow_add-result : goal.overflow_add-result
overflow_add-result c = omega (arith, last_small c.loop-count.invariant)

pub returns : goal.returns
returns c = size_found c.loop-count.invariant c.loop-count-test.false
