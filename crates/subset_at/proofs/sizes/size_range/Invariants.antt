-- `size_range` meets its contract. The loop's invariant: the position is at or behind the first set of this size.
-- Assumes nothing.
use Rattle.std.proofs.Common.{◌+◌, ◌-◌}
use Rattle.subset_at.specs.laws.Sizes.{SizeFrom}
use Rattle.subset_at.proofs.sizes.size_range.Given as goal

abbrev pub invariant-loop-count : goal.invariant-loop-count
invariant-loop-count l = SizeFrom l.k l.position l.size l.first l.count

abbrev pub decreases-loop-count : goal.decreases-loop-count
decreases-loop-count l = l.k + 1 - l.size
