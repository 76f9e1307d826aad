-- `splits::split_rows` meets its contract. The loop's invariant: the nodes so far are split.
-- Assumes nothing.
use Rattle.std.proofs.Common.{◌-◌, ◌≤◌, ◌≡◌, length}
use Rattle.order_ranges.specs.laws.Ranges.{entry_of}
use Rattle.splits.specs.laws.SplitRows.{SplitTo}
use Rattle.splits.proofs.split_rows.Given as goal

abbrev pub invariant-loop-v : goal.invariant-loop-v
invariant-loop-v l = (l.from ≤ l.n) × (length l.by_set ≡ length l.initial.by_set) × SplitTo (entry_of l.sets) l.first l.last l.n l.size l.from l.initial.cells l.cells

abbrev pub decreases-loop-v : goal.decreases-loop-v
decreases-loop-v l = l.n - l.from
