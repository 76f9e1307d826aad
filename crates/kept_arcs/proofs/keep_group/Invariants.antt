-- `kept_arcs::keep_group` meets its contract. The loop's invariant: the legs so far are kept.
-- Assumes nothing.
use Rattle.std.proofs.Common.{◌≡◌, length}
use Rattle.limits.specs.Limits.{max_nodes}
use Rattle.kept_arcs.specs.laws.Kept.{KeptTo}
use Rattle.kept_arcs.proofs.keep_group.Given as goal

abbrev pub invariant-loop-i : goal.invariant-loop-i
invariant-loop-i l = (length l.last ≡ max_nodes) × KeptTo l.starts l.weights l.list l.from l.i l.first l.count l.initial.kept l.kept
