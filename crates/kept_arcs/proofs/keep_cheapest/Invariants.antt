-- `kept_arcs::keep_cheapest` meets its contract. The loop's invariant: the groups so far are kept.
-- Assumes nothing.
use Rattle.std.proofs.Common.{◌≡◌, length}
use Rattle.limits.specs.Limits.{max_nodes}
use Rattle.kept_arcs.specs.laws.Groups.{KeptGroups}
use Rattle.kept_arcs.proofs.keep_cheapest.Given as goal

abbrev pub invariant-loop-v : goal.invariant-loop-v
invariant-loop-v l = (length l.last ≡ max_nodes) × KeptGroups l.starts l.weights l.list l.places l.v l.count l.kept l.begins
