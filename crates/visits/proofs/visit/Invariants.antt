-- `visits::visit` meets its contract. The loop's invariant: the cells are lowered along arcs.
-- Assumes nothing.
use Rattle.std.proofs.Common.{◌-◌, ◌≤◌, ◌≡◌, length}
use Rattle.working_none.specs.laws.Low.{entry}
use Rattle.turn_table.specs.laws.Entries.{turn_entries}
use Rattle.visits.specs.laws.ByIndex.{LoweredByIndex}
use Rattle.visits.proofs.visit.Given as goal

abbrev pub invariant-loop-i : goal.invariant-loop-i
invariant-loop-i g l = (entry l.legs.places.now l.v ≤ l.from) × (length l.turns ≡ turn_entries) × LoweredByIndex l.legs.n l.legs.starts.now l.legs.weights.now l.legs.index.now l.legs.places.now l.initial.lanes l.lanes

abbrev pub decreases-loop-i : goal.decreases-loop-i
decreases-loop-i g l = l.end - l.from
