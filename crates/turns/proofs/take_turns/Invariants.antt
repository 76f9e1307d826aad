-- `turns::take_turns` meets its contract. The loop's invariant: the cells are lowered along arcs.
-- Assumes nothing.
use Rattle.std.proofs.Common.{◌≡◌, length}
use Rattle.turn_table.specs.laws.Entries.{turn_entries}
use Rattle.visits.specs.laws.ByIndex.{LoweredByIndex}
use Rattle.turns.proofs.take_turns.Given as goal

abbrev pub invariant-loop : goal.invariant-loop
invariant-loop l = (length l.turns ≡ turn_entries) × LoweredByIndex l.legs.n l.legs.starts.now l.legs.weights.now l.legs.index.now l.legs.places.now l.initial.lanes l.lanes
