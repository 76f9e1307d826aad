-- `Legs::first_open` meets its contract. The loop's invariant: the arcs that end at the nodes before v give no cell less.
-- Assumes nothing.
use Rattle.settling.specs.laws.ByIndex.{ClosedBefore}
use Rattle.settling.proofs.Legs.first_open.Given as goal

abbrev pub invariant-loop-v : goal.invariant-loop-v
invariant-loop-v l = ClosedBefore l.self.n l.self.starts.now l.self.weights.now l.self.index.now l.self.places.now l.lanes l.v l.first
