-- `Legs::next_falling` meets its contract. The loop's invariant: the arcs from the first entry up to entry i give no cell less.
-- Assumes nothing.
use Rattle.settling.specs.laws.ByIndex.{NoneFalls}
use Rattle.settling.proofs.Legs.next_falling.Given as goal

abbrev pub invariant-loop-i : goal.invariant-loop-i
invariant-loop-i l = NoneFalls l.self.starts.now l.self.weights.now l.self.index.now l.lanes l.here l.from l.i
