-- `Legs::lower_from` meets its contract. The loop's invariant: the cells are lowered by the arcs so far.
-- Assumes nothing.
use Rattle.lent_tables.specs.SheetTables.{arcs_alone}
use Rattle.settling.specs.laws.Arcs.{start_of, end_of, weight_of}
use Rattle.settling.specs.laws.Lowered.{PassedTo}
use Rattle.settling.proofs.Legs.lower_from.Given as goal

abbrev pub invariant-loop-i : goal.invariant-loop-i
invariant-loop-i l = let t = arcs_alone l.self.starts.now l.self.ends.now l.self.weights.now in PassedTo l.count (start_of t l.self.index.now) (end_of t l.self.index.now) (weight_of t l.self.index.now) l.from l.i l.initial.lanes l.lanes
