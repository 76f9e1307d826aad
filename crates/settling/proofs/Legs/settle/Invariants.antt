-- `Legs::settle` meets its contract. The loop's invariant: the cells are lowered along arcs. The measure is their sum.
-- Assumes nothing.
use Rattle.std.proofs.Common.{length}
use Rattle.lists.specs.Sums.{sum_to}
use Rattle.lent_tables.specs.SheetTables.{arcs_alone}
use Rattle.working_none.specs.laws.Low.{entry}
use Rattle.settling.specs.laws.Arcs.{start_of, end_of, weight_of}
use Rattle.settling.specs.laws.Lowered.{Lowered}
use Rattle.settling.proofs.Legs.settle.Given as goal

abbrev pub invariant-loop-open : goal.invariant-loop-open
invariant-loop-open l = let t = arcs_alone l.self.starts.now l.self.ends.now l.self.weights.now in Lowered (entry l.self.places.now l.self.n) (start_of t l.self.index.now) (end_of t l.self.index.now) (weight_of t l.self.index.now) l.initial.lanes l.lanes

abbrev pub decreases-loop-open : goal.decreases-loop-open
decreases-loop-open l = sum_to (length l.initial.lanes) (entry l.lanes)
