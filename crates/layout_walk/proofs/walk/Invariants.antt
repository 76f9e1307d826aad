-- `layout_walk::walk` meets its contract. The loop's invariant: the legs listed so far and those of the site are the legs of v. The measure
-- is the size of the set combined with the cell's cost: it falls with every leg.
-- Assumes nothing.
use Rattle.layout_steps.specs.Costed.{costed_graph}
use Rattle.layout_walk.specs.laws.Walk.{Walked}
use Rattle.layout_walk.specs.laws.Arcs.{load}
use Rattle.layout_walk.proofs.walk.Given as goal

abbrev pub invariant-loop-w : goal.invariant-loop-w
invariant-loop-w l = Walked (costed_graph l.sheet) l.sheet.cells.now l.v l.w.0 l.at l.initial.out l.out l.node l.place

abbrev pub decreases-loop-w : goal.decreases-loop-w
decreases-loop-w l = load l.sheet.terminals l.sheet.cells.now l.node l.w.0
