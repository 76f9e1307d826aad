-- `layout_steps::CostedSheet::fitting_arc` meets its contract. The loop's invariant: no leg before `from` fits. The measure is the number of legs
-- left.
-- Assumes nothing.
use Rattle.std.proofs.Common.{ℕ, ◌≤◌, ◌<◌, ◌-◌, not, T}
use Rattle.layout_steps.specs.Costed.{arc_tables_in}
use Rattle.layout_steps.specs.Steps.{fits_in}
use Rattle.layout_steps.proofs.CostedSheet.fitting_arc.Given as goal

abbrev pub invariant-loop-i : goal.invariant-loop-i
invariant-loop-i l = (l.from ≤ l.self.arcs)
    × ((j : ℕ) → j < l.from → T (not (fits_in l.self.terminals l.self.arcs (arc_tables_in l.self) l.self.cells.now l.v l.w.0 j)))

abbrev pub decreases-loop-i : goal.decreases-loop-i
decreases-loop-i l = l.self.arcs - l.from
