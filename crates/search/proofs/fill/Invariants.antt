-- `search::fill` meets its contract. The loop's invariant: the sets at the positions below `first` are closed.
-- Assumes nothing.
use Rattle.std.proofs.Common.{◌-◌, ◌*◌, ◌≤◌, ◌<◌, ◌≡◌, length}
use Rattle.lent_tables.specs.SheetTables.{with_landings}
use Rattle.graph.specs.HeldGraph.{graph_in}
use Rattle.order_ranges.specs.laws.Ranges.{entry_of}
use Rattle.cost_table.specs.Cells.{cell_in}
use Rattle.working_none.specs.laws.WorkingNone.{working_none}
use Rattle.settling.specs.laws.Legs.{tables_of}
use Rattle.search.specs.laws.Filling.{Filling}
use Rattle.search.proofs.fill.Given as goal

abbrev pub invariant-loop-first : goal.invariant-loop-first
invariant-loop-first l = (0 < l.first) × (l.first ≤ length l.sets) × (length l.lanes ≡ length l.initial.lanes) × (length l.cells ≡ l.legs.n * l.size) × Filling (graph_in l.legs.n l.k l.arcs (with_landings l.landings (tables_of l.legs))) working_none (entry_of l.sets) l.first l.first (cell_in l.cells l.size)

abbrev pub decreases-loop-first : goal.decreases-loop-first
decreases-loop-first l = length l.sets - l.first
