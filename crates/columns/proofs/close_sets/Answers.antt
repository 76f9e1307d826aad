-- `columns::close_sets` meets its contract.
-- Assumes nothing.
use Rattle.std.proofs.Common.{◌+◌, ◌∙◌, arith}
use Rattle.lent_tables.specs.SheetTables.{arcs_alone}
use Rattle.order_ranges.specs.laws.Ranges.{entry_of}
use Rattle.columns.specs.laws.ClosedCells.{SetsClosed, sets_tables, four_small, sets_next, sets_all}
use Rattle.columns.proofs.close_sets.Goals as goal
use Rattle.columns.proofs.close_sets.Goals.{After-close_four}

pub close_four-requires : goal.close_four-requires
close_four-requires c =
    (sets_tables c.requires.3 c.loop-position.invariant.2 c.loop-position.invariant.1, four_small c.requires.0 c.requires.1 c.loop-position-test.true c.sets_at-four.ensures)

-- the next four sets are closed too
next : (c : After-close_four) → SetsClosed c.args.legs.n c.args.arcs c.args.size (arcs_alone c.args.legs.starts.now c.args.legs.ends.now c.args.legs.weights.now)
    (entry_of c.args.sets.now) c.args.first (c.loop-position.position + 4) c.args.last c.args.cells.now c.close_four.new.cells
next c = sets_next c.requires.0 c.requires.1 c.loop-position-test.true c.sets_at-four.ensures c.requires.3.arcs c.loop-position.invariant.0 c.loop-position.invariant.2 c.close_four.ensures

pub loop-position-preserved : goal.loop-position-preserved
loop-position-preserved c =
    (omega (arith, c.loop-position.invariant.0), c.close_four.auto.lanes ∙ c.loop-position.invariant.1, next (goal.at.loop-position-preserved c).After-close_four)

pub returns-2 : goal.returns-2
returns-2 c = sets_all (omega arith) (next (goal.at.returns-2 c).After-close_four)
