-- `columns::close_four` meets its contract.
-- Assumes nothing.
use Rattle.columns.specs.laws.Searched.{taken_some, turned_lanes}
use Rattle.columns.specs.laws.ClosedCells.{four_closed}
use Rattle.columns.proofs.close_four.Goals as goal

pub lower_by_turns-requires : goal.lower_by_turns-requires
lower_by_turns-requires c =
    taken_some c.requires.0 c.requires.1 c.take_columns.ensures

pub settle-requires : goal.settle-requires
settle-requires c =
    turned_lanes c.requires.0 c.requires.1 c.take_columns.ensures c.lower_by_turns.ensures

pub returns : goal.returns
returns c =
    four_closed c.requires.0 c.requires.1 c.take_columns.ensures c.lower_by_turns.ensures c.settle.ensures c.give_columns.ensures
