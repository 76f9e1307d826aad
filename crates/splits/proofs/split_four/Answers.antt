-- `splits::split_four` meets its contract.
-- Assumes nothing.
use Rattle.std.proofs.Common.{◌<◌, refl, arith, length}
use Rattle.order_ranges.specs.laws.Ranges.{not_empty}
use Rattle.lanes.specs.laws.Four.{nth}
use Rattle.splits.specs.laws.FourRows.{rows_fit, taken_costs, best_in_table}
use Rattle.splits.specs.laws.SplitRows.{still_rows, four_next, four_all}
use Rattle.splits.proofs.split_four.Goals as goal

pub best_splits-requires : goal.best_splits-requires
best_splits-requires c =
    let on : c.loop-position.position < length c.args.sets.now = omega (arith, c.requires.1.bound) in
    let later : 0 < c.loop-position.position = omega (arith, c.requires.2) in
    (taken_costs c.requires.3 c.requires.4 (c.requires.0.below c.loop-position.position on) c.take_rows.ensures, not_empty _ _ _ c.requires.0 c.loop-position.position later on)

pub write_rows-requires : goal.write_rows-requires
write_rows-requires c =
    rows_fit (still_rows c.requires.3 c.loop-position.invariant)
    (c.requires.0.below c.loop-position.position (omega (arith, c.requires.1.bound)))

pub loop-position-preserved : goal.loop-position-preserved
loop-position-preserved c =
    let asked = c.requires in
    let small = asked.0.below c.loop-position.position (omega (arith, asked.1.bound)) in
    let best = best_in_table c.args.cells.now (nth c.args.rows) small c.take_rows.ensures c.best_splits.ensures in
    four_next asked.0 asked.1 (omega arith) c.loop-position-test.true asked.3 c.loop-position.invariant refl best c.write_rows.ensures

pub returns : goal.returns
returns c = four_all (omega (arith, c.requires.1.rising)) c.loop-position.invariant
