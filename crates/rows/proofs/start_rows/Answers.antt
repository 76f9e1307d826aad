-- `rows::start_rows` meets its contract.
-- Assumes nothing.
use Rattle.std.proofs.Common.{rules}
use Rattle.rows.specs.laws.Rows.{started_row, rows_next}
use Rattle.rows.proofs.start_rows.Goals as goal

pub loop-v-preserved : goal.loop-v-preserved
loop-v-preserved c =
    rows_next c.requires.2 c.loop-v-test.true c.loop-v.invariant (search rules)
    (started_row c.terminals_in.ensures c.start_row.ensures)
