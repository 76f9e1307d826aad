-- `arc_rows::mark_row` meets its contract.
-- Assumes nothing.
use Rattle.arc_rows.specs.laws.RowLaws.{row_same, row_more}
use Rattle.arc_rows.proofs.mark_row.Goals as goal
use Rattle.arc_rows.proofs.mark_row.Goals.{then-mark_end, else-mark_end}

pub loop-preserved : goal.loop-preserved
loop-preserved c =
    let within = c.requires.0.within in
    let on = c.arc-e.ensures.on in
    let row = c.loop.invariant in
    let given = c.mark_end.ensures in
    elim c.if-mark_end.branch [
      | then-mark_end w ↦ row_more _ _ _ _ within _ on _ _ _ _ _ _ _ _ c.mark_end.result row given w.push-tail.ensures w.queue-is w.tail-is
      | else-mark_end w ↦ row_same _ _ _ _ within _ on _ _ _ _ _ _ c.mark_end.result row given w.queue-is w.tail-is
    ]
