-- `questions::sender_question::best_sender_in` meets its contract: where the tests are passed, the lowest of the cheapest senders is named, where its
-- cell is finite.
-- Assumes nothing.
use Rattle.std.proofs.Common.{sym, ◌∙◌, arith}
use Rattle.landing_entries.specs.Entries.{is_sender_at}
use Rattle.cost_table.specs.Cheapest.{column_in}
use Rattle.questions.proofs.laws.Tested.{ranged, table_limits, table_long, sender_stands}
use Rattle.questions.proofs.laws.Best.{best_named, best_none}
use Rattle.questions.proofs.sender_question.best_sender_in.Goals as goal

pub is_long-requires : goal.is_long-requires
is_long-requires c = table_limits _ _ _ c.sets_for-sets.ensures (ranged _ _ (sym c.in_range.ensures ∙ c.if-not-in_range.false))

pub returns-then-sender_cell-lt-NO_COST : goal.returns-then-sender_cell-lt-NO_COST
returns-then-sender_cell-lt-NO_COST c =
    let a = c.args in
    let long = table_long _ _ _ c.sets_for-sets.ensures _ _ c.is_long.ensures c.if-not-is_long.false in
    sym
    (sender_stands a.cells.now a.landings.now a.n a.k a.w (sym c.in_range.ensures ∙ c.if-not-in_range.false) long c.if-landings-n.false
    (omega (arith, c.if-sets-w.false, c.sets_for-sets.ensures))
    ∙ best_named (is_sender_at a.landings.now) (column_in a.cells.now a.k a.w) a.n _ c.cheapest_sender-node.ensures _ c.sender_cell.ensures (omega (arith, c.if-sender_cell-lt-NO_COST.true)))

pub returns : goal.returns
returns c =
    let a = c.args in
    let long = table_long _ _ _ c.sets_for-sets.ensures _ _ c.is_long.ensures c.if-not-is_long.false in
    sym
    (sender_stands a.cells.now a.landings.now a.n a.k a.w (sym c.in_range.ensures ∙ c.if-not-in_range.false) long c.if-landings-n.false
    (omega (arith, c.if-sets-w.false, c.sets_for-sets.ensures))
    ∙ best_none (is_sender_at a.landings.now) (column_in a.cells.now a.k a.w) a.n _ c.cheapest_sender-node.ensures _ c.sender_cell.ensures (omega (arith, c.if-sender_cell-lt-NO_COST.false)))
