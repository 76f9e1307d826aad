-- `questions::cell_question::cell_in` meets its contract: there are as many sets as a table may have.
-- Assumes nothing.
use Rattle.std.proofs.Common.{sym, ◌∙◌}
use Rattle.questions.proofs.laws.Tested.{ranged, table_limits}
use Rattle.questions.proofs.cell_question.cell_in.Goals as goal

pub is_long-requires : goal.is_long-requires
is_long-requires c = table_limits _ _ _ c.sets_for-sets.ensures (ranged _ _ (sym c.in_range.ensures ∙ c.if-not-in_range.false))
