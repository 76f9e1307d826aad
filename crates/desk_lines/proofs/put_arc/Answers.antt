-- `desk_lines::put_arc` meets its contract.
-- Assumes nothing.
use Rattle.desk_words.proofs.laws.Storing.{stored_then}
use Rattle.desk_lines.proofs.put_arc.Goals as goal

pub returns-clause-stored : goal.returns-clause-stored
returns-clause-stored c = stored_then c.put_field-after_arc.ensures.stored (stored_then c.put_field-after_start.ensures.stored (stored_then c.put_field-after_end.ensures.stored (stored_then c.put_field-after_weight.ensures.stored c.put_word.ensures)))
