-- `desk_lines::put_first` meets its contract.
-- Assumes nothing.
use Rattle.desk_words.proofs.laws.Storing.{stored_then}
use Rattle.desk_lines.proofs.put_first.Goals as goal

pub returns-clause-stored : goal.returns-clause-stored
returns-clause-stored c = stored_then c.put_field-after_root.ensures.stored (stored_then c.put_field-after_total.ensures.stored (stored_then c.put_field-after_arcs.ensures.stored c.put_word.ensures))
