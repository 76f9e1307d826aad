-- `desk_lines::put_refusal` meets its contract.
-- Assumes nothing.
use Rattle.desk_words.proofs.laws.Storing.{stored_then}
use Rattle.desk_lines.proofs.put_refusal.Goals as goal

pub returns-clause-stored : goal.returns-clause-stored
returns-clause-stored c = stored_then c.put_field-after_number.ensures.stored (stored_then c.put_field-after_place.ensures.stored c.put_word.ensures)
