-- `desk_words::put_field` meets its contract.
-- Assumes nothing.
use Rattle.desk_words.proofs.laws.Storing.{stored_then}
use Rattle.desk_words.proofs.put_field.Goals as goal

pub returns-clause-stored : goal.returns-clause-stored
returns-clause-stored c = stored_then c.put_word-next.ensures c.put_number.ensures.stored
