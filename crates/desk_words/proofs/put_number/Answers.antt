-- `desk_words::put_number` meets its contract: the digits that the library writes are those of the number.
-- Assumes nothing.
use Rattle.std.proofs.Common.{◌∙◌}
use Rattle.desk_words.proofs.laws.Decimal.{digits_decimal}
use Rattle.desk_words.proofs.laws.Storing.{stored_same}
use Rattle.desk_words.proofs.put_number.Goals as goal

pub returns-clause-stored : goal.returns-clause-stored
returns-clause-stored c = stored_same (c.decimal-count.ensures.digits ∙ digits_decimal _ _ c.decimal-count.ensures.len) c.put_word.ensures
