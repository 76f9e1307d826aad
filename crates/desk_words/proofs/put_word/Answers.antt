-- `desk_words::put_word` meets its contract.
-- Assumes nothing.
use Rattle.desk_words.proofs.laws.Storing.{stored_byte}
use Rattle.desk_words.proofs.put_word.Goals as goal

pub loop-i-preserved : goal.loop-i-preserved
loop-i-preserved c = stored_byte _ _ _ c.loop-i-test.true c.loop-i.invariant c.put.ensures
