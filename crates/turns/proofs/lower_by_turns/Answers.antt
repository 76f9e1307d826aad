-- `turns::lower_by_turns` meets its contract.
-- Assumes nothing.
use Rattle.std.proofs.Common.{◌∙◌}
use Rattle.visits.specs.laws.ByIndex.{still_some, index_more}
use Rattle.turns.proofs.lower_by_turns.Goals as goal

pub take_turns-requires : goal.take_turns-requires
take_turns-requires c = (c.loop-round.invariant.0, still_some c.loop-round.invariant.1 c.requires)

pub loop-round-preserved : goal.loop-round-preserved
loop-round-preserved c = (c.take_turns.auto.turns ∙ c.loop-round.invariant.0, index_more c.loop-round.invariant.1 c.take_turns.ensures)
