-- `turns::take_turns` meets its contract.
-- Assumes nothing.
use Rattle.std.proofs.Common.{◌∙◌, arith}
use Rattle.visits.specs.laws.ByIndex.{still_some, index_more}
use Rattle.turns.proofs.take_turns.Goals as goal

pub visit-new-requires : goal.visit-new-requires
visit-new-requires c =
    (c.leave-other.auto.turns ∙ c.loop.invariant.0, omega (arith, c.if-legs-v.false), still_some c.loop.invariant.1 c.requires.1)

pub loop-preserved : goal.loop-preserved
loop-preserved c =
    (c.visit-new.auto.turns ∙ c.leave-other.auto.turns ∙ c.loop.invariant.0, index_more c.loop.invariant.1 c.visit-new.ensures)
