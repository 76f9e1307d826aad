-- `serving::seats::enter_terminal` meets its contract.
-- Assumes nothing.
use Rattle.serving.specs.laws.Serving.{seated}
use Rattle.serving.proofs.seats.enter_terminal.Goals as goal

pub returns-in-Some : goal.returns-in-Some
returns-in-Some c ways =
    seated _ ways _ _ _ _ _ c.in-Some.seat c.single.result.0 c.in-Some.ensures.lowest c.single.ensures (c.enter_above.ensures ways)
