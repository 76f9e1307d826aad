-- `serving::parents::enter_above` meets its contract. The loop's invariant: the way up has come to site v, and what is entered with what is above v is
-- what is to be entered.
-- Assumes nothing.
use Rattle.std.proofs.Common.{◌<◌, length}
use Rattle.serving.specs.Parents.{Ways}
use Rattle.serving.specs.laws.WaysUp.{Upward}
use Rattle.serving.proofs.parents.enter_above.Given as goal

abbrev pub invariant-loop : goal.invariant-loop
invariant-loop l =
    (l.v < length l.parents) × ((ways : Ways l.parents) → Upward l.parents ways l.seat l.terminal.0 l.initial.served l.served l.v l.counter)
