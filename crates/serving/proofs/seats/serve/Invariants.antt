-- `serving::seats::serve` meets its contract. The loop's invariant: the stations before station i are entered.
-- Assumes nothing.
use Rattle.serving.specs.Parents.{Ways}
use Rattle.serving.specs.Seats.{ServedBy}
use Rattle.serving.proofs.seats.serve.Given as goal

abbrev pub invariant-loop-i : goal.invariant-loop-i
invariant-loop-i l = (ways : Ways l.parents) → ServedBy l.parents ways l.marks l.landings l.i l.served
