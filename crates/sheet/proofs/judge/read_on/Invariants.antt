-- `sheet::judge::read_on` meets its contract. The loop's invariant: the reading is underway. The measure is the number of bytes left.
-- Assumes nothing.
use Rattle.std.proofs.Common.{◌-◌, length}
use Rattle.sheet.specs.laws.Underway.{Underway}
use Rattle.sheet.proofs.judge.read_on.Given as goal

abbrev pub invariant-loop-next : goal.invariant-loop-next
invariant-loop-next l = Underway l.sheet l.state

abbrev pub decreases-loop-next : goal.decreases-loop-next
decreases-loop-next l = length l.sheet - l.state.offset
