-- `Legs::first_open` meets its contract.
-- Assumes nothing.
use Rattle.std.proofs.Common.{arith}
use Rattle.settling.specs.laws.ByIndex.{before_next, open_here, within_all, falling_end, open_none}
use Rattle.settling.proofs.Legs.first_open.Goals as goal

pub returns-in-Some : goal.returns-in-Some
returns-in-Some c =
    let (less, found) = c.in-Some.ensures in
    (within_all c.requires c.loop-v-test.true less, open_here c.loop-v.invariant c.loop-v-test.true c.lanes_of.ensures found less)

pub loop-v-preserved : goal.loop-v-preserved
loop-v-preserved c = before_next c.loop-v.invariant c.loop-v-test.true c.lanes_of.ensures (falling_end c.in-None.ensures) (omega arith)

pub returns : goal.returns
returns c = open_none c.loop-v.invariant c.loop-v-test.false
