-- `Legs::next_falling` meets its contract.
-- Assumes nothing.
use Rattle.std.proofs.Common.{arith}
use Rattle.settling.specs.laws.ByIndex.{falls_next}
use Rattle.settling.proofs.Legs.next_falling.Goals as goal

pub offset_bounds-self-i : goal.offset_bounds-self-i
offset_bounds-self-i c = omega (arith, c.requires.1.each c.loop-i.i c.loop-i.invariant.onward c.loop-i-test.true)

pub loop-i-preserved : goal.loop-i-preserved
loop-i-preserved c = falls_next c.along-given.ensures c.falls.ensures c.loop-i.invariant c.if-falls.false
