-- `Legs::lower_from` meets its contract.
-- Assumes nothing.
use Rattle.std.proofs.Common.{refl, arith}
use Rattle.settling.specs.laws.LowerFour.{along_asked, along_small}
use Rattle.settling.specs.laws.Lowered.{along_arc, passed_next, still_lanes}
use Rattle.settling.proofs.Legs.lower_from.Goals as goal

pub lower-requires : goal.lower-requires
lower-requires c =
    let lanes = still_lanes c.loop-i.invariant.lowered c.requires in
    let (low, light) = along_asked lanes c.loop-i-test.true c.lanes_of.ensures in
    ((lanes.known c.loop-i.i c.loop-i-test.true).start_fits, lanes.low, along_small low light c.along-given.ensures)

pub loop-i-preserved : goal.loop-i-preserved
loop-i-preserved c =
    passed_next c.loop-i.invariant (omega arith) c.loop-i-test.true (along_arc _ _ c.lanes_of.ensures c.along-given.ensures refl refl) c.lower.ensures
