-- `Legs::settle` meets its contract.
-- Assumes nothing.
use Rattle.std.proofs.Common.{refl}
use Rattle.settling.specs.laws.Lowered.{sum_falls, settled_end}
use Rattle.settling.specs.laws.Settling.{still_asked, some_arcs, first_of}
use Rattle.settling.proofs.Legs.settle.Goals as goal

pub first_open-requires : goal.first_open-requires
first_open-requires c = some_arcs (still_asked c.requires c.loop-open.invariant)

pub lower_from-requires : goal.lower_from-requires
lower_from-requires c = (still_asked c.requires c.loop-open.invariant).listed

pub loop-open-smaller : goal.loop-open-smaller
loop-open-smaller c =
    let lanes = still_asked c.requires c.loop-open.invariant in
    let (on, found) = c.in-Some.ensures in
    sum_falls c.loop-open.invariant (first_of lanes found) on c.lower_from.ensures (lanes.listed.known _ on).start_fits

pub returns : goal.returns
returns c = settled_end refl c.loop-open.invariant (first_of (still_asked c.requires c.loop-open.invariant) c.in_default.ensures)
