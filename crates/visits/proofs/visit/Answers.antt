-- `visits::visit` meets its contract.
-- Assumes nothing.
use Rattle.std.proofs.Common.{◌≤◌, ◌∙◌, arith}
use Rattle.working_none.specs.laws.Low.{entry}
use Rattle.settling.specs.laws.LowerFour.{along_small}
use Rattle.settling.specs.laws.ByIndex.{InGroup, here_low}
use Rattle.visits.specs.laws.ByIndex.{still_some, in_group, group_from, group_arc}
use Rattle.visits.proofs.visit.Goals as goal
use Rattle.visits.proofs.visit.Given.{Over}
use Rattle.visits.proofs.visit.Goals.{In-Some}

-- the entry that is found is one of the group of v
onward : (g : Over) (c : In-Some g) → entry c.args.legs.places.now c.args.v ≤ c.in-Some.i
onward g c = omega (arith, c.loop-i.invariant.0, c.in-Some.ensures.1.before.onward)

known : (g : Over) (c : In-Some g) → InGroup c.args.legs.starts.now c.args.legs.weights.now c.args.legs.index.now c.loop-i.lanes c.in-Some.i
known g c = in_group c.requires.2 c.requires.1 c.loop-i.invariant.2 (onward g c) c.in-Some.ensures.0

pub next_falling-requires : goal.next_falling-requires
next_falling-requires g c =
    (here_low c.requires.2 c.requires.1 c.lanes_of-here.ensures, group_from c.requires.2 c.requires.1 c.loop-i.invariant.2 c.loop-i.invariant.0)

pub lower_in_turn-requires : goal.lower_in_turn-requires
lower_in_turn-requires g c =
    let e = known g (goal.at.lower_in_turn-requires g c).In-Some in
    let low = here_low c.requires.2 c.requires.1 c.lanes_of-here.ensures in
    let lanes = still_some c.loop-i.invariant.2 c.requires.2 in
    (c.loop-i.invariant.1, e.start_lt, e.fits, lanes.indexed.low, along_small low e.weight_low c.along-by.ensures)

pub loop-i-preserved : goal.loop-i-preserved
loop-i-preserved g c =
    let on = onward g (goal.at.loop-i-preserved g c).In-Some in
    (omega (arith, on), c.lower_in_turn.auto.turns ∙ c.loop-i.invariant.1, group_arc c.loop-i.invariant.2 c.requires.1 on c.in-Some.ensures.0 c.lanes_of-here.ensures c.along-by.ensures c.lower_in_turn.ensures)
