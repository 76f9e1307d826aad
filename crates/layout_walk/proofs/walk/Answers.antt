-- `layout_walk::walk` meets its contract.
-- Assumes nothing.
use Rattle.std.proofs.Common.{lt_of_lt_of_le}
use Rattle.layout_walk.specs.laws.Following.{arcs_held, walk_ends, arc_held, arc_fits, end_walked, end_falls, walk_stops}
use Rattle.layout_walk.proofs.walk.Goals as goal

pub fitting_arc-requires : goal.fitting_arc-requires
fitting_arc-requires c = arcs_held c.requires.0 c.loop-w.invariant

pub returns-in_default : goal.returns-in_default
returns-in_default c = walk_stops c.requires.0 c.loop-w.invariant c.is_done.ensures c.loop-w-test.true c.in_default.ensures

pub bounds-out-place : goal.bounds-out-place
bounds-out-place c = arc_fits c.requires.0 c.loop-w.invariant c.is_done.ensures c.loop-w-test.true c.in-Some.ensures

pub bounds-sheet-e : goal.bounds-sheet-e
bounds-sheet-e c =
    let ready = c.requires.0 in
    lt_of_lt_of_le (arc_held ready c.loop-w.invariant c.is_done.ensures c.loop-w-test.true c.in-Some.ensures) ready.long.ends

pub loop-w-smaller : goal.loop-w-smaller
loop-w-smaller c = end_falls c.requires.0 c.loop-w.invariant c.is_done.ensures c.loop-w-test.true c.in-Some.ensures

pub loop-w-preserved : goal.loop-w-preserved
loop-w-preserved c = end_walked c.requires.0 c.loop-w.invariant c.is_done.ensures c.loop-w-test.true c.in-Some.ensures

pub returns : goal.returns
returns c = walk_ends c.requires.0 c.loop-w.invariant c.is_done.ensures c.loop-w-test.false
