-- `serving::parents::set_parents` meets its contract.
-- Assumes nothing.
use Rattle.std.proofs.Common.{length}
use Rattle.serving.specs.laws.WaysUp.{parents_listed}
use Rattle.serving.proofs.parents.set_parents.Goals as goal

pub loop-i-preserved : goal.loop-i-preserved
loop-i-preserved c =
    let s = c.args.arcs in
    let pre = c.requires in
    parents_listed s.listing.file.now s.starts.now s.ends.now s.listing.count (length c.args.parents.now) _ c.arc-e.result pre.0 pre.2 c.loop-i-test.true
    c.arc-e.ensures.number c.loop-i.parents c.loop-i.auto.parents c.loop-i.invariant
