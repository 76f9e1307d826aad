-- `reaching::passes::mark_once` meets its contract.
-- Assumes nothing.
use Rattle.std.proofs.Common.{refl}
use Rattle.planfile.specs.Format.{listed_arc}
use Rattle.reaching.specs.laws.Passing.{passing_arc}
use Rattle.reaching.proofs.passes.mark_once.Goals as goal

pub loop-i-preserved : goal.loop-i-preserved
loop-i-preserved c =
    let arc = c.arc.ensures in
    passing_arc _ _ _ _ c.requires _ arc.on (listed_arc c.args.arcs.listing.file.now) _ _ _ _ _ c.mark_end-marked.result _ refl arc.number
    c.loop-i.invariant c.mark_end-marked.ensures refl
