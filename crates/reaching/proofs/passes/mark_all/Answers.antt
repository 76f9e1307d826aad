-- `reaching::passes::mark_all` meets its contract.
-- Assumes nothing.
use Rattle.reaching.specs.laws.Passing.{pass_completes}
use Rattle.reaching.proofs.passes.mark_all.Goals as goal

pub returns : goal.returns
returns c =
    let s = c.args.arcs in
    pass_completes _ s.starts.now s.ends.now _ _ _ c.loop.invariant c.mark_once.result c.loop-test.false c.mark_once.ensures
