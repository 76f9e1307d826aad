-- `layout::plan::lay_out` meets its contract: the legs of the root have room from the first place on.
-- Assumes nothing.
use Rattle.layout.specs.laws.Splitting.{root_placed, root_stored}
use Rattle.layout.proofs.plan.lay_out.Goals as goal

pub follow-requires : goal.follow-requires
follow-requires c =
    let a = c.args in
    let p = c.requires in
    (p.0, root_placed p.0 a.root p.1.0 p.1.1 _ _ c.full.ensures p.1.2)

pub returns : goal.returns
returns c =
    let a = c.args in
    let p = c.requires in
    root_stored p.0 a.root p.1.0 p.1.1 _ _ _ _ c.full.ensures p.1.2 c.follow.ensures
