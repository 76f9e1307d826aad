-- `kept_arcs::keep_group` meets its contract.
-- Assumes nothing.
use Rattle.std.proofs.Common.{◌∙◌, arith}
use Rattle.kept_arcs.specs.laws.Kept.{kept_next, kept_all}
use Rattle.kept_arcs.specs.laws.Groups.{kept_on_tables}
use Rattle.kept_arcs.proofs.keep_group.Goals as goal

pub keep_arc-count-requires : goal.keep_arc-count-requires
keep_arc-count-requires c =
    let p = c.requires in
    let (long, k) = c.loop-i.invariant in
    let arc = p.4 c.loop-i.i k.onward c.loop-i-test.true in
    (arc.starts_on, arc.weights_on, omega (arith, arc.start_few, long), k.more, omega (arith, k.most, p.2, p.3), omega (arith, k.most, p.2), kept_on_tables k (λ j f t. p.4 j f (omega arith)))

pub loop-i-preserved : goal.loop-i-preserved
loop-i-preserved c = (c.keep_arc-count.auto.last ∙ c.loop-i.invariant.0, kept_next c.loop-i.invariant.1 c.keep_arc-count.ensures)

pub returns : goal.returns
returns c = kept_all (omega (arith, c.requires.1)) c.loop-i.invariant.1
