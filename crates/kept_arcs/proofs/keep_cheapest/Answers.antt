-- `kept_arcs::keep_cheapest` meets its contract.
-- Assumes nothing.
use Rattle.std.proofs.Common.{◌+◌, ◌<◌, ◌∙◌, arith, length, length-set}
use Rattle.kept_arcs.specs.laws.Groups.{groups_next}
use Rattle.kept_arcs.proofs.keep_cheapest.Goals as goal

pub keep_group-count-requires : goal.keep_group-count-requires
keep_group-count-requires c =
    let p = c.requires in
    let v = c.loop-v.v in
    let (long, l) = c.loop-v.invariant in
    let on = c.loop-v-test.true in
    (long, p.0.rises v on, omega (arith, l.low v (omega arith), l.here, p.0.place_le (v + 1) (omega arith)), omega (arith, p.1), λ j f t. p.0.arc_at_lem v j on f t)

pub loop-v-preserved : goal.loop-v-preserved
loop-v-preserved c =
    let begins = c.loop-v.begins in
    let fits : c.loop-v.v + 1 < length begins = omega (arith, c.requires.2, length-set c.args.begins.now 0 0) in
    (c.keep_group-count.auto.last ∙ c.loop-v.invariant.0, groups_next begins fits c.loop-v.invariant.1 c.keep_group-count.ensures)
