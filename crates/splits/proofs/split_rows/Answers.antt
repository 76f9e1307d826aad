-- `splits::split_rows` meets its contract.
-- Assumes nothing.
use Rattle.std.proofs.Common.{◌∙◌, arith}
use Rattle.splits.specs.laws.SplitRows.{to_skip, to_after}
use Rattle.splits.proofs.split_rows.Goals as goal

pub loop-v-smaller : goal.loop-v-smaller
loop-v-smaller c =
    let four = c.four_finite-four.ensures in
    omega (arith, c.in-Some.ensures.1.onward, c.in-Some.ensures.0, four.low 3 (omega arith))

pub heard_at-heard-requires : goal.heard_at-heard-requires
heard_at-heard-requires c =
    let four = c.four_finite-four.ensures in
    let long = c.requires.8 in
    (omega (arith, four.high 0 (omega arith), four.within), omega (arith, four.high 1 (omega arith), four.within), omega (arith, four.high 2 (omega arith), four.within), omega (arith, four.within))

pub loop-v-preserved : goal.loop-v-preserved
loop-v-preserved c =
    let four = c.four_finite-four.ensures in
    let p = c.requires in
    let so_far = to_skip p.0 p.1 c.loop-v.invariant.2 c.in-Some.ensures.1 in
    (omega (arith, four.within), c.split_four.auto.by_set ∙ c.loop-v.invariant.1, to_after p.0 p.1 p.5 so_far four c.split_four.ensures)

pub returns : goal.returns
returns c = let p = c.requires in to_skip p.0 p.1 c.loop-v.invariant.2 c.in_default.ensures
