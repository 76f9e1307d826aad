-- `set_splits::least_splits` meets its contract.
-- Assumes nothing.
use Rattle.std.proofs.Common.{sym, ◌∙◌, arith}
use Rattle.set_splits.specs.laws.BestSplit.{four_no_more}
use Rattle.set_splits.specs.laws.PairSums.{pair_small, at_none, at_asked, at_small, at_next, at_all}
use Rattle.set_splits.proofs.least_splits.Goals as goal

pub returns-then-not-both_finite : goal.returns-then-not-both_finite
returns-then-not-both_finite c = four_no_more c.lanes_of-best.ensures c.lanes_of.ensures c.lanes_of-2.ensures
    (sym c.both_finite.ensures ∙ c.if-not-both_finite.true)

pub loop-y-init : goal.loop-y-init
loop-y-init c = at_none c.lanes_of-best.ensures

pub pair_sums-sums-requires : goal.pair_sums-sums-requires
pair_sums-sums-requires c = at_asked c.requires.0 c.loop-y.invariant

pub lesser_of-best-requires : goal.lesser_of-best-requires
lesser_of-best-requires c = (pair_small (at_asked c.requires.0 c.loop-y.invariant) c.pair_sums-sums.ensures, at_small c.requires.0 c.loop-y.invariant)

pub loop-y-preserved : goal.loop-y-preserved
loop-y-preserved c = at_next (omega (arith, c.loop-y-test.true)) c.pair_sums-sums.ensures c.lesser_of-best.ensures c.loop-y.invariant

pub returns : goal.returns
returns c = at_all (omega (arith, c.loop-y-test.false)) c.loop-y.invariant
