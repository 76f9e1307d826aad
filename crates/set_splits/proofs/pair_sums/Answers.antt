-- `set_splits::pair_sums` meets its contract.
-- Assumes nothing.
use Rattle.set_splits.specs.laws.FourCosts.{sum_small}
use Rattle.set_splits.specs.laws.PairSums.{first_low, second_low}
use Rattle.set_splits.proofs.pair_sums.Goals as goal

pub sum_of-one-requires : goal.sum_of-one-requires
sum_of-one-requires c = first_low c.requires c.costs_from.ensures c.costs_from-2.ensures

pub sum_of-other-requires : goal.sum_of-other-requires
sum_of-other-requires c = second_low c.requires c.costs_from-3.ensures c.costs_from-4.ensures

pub lesser_of-requires : goal.lesser_of-requires
lesser_of-requires c =
    let p = c.requires in
    let (one, other) = first_low p c.costs_from.ensures c.costs_from-2.ensures in
    let (one', other') = second_low p c.costs_from-3.ensures c.costs_from-4.ensures in
    (sum_small one other c.sum_of-one.ensures, sum_small one' other' c.sum_of-other.ensures)
