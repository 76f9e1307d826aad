-- `at` meets its contract.
-- Assumes nothing.
use Rattle.std.proofs.Common.{refl, sym, ◌∙◌, arith}
use Rattle.order.proofs.laws.Rule.{below}
use Rattle.subset_at.specs.laws.Choices.{first_ways, first_set, all_chosen}
use Rattle.subset_at.proofs.at.Goals as goal

pub loop-passed-init : goal.loop-passed-init
loop-passed-init c = let r = c.size_range-range.ensures in (first_ways r, first_set r, refl)

pub next-choice-requires : goal.next-choice-requires
next-choice-requires c =
    let (ways, same, left) = c.loop-passed.invariant in
    (ways, omega (arith, same, below _ c.requires), omega (arith, left, c.loop-passed-test.true))

pub loop-passed-preserved : goal.loop-passed-preserved
loop-passed-preserved c =
    let (ways, same, left) = c.loop-passed.invariant in
    let (ways', same', left') = c.next-choice.ensures in
    (ways', same' ∙ same, omega (arith, left, left'))

pub returns : goal.returns
returns c =
    let (ways, same, left) = c.loop-passed.invariant in
    let last = c.loop-passed.choice in
    sym (all_chosen last.stations last.size last.before last.chosen (omega (arith, left, c.loop-passed-test.false))) ∙ same
