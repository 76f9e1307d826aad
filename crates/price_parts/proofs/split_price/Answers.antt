-- `price_parts::split_price` meets its contract.
-- Assumes nothing.
use Rattle.std.proofs.Common.{arith}
use Rattle.price_parts.specs.laws.SplittingLaws.{nobody_pays, payers_few, part_fits, paid_more, paid_all}
use Rattle.price_parts.proofs.split_price.Goals as goal

pub returns-then-m-eq0 : goal.returns-then-m-eq0
returns-then-m-eq0 c = nobody_pays _ _ (record { below = c.requires.1; sized = c.size-m.ensures }) c.if-m-eq0.true

pub pay-lower-requires : goal.pay-lower-requires
pay-lower-requires c =
    let paid = c.loop-i.invariant in
    let on = c.loop-i-test.true in (
      omega arith,
      omega (arith, c.requires.0),
      payers_few paid,
      part_fits _ (record { below = c.requires.1; sized = c.size-m.ensures }) paid c.requires.2 on,
    )

pub loop-i-preserved : goal.loop-i-preserved
loop-i-preserved c =
    paid_more _ (record { below = c.requires.1; sized = c.size-m.ensures }) c.loop-i.invariant c.loop-i-test.true c.pay-lower.ensures

pub returns : goal.returns
returns c =
    paid_all _ (record { below = c.requires.1; sized = c.size-m.ensures }) c.if-m-eq0.false c.loop-i.invariant (omega arith)
