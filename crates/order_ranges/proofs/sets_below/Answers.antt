-- `order_ranges::sets_below` meets its contract.
-- Assumes nothing.
use Rattle.std.proofs.Common.{refl, inl, inr}
use Rattle.order_ranges.specs.laws.Kept.{kept_none, kept_next, kept_all}
use Rattle.order_ranges.proofs.sets_below.Goals as goal
use Rattle.order_ranges.proofs.sets_below.Goals.{then-w-size, else-w-size}

pub loop-position-init : goal.loop-position-init
loop-position-init c = kept_none c.copy_order.ensures

pub loop-position-preserved : goal.loop-position-preserved
loop-position-preserved c =
    elim c.if-w-size.branch [
      | then-w-size w ↦ kept_next c.loop-position.invariant c.loop-position-test.true refl (λ t. t) (λ t. t) (inl (w.if-w-size.true, w.count-is))
      | else-w-size w ↦ kept_next c.loop-position.invariant c.loop-position-test.true refl (λ t. t) (λ t. t) (inr (w.if-w-size.false, w.count-is))
    ]

pub returns : goal.returns
returns c = kept_all c.requires.1 c.loop-position-test.false c.loop-position.invariant
