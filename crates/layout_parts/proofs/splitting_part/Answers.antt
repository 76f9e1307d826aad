-- `layout_parts::splitting_part` meets its contract.
-- Assumes nothing.
use Rattle.std.proofs.Common.{arith}
use Rattle.layout_parts.specs.Parts.{splits_in}
use Rattle.layout_steps.specs.laws.Tests.{found_at, found_nothing}
use Rattle.layout_parts.specs.laws.PartTests.{splits_at}
use Rattle.layout_parts.proofs.splitting_part.Goals as goal

pub returns-then-part_splits : goal.returns-then-part_splits
returns-then-part_splits c =
    let a = c.args in
    let s = a.sheet in
    found_at (splits_in s.terminals s.cells.now a.v a.w.0) a.w.0 _ c.loop-y-test.true
    (splits_at s.terminals s.cells.now a.v a.w.0 _ _ _ _ (omega (arith, c.loop-y.auto.y)) c.cell-cost.ensures
    c.part_splits.ensures c.if-part_splits.true) c.loop-y.invariant

pub returns : goal.returns
returns c =
    let a = c.args in
    let s = a.sheet in
    found_nothing (splits_in s.terminals s.cells.now a.v a.w.0) a.w.0 (λ j l. c.loop-y.invariant j (omega (arith, l, c.loop-y-test.false)))
