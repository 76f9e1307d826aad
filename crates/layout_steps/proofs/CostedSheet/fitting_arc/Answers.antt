-- `layout_steps::CostedSheet::fitting_arc` meets its contract.
-- Assumes nothing.
use Rattle.std.proofs.Common.{arith}
use Rattle.layout_steps.specs.Costed.{arc_tables_in}
use Rattle.layout_steps.specs.Steps.{fits_in}
use Rattle.layout_steps.specs.laws.Tests.{fits_at, found_at, found_nothing, not_yet}
use Rattle.layout_steps.specs.laws.Passing.{passed_unfit}
use Rattle.layout_steps.proofs.CostedSheet.fitting_arc.Goals as goal

pub returns-then-arc_fits : goal.returns-then-arc_fits
returns-then-arc_fits c =
    let s = c.args.self in
    let w = c.args.w.0 in
    let (on, passed) = c.in-Some.ensures in
    found_at (fits_in s.terminals s.arcs (arc_tables_in s) s.cells.now c.args.v w) s.arcs _ on
    (fits_at s.terminals s.arcs (arc_tables_in s) s.cells.now c.args.v w _ _ _ _ _ on c.cell-cost.ensures c.cell-far.ensures c.arc_fits.ensures
    c.if-arc_fits.true)
    (passed_unfit s.terminals s.arcs (arc_tables_in s) s.cells.now c.args.v w _ _ passed c.loop-i.invariant.1)

pub loop-i-preserved : goal.loop-i-preserved
loop-i-preserved c =
    let s = c.args.self in
    let w = c.args.w.0 in
    let (on, passed) = c.in-Some.ensures in (
      omega (arith, on),
      not_yet (fits_in s.terminals s.arcs (arc_tables_in s) s.cells.now c.args.v w) _
          (fits_at s.terminals s.arcs (arc_tables_in s) s.cells.now c.args.v w _ _ _ _ _ on c.cell-cost.ensures c.cell-far.ensures c.arc_fits.ensures
          c.if-arc_fits.false)
          (passed_unfit s.terminals s.arcs (arc_tables_in s) s.cells.now c.args.v w _ _ passed c.loop-i.invariant.1),
    )

pub returns : goal.returns
returns c =
    let s = c.args.self in
    let w = c.args.w.0 in
    found_nothing (fits_in s.terminals s.arcs (arc_tables_in s) s.cells.now c.args.v w) s.arcs
    (passed_unfit s.terminals s.arcs (arc_tables_in s) s.cells.now c.args.v w _ _ c.in_default.ensures c.loop-i.invariant.1)
