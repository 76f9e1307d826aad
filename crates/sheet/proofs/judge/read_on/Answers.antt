-- `sheet::judge::read_on` meets its contract. Each step goes on, ends or stops the reading that is underway.
-- Assumes nothing.
use Rattle.std.proofs.Common.{sym, ap, ◌∙◌, Ok, Err}
use Rattle.std.proofs.lemmas.Result.{err_from_is_err_and}
use Rattle.sheet.specs.laws.Underway.{underway_next, falls}
use Rattle.sheet.specs.laws.Judged.{judged_end, judged_fault_lem}
use Rattle.sheet.proofs.judge.read_on.Goals as goal

pub returns-in_err-next : goal.returns-in_err-next
returns-in_err-next c =
    let p = err_from_is_err_and c.from_residual.result c.from_residual.ensures.1 in
    p.1 ∙ ap Err p.2 ∙ judged_fault_lem c.args.sheet.now c.loop-next.state c.loop-next.invariant _ (sym c.step.ensures ∙ c.in_err-next.was)

pub loop-next-smaller : goal.loop-next-smaller
loop-next-smaller c =
    falls c.args.sheet.now c.loop-next.state c.loop-next.invariant _ (sym c.step.ensures ∙ c.in_ok-next.was ∙ ap Ok c.in-Some.is)

pub loop-next-preserved : goal.loop-next-preserved
loop-next-preserved c =
    underway_next c.args.sheet.now c.loop-next.state c.loop-next.invariant _ (sym c.step.ensures ∙ c.in_ok-next.was ∙ ap Ok c.in-Some.is)

pub returns : goal.returns
returns c =
    judged_end c.args.sheet.now c.loop-next.state c.loop-next.invariant (sym c.step.ensures ∙ c.in_ok-next.was ∙ ap Ok c.in_default.is)
