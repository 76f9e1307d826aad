-- `sheet::judge::judge` meets its contract. The reading is underway after the head.
-- Assumes nothing.
use Rattle.std.proofs.Common.{sym, ap, ◌∙◌, Err}
use Rattle.std.proofs.lemmas.Result.{err_from_is_err_and}
use Rattle.sheet.specs.laws.Underway.{underway_opened, not_opened}
use Rattle.sheet.specs.laws.Judged.{judged_of}
use Rattle.sheet.proofs.judge.judge.Goals as goal

pub read_on-requires : goal.read_on-requires
read_on-requires c = underway_opened _ _ (sym c.begin.ensures ∙ c.in_ok-begin.was)

pub returns-in_err-begin : goal.returns-in_err-begin
returns-in_err-begin c =
    let p = err_from_is_err_and c.from_residual.result c.from_residual.ensures.1 in
    p.1 ∙ ap Err p.2 ∙ ap judged_of (sym (not_opened _ _ (sym c.begin.ensures ∙ c.in_err-begin.was)))
