-- `best_plan::write_best` meets its contract.
-- Assumes nothing.
use Rattle.std.proofs.Common.{Err, ap, ◌∙◌}
use Rattle.best_plan.proofs.laws.Best.{sent_file, sent_short, never_none}
use Rattle.best_plan.proofs.write_best.Goals as goal

pub unreachable-requires : goal.unreachable-requires
unreachable-requires c =
    never_none _ _ _ _ c.requires _ _ c.write_plan.ensures (c.in-Err-NoFile.is ∙ ap Err c.in-Err-NoFile.field-0-is)

pub returns-in-Ok : goal.returns-in-Ok
returns-in-Ok c = sent_file _ _ _ _ c.requires _ _ c.write_plan.ensures _ c.in-Ok.is

pub returns-in-Err-ShortBuffer : goal.returns-in-Err-ShortBuffer
returns-in-Err-ShortBuffer c =
    let short = c.in-Err-ShortBuffer in
    rw c.into.ensures (sent_short _ _ _ _ c.requires _ _ c.write_plan.ensures (short.is ∙ ap Err short.field-0-is))
