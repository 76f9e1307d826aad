-- `desk_answer::put_answer` meets its contract: a plan's first line and the lines of its legs.
-- Assumes nothing.
use Rattle.std.proofs.Common.{sym, ap}
use Rattle.answer.specs.Stated.{stated}
use Rattle.desk_answer.proofs.laws.Listed.{stored_plan}
use Rattle.desk_answer.proofs.put_answer.Goals as goal

pub returns-in-Ok-clause-stored : goal.returns-in-Ok-clause-stored
returns-in-Ok-clause-stored c =
    let given = c.args in
    stored_plan given.starts.now given.ends.now given.weights.now given.buffer.now (ap stated (sym c.in-Ok.is)) c.put_first-next.ensures.stored c.put_arcs.ensures.stored
