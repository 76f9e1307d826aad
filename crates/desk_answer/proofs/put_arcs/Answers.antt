-- `desk_answer::put_arcs` meets its contract: the line of one leg more.
-- Assumes nothing.
use Rattle.std.proofs.Common.{ap, arith}
use Rattle.desk_words.proofs.laws.Storing.{stored_same, stored_then}
use Rattle.desk_answer.specs.AnswerText.{line_of}
use Rattle.desk_answer.proofs.laws.Listed.{lines_more}
use Rattle.desk_answer.proofs.put_arcs.Goals as goal

pub loop-i-preserved : goal.loop-i-preserved
loop-i-preserved c =
    let given = c.args in
    let line = line_of given.starts.now given.ends.now given.weights.now in (
      omega (arith, c.put_arc-next.ensures.upper_bound, c.loop-i.invariant.0),
      stored_same (lines_more line given.file.now c.loop-i.i)
          (stored_then c.loop-i.invariant.1 (stored_same (ap line c.arc_at-e.ensures) c.put_arc-next.ensures.stored)),
    )
