-- `desk_answer::put_arcs` meets its contract. The loop's invariant: the lines of the first i legs are stored.
-- Assumes nothing.
use Rattle.std.proofs.Common.{◌+◌, ◌*◌, ◌≤◌}
use Rattle.lists.specs.Joined.{joined}
use Rattle.planfile.specs.Format.{arcs_to}
use Rattle.desk_words.specs.Stored.{Stored}
use Rattle.desk_answer.specs.AnswerText.{line_of}
use Rattle.desk_answer.proofs.put_arcs.Given as goal

abbrev pub invariant-loop-i : goal.invariant-loop-i
invariant-loop-i l = (l.next ≤ l.at + 102 * l.i) × Stored (joined (line_of l.starts l.ends l.weights) (arcs_to l.file l.i)) l.at l.next l.initial.text l.text
