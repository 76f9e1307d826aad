-- `planfile::write::put_arcs` meets its contract. The loop's invariant: the records of the legs before i are stored.
-- Assumes nothing.
use Rattle.std.proofs.Common.{◌≡◌, take}
use Rattle.std.proofs.lemmas.List.Edits.{sets}
use Rattle.lists.specs.Joined.{joined}
use Rattle.planfile.specs.Format.{arc_bytes, file_size}
use Rattle.planfile.proofs.write.put_arcs.Given as goal

abbrev pub invariant-loop-i : goal.invariant-loop-i
invariant-loop-i l = l.buffer ≡ sets l.initial.buffer (file_size 0) (joined arc_bytes (take l.i l.arcs))
