-- `desk_words::put_word` meets its contract. The loop's invariant: the first i bytes of the word are stored.
-- Assumes nothing.
use Rattle.std.proofs.Common.{◌+◌, take}
use Rattle.desk_words.specs.Stored.{Stored}
use Rattle.desk_words.proofs.put_word.Given as goal

abbrev pub invariant-loop-i : goal.invariant-loop-i
invariant-loop-i l = Stored (take l.i l.word) l.at (l.at + l.i) l.initial.text l.text
