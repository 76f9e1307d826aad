-- A line of each kind, by computation.
-- Assumes nothing.
use Rattle.std.specs.Prelude.{◌≡◌, refl}
use Rattle.desk_words.specs.Words.{ascii, decimal}
use Rattle.desk_lines.specs.Lines.{refusal_line, first_line, arc_line}

-- document 01's F, and the first two lines of its A
pub lines_settled :
    (refusal_line 7 5 ≡ ascii "refused 7 at 5\n")
    × (first_line 0 10 3 ≡ ascii "root 0 total 10 legs 3\n")
    × (arc_line 0 0 1 4 ≡ ascii "leg 0 from 0 to 1 price 4\n")
unfolding decimal
lines_settled = (refl, refl, refl)
