-- The text of an answer, by the tables and the plan buffer that it leaves, and how long it is at most.
-- Assumes nothing.
use Rattle.std.specs.Prelude.{ℕ, ◌+◌, ◌*◌, List, [], ◌++◌, get_or}
use Rattle.lists.specs.Joined.{joined}
use Rattle.answer.specs.Stated.{Stated, plan, shared, cell, sender, no_sender, refused}
use Rattle.planfile.specs.Format.{arcs_to}
use Rattle.desk_lines.specs.Lines.{refusal_line, first_line, arc_line}

-- the line of leg e, by the entries of the tables
abbrev pub line_of : (starts ends weights : List ℕ) → ℕ → List ℕ
line_of starts ends weights e = arc_line e (get_or starts e 0) (get_or ends e 0) (get_or weights e 0)

-- a plan is listed by the tables and the plan buffer
abbrev pub answer_text : Stated → (starts ends weights buffer : List ℕ) → List ℕ
answer_text (plan root cost count) starts ends weights buffer =
    first_line root cost count ++ joined (line_of starts ends weights) (arcs_to buffer count)
answer_text (refused family number place) starts ends weights buffer = refusal_line number place
answer_text (cell cost) starts ends weights buffer = []
answer_text (sender node) starts ends weights buffer = []
answer_text no_sender starts ends weights buffer = []
answer_text (shared root cost count rest) starts ends weights buffer = []

-- how many legs are listed
abbrev pub listed_legs : Stated → ℕ
listed_legs (plan root cost count) = count
listed_legs (refused family number place) = 0
listed_legs (cell cost) = 0
listed_legs (sender node) = 0
listed_legs no_sender = 0
listed_legs (shared root cost count rest) = 0

-- no text that lists so many legs has more bytes
abbrev pub most_bytes : ℕ → ℕ
most_bytes count = 79 + 102 * count
