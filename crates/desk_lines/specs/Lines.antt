-- The lines of the desk program's text (document 01, "The desk program and worked sheets"): a refusal, the first line of a listing, and the line of a
-- leg. Every line ends in a line feed.
-- Assumes nothing.
use Rattle.std.specs.Prelude.{ℕ, List, ◌++◌}
use Rattle.desk_words.specs.Words.{ascii, decimal}

-- "`refused N at P`"
abbrev pub refusal_line : (number place : ℕ) → List ℕ
refusal_line number place = ascii "refused " ++ (decimal number ++ (ascii " at " ++ (decimal place ++ ascii "\n")))

-- "First line: sending site, cents, number of legs"
abbrev pub first_line : (root cost count : ℕ) → List ℕ
first_line root cost count =
    ascii "root " ++ (decimal root ++ (ascii " total " ++ (decimal cost ++ (ascii " legs " ++ (decimal count ++ ascii "\n")))))

-- "others: leg number, start, end, cents"
abbrev pub arc_line : (e start end weight : ℕ) → List ℕ
arc_line e start end weight =
    ascii "leg "
    ++ (decimal e
    ++ (ascii " from " ++ (decimal start ++ (ascii " to " ++ (decimal end ++ (ascii " price " ++ (decimal weight ++ ascii "\n")))))))
