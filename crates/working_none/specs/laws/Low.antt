-- Lists of cells in which no number is above the "none" of the search.
-- Assumes nothing.
use Rattle.std.specs.Prelude.{ℕ, ◌≤◌, ◌<◌, List, length, get_or}
use Rattle.working_none.specs.laws.WorkingNone.{working_none}

-- the entries of a list, as a function of their places
abbrev pub entry : List ℕ → ℕ → ℕ
entry l i = get_or l i 0

-- no entry is above "none"
abbrev pub AllLow : List ℕ → Type 0
AllLow l = (i : ℕ) → i < length l → entry l i ≤ working_none
