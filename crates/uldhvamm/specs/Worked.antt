-- Calls that give a plan and refusals, with tables `answer` of several lengths.
-- Assumes nothing.
use Rattle.std.specs.Prelude.{ℕ, ◌≡◌, refl, [], ◌∷◌}
use Rattle.answer.specs.Stated.{plan, refused, of_sheet, of_search}
use Rattle.mission.specs.Runs.{run}
use Rattle.uldhvamm.specs.Returned.{call, call_of}

-- in the place of what is lent
abbrev lent : ℕ
lent = 7

pub settled :
    (call_of (run (plan 0 10 3) lent) (9 ∷ 9 ∷ 9 ∷ 9 ∷ []) ≡ call 0 (0 ∷ 10 ∷ 3 ∷ 9 ∷ []) lent)
    × (call_of (run (plan 0 10 3) lent) (9 ∷ 9 ∷ []) ≡ call 0 (0 ∷ 10 ∷ []) lent)
    × (call_of (run (plan 0 10 3) lent) [] ≡ call 0 [] lent)
    × (call_of (run (refused of_sheet 7 5) lent) (9 ∷ 9 ∷ []) ≡ call 7 (5 ∷ 9 ∷ []) lent)
    × (call_of (run (refused of_search 12 0) lent) [] ≡ call 12 [] lent)
settled = (refl, refl, refl, refl, refl)
