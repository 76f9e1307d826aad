-- The number and the table `answer` of a plan or an acceptance, of one with shares, of a cell, of a sender and of no sender, and of refusals, with tables of several
-- lengths.
-- Assumes nothing.
use Rattle.std.specs.Prelude.{refl, [], ◌∷◌}
use Rattle.answer.specs.Stated.{plan, shared, cell, sender, no_sender, refused, of_sheet, of_tables}
use Rattle.c_values.specs.Values.{Gives}

pub settled :
    Gives (plan 0 10 3) 0 (9 ∷ 9 ∷ 9 ∷ 9 ∷ []) (0 ∷ 10 ∷ 3 ∷ 9 ∷ [])
    × Gives (plan 0 10 3) 0 (9 ∷ 9 ∷ []) (0 ∷ 10 ∷ [])
    × Gives (shared 0 10 3 2) 0 (9 ∷ 9 ∷ 9 ∷ 9 ∷ 9 ∷ []) (0 ∷ 10 ∷ 3 ∷ 2 ∷ 9 ∷ [])
    × Gives (shared 0 10 3 2) 0 (9 ∷ 9 ∷ 9 ∷ []) (0 ∷ 10 ∷ 3 ∷ [])
    × Gives (cell 7) 0 (9 ∷ 9 ∷ []) (7 ∷ 9 ∷ [])
    × Gives (sender 0) 0 (9 ∷ []) (0 ∷ [])
    × Gives no_sender 0 (9 ∷ 9 ∷ []) (18446744073709551615 ∷ 9 ∷ [])
    × Gives no_sender 0 [] []
    × Gives (refused of_sheet 7 5) 7 (9 ∷ []) (5 ∷ [])
    × Gives (refused of_tables 11 0) 11 (9 ∷ 9 ∷ 9 ∷ []) (0 ∷ 9 ∷ 9 ∷ [])
settled = (
  record { returned = refl; values = refl },
  record { returned = refl; values = refl },
  record { returned = refl; values = refl },
  record { returned = refl; values = refl },
  record { returned = refl; values = refl },
  record { returned = refl; values = refl },
  record { returned = refl; values = refl },
  record { returned = refl; values = refl },
  record { returned = refl; values = refl },
  record { returned = refl; values = refl },
)
