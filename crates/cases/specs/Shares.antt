-- Shares (document 02, W-204), computed from the bytes of sheets and plan files, with every table afterwards: A's plan, with a share table of k entries,
-- of fewer and of more; a dearer plan; refusals, which leave the share table as it was; one price over three stations that sit at one site; a station
-- with two held landings, and a leg that serves no station.
-- Assumes nothing.
use Rattle.std.specs.Prelude.{ℕ, ◌≡◌, refl, List, [], ◌∷◌}
use Rattle.answer.specs.Stated.{shared, refused, of_sheet, of_tables, of_plan_file}
use Rattle.sheet.specs.Verdict.{verdict, read_for}
use Rattle.sheet.specs.Worked.{sheet_a, sheet_f}
use Rattle.lent_tables.specs.SheetTables.{sheet_tables}
use Rattle.record_tables.specs.Loaded.{loaded}
use Rattle.planfile.specs.Format.{file_bytes}
use Rattle.mission.specs.Runs.{reader_tables, run}
use Rattle.file_tests.specs.FileFaults.{file_fault}
use Rattle.plan_tests.specs.PlanFaults.{tree_fault}
use Rattle.shares.specs.SharesOf.{ShareTables, share_tables, sharing_of}
use Rattle.cases.specs.Files.{plan_a, plan_l, dearer, missed, under_ten, lent, filled_with}

-- `HD` 2 3; `LK` 0 1 10; `ST` 0 1; `ST` 1 1; `ST` 2 1; `ED`
abbrev pub sheet_three : List ℕ
sheet_three =
    0x48 ∷ 0x44 ∷ 0 ∷ 2 ∷ 3 ∷
    0x4C ∷ 0x4B ∷ 0 ∷ 0 ∷ 0 ∷ 1 ∷ 0 ∷ 0 ∷ 0 ∷ 10 ∷
    0x53 ∷ 0x54 ∷ 0 ∷ 0 ∷ 1 ∷
    0x53 ∷ 0x54 ∷ 1 ∷ 0 ∷ 1 ∷
    0x53 ∷ 0x54 ∷ 2 ∷ 0 ∷ 1 ∷
    0x45 ∷ 0x44 ∷ []

-- `HD` 4 2; `LK` 0 1 7; `LK` 1 2 5; `LK` 2 3 3; `ST` 0 1; `ST` 1 2; `ST` 0 3; `ED`
abbrev pub sheet_row : List ℕ
sheet_row =
    0x48 ∷ 0x44 ∷ 0 ∷ 4 ∷ 2 ∷
    0x4C ∷ 0x4B ∷ 0 ∷ 0 ∷ 0 ∷ 1 ∷ 0 ∷ 0 ∷ 0 ∷ 7 ∷
    0x4C ∷ 0x4B ∷ 0 ∷ 1 ∷ 0 ∷ 2 ∷ 0 ∷ 0 ∷ 0 ∷ 5 ∷
    0x4C ∷ 0x4B ∷ 0 ∷ 2 ∷ 0 ∷ 3 ∷ 0 ∷ 0 ∷ 0 ∷ 3 ∷
    0x53 ∷ 0x54 ∷ 0 ∷ 0 ∷ 1 ∷
    0x53 ∷ 0x54 ∷ 1 ∷ 0 ∷ 2 ∷
    0x53 ∷ 0x54 ∷ 0 ∷ 0 ∷ 3 ∷
    0x45 ∷ 0x44 ∷ []

-- the tables of crate cases' plan files, and a share table
abbrev lent_with : List ℕ → ShareTables
lent_with shares = share_tables lent shares

-- after sheet A, with these marks and shares; after the other two
abbrev after : (marks shares : List ℕ) → ShareTables
after marks shares = share_tables (filled_with marks) shares

abbrev after_three : List ℕ → ShareTables
after_three shares =
    share_tables (reader_tables (sheet_tables (0 ∷ 7 ∷ 7 ∷ 7 ∷ 7 ∷ 7 ∷ []) (1 ∷ 7 ∷ 7 ∷ 7 ∷ 7 ∷ 7 ∷ []) (10 ∷ 7 ∷ 7 ∷ 7 ∷ 7 ∷ 7 ∷ []) (1_024 ∷ 1_031 ∷ 7 ∷ 7 ∷ 7 ∷ []))
    (1 ∷ 1 ∷ 9 ∷ 9 ∷ 9 ∷ []))
    shares

abbrev after_row : (marks shares : List ℕ) → ShareTables
after_row marks shares =
    share_tables (reader_tables
    (sheet_tables (0 ∷ 1 ∷ 2 ∷ 7 ∷ 7 ∷ 7 ∷ []) (1 ∷ 2 ∷ 3 ∷ 7 ∷ 7 ∷ 7 ∷ []) (7 ∷ 5 ∷ 3 ∷ 7 ∷ 7 ∷ 7 ∷ []) (1_024 ∷ 1_025 ∷ 1_026 ∷ 1_025 ∷ 7 ∷ []))
    marks)
    shares

pub shares_settled :
    -- k entries exactly, more, one fewer
    (sharing_of sheet_a plan_a (lent_with (8 ∷ 8 ∷ 8 ∷ [])) ≡ run (shared 0 10 3 0) (after (1 ∷ 1 ∷ 1 ∷ 1 ∷ 9 ∷ []) (5 ∷ 5 ∷ 0 ∷ [])))
    × (sharing_of sheet_a plan_a (lent_with (8 ∷ 8 ∷ 8 ∷ 8 ∷ 8 ∷ [])) ≡ run (shared 0 10 3 0) (after (1 ∷ 1 ∷ 1 ∷ 1 ∷ 9 ∷ []) (5 ∷ 5 ∷ 0 ∷ 8 ∷ 8 ∷ [])))
    × (sharing_of sheet_a plan_a (lent_with (8 ∷ 8 ∷ [])) ≡ run (refused of_tables 11 0) (lent_with (8 ∷ 8 ∷ [])))
    -- a dearer plan
    × (sharing_of sheet_a dearer (lent_with (8 ∷ 8 ∷ 8 ∷ [])) ≡ run (shared 0 11 2 0) (after (1 ∷ 0 ∷ 1 ∷ 1 ∷ 9 ∷ []) (5 ∷ 6 ∷ 0 ∷ [])))
    -- refusals: of the sheet, before the file is looked at; 14; 18; 19
    × (sharing_of sheet_f plan_a (lent_with []) ≡ run (refused of_sheet 7 5) (lent_with []))
    × (sharing_of sheet_a under_ten (lent_with (8 ∷ 8 ∷ [])) ≡ run (refused of_tables 11 0) (lent_with (8 ∷ 8 ∷ [])))
    × (sharing_of sheet_a under_ten (lent_with (8 ∷ 8 ∷ 8 ∷ [])) ≡ run (refused of_plan_file 14 0) (after (9 ∷ 9 ∷ 9 ∷ 9 ∷ 9 ∷ []) (8 ∷ 8 ∷ 8 ∷ [])))
    × (sharing_of sheet_a missed (lent_with (8 ∷ 8 ∷ 8 ∷ [])) ≡ run (refused of_plan_file 18 0) (after (1 ∷ 1 ∷ 1 ∷ 0 ∷ 9 ∷ []) (8 ∷ 8 ∷ 8 ∷ [])))
    × (sharing_of sheet_a plan_l (lent_with (8 ∷ 8 ∷ 8 ∷ [])) ≡ run (refused of_plan_file 19 0) (after (1 ∷ 1 ∷ 1 ∷ 1 ∷ 9 ∷ []) (8 ∷ 8 ∷ 8 ∷ [])))
    -- a price of 10 over three stations with one seat
    × (sharing_of sheet_three (file_bytes 0 10 (0 ∷ [])) (lent_with (8 ∷ 8 ∷ 8 ∷ 8 ∷ [])) ≡ run (shared 0 10 1 0) (after_three (4 ∷ 3 ∷ 3 ∷ 8 ∷ [])))
    -- station 0 has two held landings, sites 1 and 3, and leg 2 serves nobody; with no leg 2; from site 1, where station 0 sits at the root
    × (sharing_of sheet_row (file_bytes 0 15 (2 ∷ 0 ∷ 1 ∷ [])) (lent_with (8 ∷ 8 ∷ [])) ≡ run (shared 0 15 3 3) (after_row (1 ∷ 1 ∷ 1 ∷ 1 ∷ 9 ∷ []) (4 ∷ 8 ∷ [])))
    × (sharing_of sheet_row (file_bytes 0 12 (0 ∷ 1 ∷ [])) (lent_with (8 ∷ 8 ∷ [])) ≡ run (shared 0 12 2 0) (after_row (1 ∷ 1 ∷ 1 ∷ 0 ∷ 9 ∷ []) (4 ∷ 8 ∷ [])))
    × (sharing_of sheet_row (file_bytes 1 5 (1 ∷ [])) (lent_with (8 ∷ 8 ∷ [])) ≡ run (shared 1 5 1 0) (after_row (0 ∷ 1 ∷ 1 ∷ 0 ∷ 9 ∷ []) (0 ∷ 5 ∷ [])))
unfolding verdict read_for loaded file_fault tree_fault
shares_settled = (refl, refl, refl, refl, refl, refl, refl, refl, refl, refl, refl, refl, refl)
