-- Document 01's cases A to L ("The desk program and worked sheets"): "For A to L, one proposition settles the definitions' answers together".
-- The engine's answers to the sheets A to J and the plan reader's to the files of A, K and L, with what was lent as it is afterwards, by
-- computation. None of these sheets has an `SR`, so each of their landing entries has the flag, 1,024. The same of the sheets M to Q, which name
-- senders (document 02, W-201), and of files whose root is no sender; and the index of the legs (W-202), of the sheet R and of tables that are too short
-- for it. And the best senders (W-203) over the tables that the engine leaves for sheets with ties and with sites that are no sender.
-- Assumes nothing.
use Rattle.std.specs.Prelude.{ℕ, ◌^◌, ◌≡◌, refl, List, [], ◌∷◌, map, length}
use Rattle.std.proofs.Math.Option.{Option, none, some}
use Rattle.lists.specs.Numbers.{numbers}
use Rattle.answer.specs.Stated.{Stated, plan, sender, no_sender, refused, of_sheet, of_tables, of_search, of_plan_file}
use Rattle.sheet.specs.Verdict.{Verdict, good, bad, verdict, read_for}
use Rattle.sheet.specs.Worked.{sheet_a, sheet_b, sheet_c, sheet_d, sheet_e, sheet_f, sheet_g, sheet_h, sheet_i, sheet_j, sheet_m, sheet_n, sheet_o, sheet_p, sheet_q, sheet_r}
use Rattle.lent_tables.specs.SheetTables.{sheet_tables}
use Rattle.lent_tables.specs.IndexTables.{IndexTables, index_tables}
use Rattle.record_tables.specs.Loaded.{loaded}
use Rattle.network.specs.Network.{graph_of}
use Rattle.mission.specs.Runs.{ReaderTables, reader_tables, EngineTables, engine_tables, run}
use Rattle.file_tests.specs.FileFaults.{file_fault}
use Rattle.plan_tests.specs.PlanFaults.{tree_fault}
use Rattle.plan_reader.specs.Reader.{reading_of}
use Rattle.cases.specs.Files.{plan_a, plan_k, plan_l, missed}
use Rattle.best_plan.specs.Plan.{Plan, plan_of}
use Rattle.engine.specs.Engine.{planning_of}
use Rattle.questions.specs.Questions.{sender_answer}

-- ---- what is lent

-- room for six legs, five sites and 33 cells, and a plan buffer of 24 bytes
abbrev pub lent : EngineTables
lent =
    engine_tables
    (sheet_tables (71 ∷ 71 ∷ 71 ∷ 71 ∷ 71 ∷ 71 ∷ []) (72 ∷ 72 ∷ 72 ∷ 72 ∷ 72 ∷ 72 ∷ []) (73 ∷ 73 ∷ 73 ∷ 73 ∷ 73 ∷ 73 ∷ []) (1_098 ∷ 1_098 ∷ 1_098 ∷ 1_098 ∷ 1_098 ∷ []))
    (index_tables (77 ∷ 77 ∷ 77 ∷ 77 ∷ 77 ∷ 77 ∷ []) (78 ∷ 78 ∷ 78 ∷ 78 ∷ 78 ∷ 78 ∷ []))
    (
    75 ∷ 75 ∷ 75 ∷ 75 ∷ 75 ∷ 75 ∷ 75 ∷ 75 ∷
    75 ∷ 75 ∷ 75 ∷ 75 ∷ 75 ∷ 75 ∷ 75 ∷ 75 ∷
    75 ∷ 75 ∷ 75 ∷ 75 ∷ 75 ∷ 75 ∷ 75 ∷ 75 ∷
    75 ∷ 75 ∷ 75 ∷ 75 ∷ 75 ∷ 75 ∷ 75 ∷ 75 ∷
    75 ∷ []
    )
    (76 ∷ 76 ∷ 76 ∷ 76 ∷ 76 ∷ [])
    (
    0xEE ∷ 0xEE ∷ 0xEE ∷ 0xEE ∷ 0xEE ∷ 0xEE ∷ 0xEE ∷ 0xEE ∷ 0xEE ∷ 0xEE ∷
    0xEE ∷ 0xEE ∷ 0xEE ∷ 0xEE ∷ 0xEE ∷ 0xEE ∷ 0xEE ∷ 0xEE ∷ 0xEE ∷ 0xEE ∷
    0xEE ∷ 0xEE ∷ 0xEE ∷ 0xEE ∷ []
    )

-- all of these but the index, the cells and the buffer
abbrev pub lent_to_reader : ReaderTables
lent_to_reader = reader_tables lent.tables lent.marks

-- these with A's five legs, and with these landing entries and marks
abbrev pub with_legs_of_a : (landings marks : List ℕ) → ReaderTables
with_legs_of_a landings marks =
    reader_tables
    (sheet_tables (0 ∷ 1 ∷ 1 ∷ 0 ∷ 0 ∷ 71 ∷ []) (1 ∷ 2 ∷ 3 ∷ 2 ∷ 3 ∷ 72 ∷ []) (4 ∷ 3 ∷ 3 ∷ 5 ∷ 6 ∷ 73 ∷ []) landings)
    marks

-- the landing entries of its four sites: all are senders; in M site 1 is, and in N the sites 0 and 1
abbrev pub after_a : List ℕ → ReaderTables
after_a marks = with_legs_of_a (1_028 ∷ 1_024 ∷ 1_025 ∷ 1_026 ∷ 1_098 ∷ []) marks

abbrev pub after_m : List ℕ → ReaderTables
after_m marks = with_legs_of_a (4 ∷ 1_024 ∷ 1 ∷ 2 ∷ 1_098 ∷ []) marks

abbrev pub after_n : List ℕ → ReaderTables
after_n marks = with_legs_of_a (1_028 ∷ 1_024 ∷ 1 ∷ 2 ∷ 1_098 ∷ []) marks

-- the legs of a sheet's plan, in the order in which they are added
abbrev legs_in : Option Plan → Option (List ℕ)
legs_in none = none
legs_in (some p) = some p.arcs

abbrev pub legs : Verdict → Option (List ℕ)
legs (good n k records) = legs_in (plan_of (graph_of n k records))
legs (bad fault) = none

-- ---- the cases

pub settled :
    -- "A (72 bytes)"
    (length sheet_a ≡ 72)
    -- A: root 0, total 10, legs 0, 1 and 2. "Plan file in hexadecimal: 504E 0000 0000000A 0003 4C47 0000 4C47 0001 4C47 0002"
    × (planning_of sheet_a lent
    ≡ run (plan 0 10 3)
    (engine_tables
    (sheet_tables (0 ∷ 1 ∷ 1 ∷ 0 ∷ 0 ∷ 71 ∷ []) (1 ∷ 2 ∷ 3 ∷ 2 ∷ 3 ∷ 72 ∷ []) (4 ∷ 3 ∷ 3 ∷ 5 ∷ 6 ∷ 73 ∷ []) (1_028 ∷ 1_024 ∷ 1_025 ∷ 1_026 ∷ 1_098 ∷ []))
    (index_tables (0 ∷ 1 ∷ 3 ∷ 2 ∷ 4 ∷ 77 ∷ []) (0 ∷ 0 ∷ 1 ∷ 3 ∷ 5 ∷ 78 ∷ []))
    (
    0 ∷ 5 ∷ 6 ∷ 10 ∷ 0 ∷ 5 ∷ 6 ∷ 10 ∷
    0 ∷ 3 ∷ 3 ∷ 6 ∷ 4_294_967_295 ∷ 4_294_967_295 ∷ 4_294_967_295 ∷ 4_294_967_295 ∷
    0 ∷ 0 ∷ 4_294_967_295 ∷ 4_294_967_295 ∷ 4_294_967_295 ∷ 4_294_967_295 ∷ 4_294_967_295 ∷ 4_294_967_295 ∷
    0 ∷ 4_294_967_295 ∷ 0 ∷ 4_294_967_295 ∷ 4_294_967_295 ∷ 4_294_967_295 ∷ 4_294_967_295 ∷ 4_294_967_295 ∷
    75 ∷ []
    )
    (1 ∷ 1 ∷ 1 ∷ 1 ∷ 76 ∷ [])
    (
    0x50 ∷ 0x4E ∷ 0x00 ∷ 0x00 ∷ 0x00 ∷ 0x00 ∷ 0x00 ∷ 0x0A ∷ 0x00 ∷ 0x03 ∷
    0x4C ∷ 0x47 ∷ 0x00 ∷ 0x00 ∷ 0x4C ∷ 0x47 ∷ 0x00 ∷ 0x01 ∷ 0x4C ∷ 0x47 ∷ 0x00 ∷ 0x02 ∷
    0xEE ∷ 0xEE ∷ []
    )))
    × (legs (verdict sheet_a) ≡ some (0 ∷ 1 ∷ 2 ∷ []))
    -- B: "root 0, total 0, no legs"
    × (planning_of sheet_b lent
    ≡ run (plan 0 0 0)
    (engine_tables
    (sheet_tables (71 ∷ 71 ∷ 71 ∷ 71 ∷ 71 ∷ 71 ∷ []) (72 ∷ 72 ∷ 72 ∷ 72 ∷ 72 ∷ 72 ∷ []) (73 ∷ 73 ∷ 73 ∷ 73 ∷ 73 ∷ 73 ∷ []) (1_025 ∷ 1_098 ∷ 1_098 ∷ 1_098 ∷ 1_098 ∷ []))
    (index_tables (77 ∷ 77 ∷ 77 ∷ 77 ∷ 77 ∷ 77 ∷ []) (0 ∷ 0 ∷ 78 ∷ 78 ∷ 78 ∷ 78 ∷ []))
    (
    0 ∷ 0 ∷
    75 ∷ 75 ∷ 75 ∷ 75 ∷ 75 ∷ 75 ∷ 75 ∷ 75 ∷
    75 ∷ 75 ∷ 75 ∷ 75 ∷ 75 ∷ 75 ∷ 75 ∷ 75 ∷
    75 ∷ 75 ∷ 75 ∷ 75 ∷ 75 ∷ 75 ∷ 75 ∷ 75 ∷
    75 ∷ 75 ∷ 75 ∷ 75 ∷ 75 ∷ 75 ∷ 75 ∷ []
    )
    (1 ∷ 76 ∷ 76 ∷ 76 ∷ 76 ∷ [])
    (
    0x50 ∷ 0x4E ∷ 0x00 ∷ 0x00 ∷ 0x00 ∷ 0x00 ∷ 0x00 ∷ 0x00 ∷ 0x00 ∷ 0x00 ∷
    0xEE ∷ 0xEE ∷ 0xEE ∷ 0xEE ∷ 0xEE ∷ 0xEE ∷ 0xEE ∷ 0xEE ∷ 0xEE ∷ 0xEE ∷ 0xEE ∷ 0xEE ∷
    0xEE ∷ 0xEE ∷ []
    )))
    × (legs (verdict sheet_b) ≡ some [])
    -- C: "root 0, leg 1, total 4"
    × (planning_of sheet_c lent
    ≡ run (plan 0 4 1)
    (engine_tables
    (sheet_tables (0 ∷ 0 ∷ 71 ∷ 71 ∷ 71 ∷ 71 ∷ []) (1 ∷ 2 ∷ 72 ∷ 72 ∷ 72 ∷ 72 ∷ []) (9 ∷ 4 ∷ 73 ∷ 73 ∷ 73 ∷ 73 ∷ []) (1_025 ∷ 1_026 ∷ 1_026 ∷ 1_098 ∷ 1_098 ∷ []))
    (index_tables (0 ∷ 1 ∷ 77 ∷ 77 ∷ 77 ∷ 77 ∷ []) (0 ∷ 0 ∷ 1 ∷ 2 ∷ 78 ∷ 78 ∷ []))
    (
    0 ∷ 0 ∷ 4 ∷ 4 ∷
    0 ∷ 4_294_967_295 ∷ 0 ∷ 4_294_967_295 ∷
    0 ∷ 4_294_967_295 ∷ 0 ∷ 4_294_967_295 ∷
    75 ∷ 75 ∷ 75 ∷ 75 ∷ 75 ∷ 75 ∷ 75 ∷ 75 ∷
    75 ∷ 75 ∷ 75 ∷ 75 ∷ 75 ∷ 75 ∷ 75 ∷ 75 ∷
    75 ∷ 75 ∷ 75 ∷ 75 ∷ 75 ∷ []
    )
    (1 ∷ 1 ∷ 1 ∷ 76 ∷ 76 ∷ [])
    (
    0x50 ∷ 0x4E ∷ 0x00 ∷ 0x00 ∷ 0x00 ∷ 0x00 ∷ 0x00 ∷ 0x04 ∷ 0x00 ∷ 0x01 ∷
    0x4C ∷ 0x47 ∷ 0x00 ∷ 0x01 ∷
    0xEE ∷ 0xEE ∷ 0xEE ∷ 0xEE ∷ 0xEE ∷ 0xEE ∷ 0xEE ∷ 0xEE ∷ 0xEE ∷ 0xEE ∷ []
    )))
    × (legs (verdict sheet_c) ≡ some (1 ∷ []))
    -- D: "root 0, leg 0, total 7"
    × (planning_of sheet_d lent
    ≡ run (plan 0 7 1)
    (engine_tables
    (sheet_tables (0 ∷ 1 ∷ 71 ∷ 71 ∷ 71 ∷ 71 ∷ []) (1 ∷ 0 ∷ 72 ∷ 72 ∷ 72 ∷ 72 ∷ []) (7 ∷ 7 ∷ 73 ∷ 73 ∷ 73 ∷ 73 ∷ []) (1_025 ∷ 1_026 ∷ 1_098 ∷ 1_098 ∷ 1_098 ∷ []))
    (index_tables (1 ∷ 0 ∷ 77 ∷ 77 ∷ 77 ∷ 77 ∷ []) (0 ∷ 1 ∷ 2 ∷ 78 ∷ 78 ∷ 78 ∷ []))
    (
    0 ∷ 0 ∷ 7 ∷ 7 ∷
    0 ∷ 7 ∷ 0 ∷ 7 ∷
    75 ∷ 75 ∷ 75 ∷ 75 ∷ 75 ∷ 75 ∷ 75 ∷ 75 ∷
    75 ∷ 75 ∷ 75 ∷ 75 ∷ 75 ∷ 75 ∷ 75 ∷ 75 ∷
    75 ∷ 75 ∷ 75 ∷ 75 ∷ 75 ∷ 75 ∷ 75 ∷ 75 ∷
    75 ∷ []
    )
    (1 ∷ 1 ∷ 76 ∷ 76 ∷ 76 ∷ [])
    (
    0x50 ∷ 0x4E ∷ 0x00 ∷ 0x00 ∷ 0x00 ∷ 0x00 ∷ 0x00 ∷ 0x07 ∷ 0x00 ∷ 0x01 ∷
    0x4C ∷ 0x47 ∷ 0x00 ∷ 0x00 ∷
    0xEE ∷ 0xEE ∷ 0xEE ∷ 0xEE ∷ 0xEE ∷ 0xEE ∷ 0xEE ∷ 0xEE ∷ 0xEE ∷ 0xEE ∷ []
    )))
    × (legs (verdict sheet_d) ≡ some (0 ∷ []))
    -- E: "12", with the tables as after a plan and the plan buffer untouched
    × (planning_of sheet_e lent
    ≡ run (refused of_search 12 0)
    (engine_tables
    (sheet_tables (71 ∷ 71 ∷ 71 ∷ 71 ∷ 71 ∷ 71 ∷ []) (72 ∷ 72 ∷ 72 ∷ 72 ∷ 72 ∷ 72 ∷ []) (73 ∷ 73 ∷ 73 ∷ 73 ∷ 73 ∷ 73 ∷ []) (1_025 ∷ 1_026 ∷ 1_098 ∷ 1_098 ∷ 1_098 ∷ []))
    (index_tables (77 ∷ 77 ∷ 77 ∷ 77 ∷ 77 ∷ 77 ∷ []) (0 ∷ 0 ∷ 0 ∷ 78 ∷ 78 ∷ 78 ∷ []))
    (
    0 ∷ 0 ∷ 4_294_967_295 ∷ 4_294_967_295 ∷
    0 ∷ 4_294_967_295 ∷ 0 ∷ 4_294_967_295 ∷
    75 ∷ 75 ∷ 75 ∷ 75 ∷ 75 ∷ 75 ∷ 75 ∷ 75 ∷
    75 ∷ 75 ∷ 75 ∷ 75 ∷ 75 ∷ 75 ∷ 75 ∷ 75 ∷
    75 ∷ 75 ∷ 75 ∷ 75 ∷ 75 ∷ 75 ∷ 75 ∷ 75 ∷
    75 ∷ []
    )
    (1 ∷ 1 ∷ 76 ∷ 76 ∷ 76 ∷ [])
    (
    0xEE ∷ 0xEE ∷ 0xEE ∷ 0xEE ∷ 0xEE ∷ 0xEE ∷ 0xEE ∷ 0xEE ∷ 0xEE ∷ 0xEE ∷ 0xEE ∷ 0xEE ∷
    0xEE ∷ 0xEE ∷ 0xEE ∷ 0xEE ∷ 0xEE ∷ 0xEE ∷ 0xEE ∷ 0xEE ∷ 0xEE ∷ 0xEE ∷ 0xEE ∷ 0xEE ∷ []
    )))
    × (legs (verdict sheet_e) ≡ none)
    -- F: "7 at 5"
    × (planning_of sheet_f lent ≡ run (refused of_sheet 7 5) lent)
    -- G: "planned"
    × (planning_of sheet_g lent
    ≡ run (plan 0 1_000_000 1)
    (engine_tables
    (sheet_tables (0 ∷ 1 ∷ 71 ∷ 71 ∷ 71 ∷ 71 ∷ []) (1 ∷ 0 ∷ 72 ∷ 72 ∷ 72 ∷ 72 ∷ []) (1_000_000 ∷ 1_000_000 ∷ 73 ∷ 73 ∷ 73 ∷ 73 ∷ []) (1_025 ∷ 1_026 ∷ 1_098 ∷ 1_098 ∷ 1_098 ∷ []))
    (index_tables (1 ∷ 0 ∷ 77 ∷ 77 ∷ 77 ∷ 77 ∷ []) (0 ∷ 1 ∷ 2 ∷ 78 ∷ 78 ∷ 78 ∷ []))
    (
    0 ∷ 0 ∷ 1_000_000 ∷ 1_000_000 ∷
    0 ∷ 1_000_000 ∷ 0 ∷ 1_000_000 ∷
    75 ∷ 75 ∷ 75 ∷ 75 ∷ 75 ∷ 75 ∷ 75 ∷ 75 ∷
    75 ∷ 75 ∷ 75 ∷ 75 ∷ 75 ∷ 75 ∷ 75 ∷ 75 ∷
    75 ∷ 75 ∷ 75 ∷ 75 ∷ 75 ∷ 75 ∷ 75 ∷ 75 ∷
    75 ∷ []
    )
    (1 ∷ 1 ∷ 76 ∷ 76 ∷ 76 ∷ [])
    (
    0x50 ∷ 0x4E ∷ 0x00 ∷ 0x00 ∷ 0x00 ∷ 0x0F ∷ 0x42 ∷ 0x40 ∷ 0x00 ∷ 0x01 ∷
    0x4C ∷ 0x47 ∷ 0x00 ∷ 0x00 ∷
    0xEE ∷ 0xEE ∷ 0xEE ∷ 0xEE ∷ 0xEE ∷ 0xEE ∷ 0xEE ∷ 0xEE ∷ 0xEE ∷ 0xEE ∷ []
    )))
    × (legs (verdict sheet_g) ≡ some (0 ∷ []))
    -- H: "7 at 5"; I: "1 at 0"; J: "9 at 12"
    × (planning_of sheet_h lent ≡ run (refused of_sheet 7 5) lent)
    × (planning_of sheet_i lent ≡ run (refused of_sheet 1 0) lent)
    × (planning_of sheet_j lent ≡ run (refused of_sheet 9 12) lent)
    -- A's own file is accepted; K: "17"; L: "19"
    × (reading_of sheet_a plan_a lent_to_reader ≡ run (plan 0 10 3) (after_a (1 ∷ 1 ∷ 1 ∷ 1 ∷ 76 ∷ [])))
    × (reading_of sheet_a plan_k lent_to_reader ≡ run (refused of_plan_file 17 0) (after_a (1 ∷ 1 ∷ 1 ∷ 1 ∷ 76 ∷ [])))
    × (reading_of sheet_a plan_l lent_to_reader ≡ run (refused of_plan_file 19 0) (after_a (1 ∷ 1 ∷ 1 ∷ 1 ∷ 76 ∷ [])))
unfolding verdict read_for loaded plan_of file_fault tree_fault
settled = (refl, refl, refl, refl, refl, refl, refl, refl, refl, refl, refl, refl, refl, refl, refl, refl, refl, refl, refl, refl)

-- ---- licensed senders

pub senders_settled :
    -- M: A with `SR` 1: "no plan" is judged among trees whose root is a sender, so 12; the cells are A's
    (planning_of sheet_m lent
    ≡ run (refused of_search 12 0)
    (engine_tables
    (sheet_tables (0 ∷ 1 ∷ 1 ∷ 0 ∷ 0 ∷ 71 ∷ []) (1 ∷ 2 ∷ 3 ∷ 2 ∷ 3 ∷ 72 ∷ []) (4 ∷ 3 ∷ 3 ∷ 5 ∷ 6 ∷ 73 ∷ []) (4 ∷ 1_024 ∷ 1 ∷ 2 ∷ 1_098 ∷ []))
    (index_tables (0 ∷ 1 ∷ 3 ∷ 2 ∷ 4 ∷ 77 ∷ []) (0 ∷ 0 ∷ 1 ∷ 3 ∷ 5 ∷ 78 ∷ []))
    (
    0 ∷ 5 ∷ 6 ∷ 10 ∷ 0 ∷ 5 ∷ 6 ∷ 10 ∷
    0 ∷ 3 ∷ 3 ∷ 6 ∷ 4_294_967_295 ∷ 4_294_967_295 ∷ 4_294_967_295 ∷ 4_294_967_295 ∷
    0 ∷ 0 ∷ 4_294_967_295 ∷ 4_294_967_295 ∷ 4_294_967_295 ∷ 4_294_967_295 ∷ 4_294_967_295 ∷ 4_294_967_295 ∷
    0 ∷ 4_294_967_295 ∷ 0 ∷ 4_294_967_295 ∷ 4_294_967_295 ∷ 4_294_967_295 ∷ 4_294_967_295 ∷ 4_294_967_295 ∷
    75 ∷ []
    )
    (1 ∷ 1 ∷ 1 ∷ 1 ∷ 76 ∷ [])
    (
    0xEE ∷ 0xEE ∷ 0xEE ∷ 0xEE ∷ 0xEE ∷ 0xEE ∷ 0xEE ∷ 0xEE ∷ 0xEE ∷ 0xEE ∷ 0xEE ∷ 0xEE ∷
    0xEE ∷ 0xEE ∷ 0xEE ∷ 0xEE ∷ 0xEE ∷ 0xEE ∷ 0xEE ∷ 0xEE ∷ 0xEE ∷ 0xEE ∷ 0xEE ∷ 0xEE ∷ []
    )))
    × (legs (verdict sheet_m) ≡ none)
    -- N: A with `SR` 0 and `SR` 1, repeated: A's plan, and a repeat counts once
    × (planning_of sheet_n lent
    ≡ run (plan 0 10 3)
    (engine_tables
    (sheet_tables (0 ∷ 1 ∷ 1 ∷ 0 ∷ 0 ∷ 71 ∷ []) (1 ∷ 2 ∷ 3 ∷ 2 ∷ 3 ∷ 72 ∷ []) (4 ∷ 3 ∷ 3 ∷ 5 ∷ 6 ∷ 73 ∷ []) (1_028 ∷ 1_024 ∷ 1 ∷ 2 ∷ 1_098 ∷ []))
    (index_tables (0 ∷ 1 ∷ 3 ∷ 2 ∷ 4 ∷ 77 ∷ []) (0 ∷ 0 ∷ 1 ∷ 3 ∷ 5 ∷ 78 ∷ []))
    (
    0 ∷ 5 ∷ 6 ∷ 10 ∷ 0 ∷ 5 ∷ 6 ∷ 10 ∷
    0 ∷ 3 ∷ 3 ∷ 6 ∷ 4_294_967_295 ∷ 4_294_967_295 ∷ 4_294_967_295 ∷ 4_294_967_295 ∷
    0 ∷ 0 ∷ 4_294_967_295 ∷ 4_294_967_295 ∷ 4_294_967_295 ∷ 4_294_967_295 ∷ 4_294_967_295 ∷ 4_294_967_295 ∷
    0 ∷ 4_294_967_295 ∷ 0 ∷ 4_294_967_295 ∷ 4_294_967_295 ∷ 4_294_967_295 ∷ 4_294_967_295 ∷ 4_294_967_295 ∷
    75 ∷ []
    )
    (1 ∷ 1 ∷ 1 ∷ 1 ∷ 76 ∷ [])
    (
    0x50 ∷ 0x4E ∷ 0x00 ∷ 0x00 ∷ 0x00 ∷ 0x00 ∷ 0x00 ∷ 0x0A ∷ 0x00 ∷ 0x03 ∷
    0x4C ∷ 0x47 ∷ 0x00 ∷ 0x00 ∷ 0x4C ∷ 0x47 ∷ 0x00 ∷ 0x01 ∷ 0x4C ∷ 0x47 ∷ 0x00 ∷ 0x02 ∷
    0xEE ∷ 0xEE ∷ []
    )))
    × (legs (verdict sheet_n) ≡ some (0 ∷ 1 ∷ 2 ∷ []))
    -- O: the lowest of two senders that cost 9; site 0, which is no sender, costs 4
    × (planning_of sheet_o lent
    ≡ run (plan 1 9 2)
    (engine_tables
    (sheet_tables (2 ∷ 1 ∷ 0 ∷ 71 ∷ 71 ∷ 71 ∷ []) (0 ∷ 0 ∷ 3 ∷ 72 ∷ 72 ∷ 72 ∷ []) (5 ∷ 5 ∷ 4 ∷ 73 ∷ 73 ∷ 73 ∷ []) (1 ∷ 1_024 ∷ 1_024 ∷ 2 ∷ 1_098 ∷ []))
    (index_tables (0 ∷ 1 ∷ 2 ∷ 77 ∷ 77 ∷ 77 ∷ []) (0 ∷ 2 ∷ 2 ∷ 2 ∷ 3 ∷ 78 ∷ []))
    (
    0 ∷ 0 ∷ 4 ∷ 4 ∷
    0 ∷ 5 ∷ 9 ∷ 9 ∷
    0 ∷ 5 ∷ 9 ∷ 9 ∷
    0 ∷ 4_294_967_295 ∷ 0 ∷ 4_294_967_295 ∷
    75 ∷ 75 ∷ 75 ∷ 75 ∷ 75 ∷ 75 ∷ 75 ∷ 75 ∷
    75 ∷ 75 ∷ 75 ∷ 75 ∷ 75 ∷ 75 ∷ 75 ∷ 75 ∷
    75 ∷ []
    )
    (1 ∷ 1 ∷ 1 ∷ 1 ∷ 76 ∷ [])
    (
    0x50 ∷ 0x4E ∷ 0x00 ∷ 0x01 ∷ 0x00 ∷ 0x00 ∷ 0x00 ∷ 0x09 ∷ 0x00 ∷ 0x02 ∷
    0x4C ∷ 0x47 ∷ 0x00 ∷ 0x01 ∷ 0x4C ∷ 0x47 ∷ 0x00 ∷ 0x02 ∷
    0xEE ∷ 0xEE ∷ 0xEE ∷ 0xEE ∷ 0xEE ∷ 0xEE ∷ []
    )))
    × (legs (verdict sheet_o) ≡ some (1 ∷ 2 ∷ []))
    -- P: C with `SR` 1 and `SR` 2: 12 for want of a licence at site 0
    × (planning_of sheet_p lent
    ≡ run (refused of_search 12 0)
    (engine_tables
    (sheet_tables (0 ∷ 0 ∷ 71 ∷ 71 ∷ 71 ∷ 71 ∷ []) (1 ∷ 2 ∷ 72 ∷ 72 ∷ 72 ∷ 72 ∷ []) (9 ∷ 4 ∷ 73 ∷ 73 ∷ 73 ∷ 73 ∷ []) (1 ∷ 1_026 ∷ 1_026 ∷ 1_098 ∷ 1_098 ∷ []))
    (index_tables (0 ∷ 1 ∷ 77 ∷ 77 ∷ 77 ∷ 77 ∷ []) (0 ∷ 0 ∷ 1 ∷ 2 ∷ 78 ∷ 78 ∷ []))
    (
    0 ∷ 0 ∷ 4 ∷ 4 ∷
    0 ∷ 4_294_967_295 ∷ 0 ∷ 4_294_967_295 ∷
    0 ∷ 4_294_967_295 ∷ 0 ∷ 4_294_967_295 ∷
    75 ∷ 75 ∷ 75 ∷ 75 ∷ 75 ∷ 75 ∷ 75 ∷ 75 ∷
    75 ∷ 75 ∷ 75 ∷ 75 ∷ 75 ∷ 75 ∷ 75 ∷ 75 ∷
    75 ∷ 75 ∷ 75 ∷ 75 ∷ 75 ∷ []
    )
    (1 ∷ 1 ∷ 1 ∷ 76 ∷ 76 ∷ [])
    (
    0xEE ∷ 0xEE ∷ 0xEE ∷ 0xEE ∷ 0xEE ∷ 0xEE ∷ 0xEE ∷ 0xEE ∷ 0xEE ∷ 0xEE ∷ 0xEE ∷ 0xEE ∷
    0xEE ∷ 0xEE ∷ 0xEE ∷ 0xEE ∷ 0xEE ∷ 0xEE ∷ 0xEE ∷ 0xEE ∷ 0xEE ∷ 0xEE ∷ 0xEE ∷ 0xEE ∷ []
    )))
    × (legs (verdict sheet_p) ≡ none)
    -- Q: D with `SR` 1: root 1 and the leg back
    × (planning_of sheet_q lent
    ≡ run (plan 1 7 1)
    (engine_tables
    (sheet_tables (0 ∷ 1 ∷ 71 ∷ 71 ∷ 71 ∷ 71 ∷ []) (1 ∷ 0 ∷ 72 ∷ 72 ∷ 72 ∷ 72 ∷ []) (7 ∷ 7 ∷ 73 ∷ 73 ∷ 73 ∷ 73 ∷ []) (1 ∷ 1_026 ∷ 1_098 ∷ 1_098 ∷ 1_098 ∷ []))
    (index_tables (1 ∷ 0 ∷ 77 ∷ 77 ∷ 77 ∷ 77 ∷ []) (0 ∷ 1 ∷ 2 ∷ 78 ∷ 78 ∷ 78 ∷ []))
    (
    0 ∷ 0 ∷ 7 ∷ 7 ∷
    0 ∷ 7 ∷ 0 ∷ 7 ∷
    75 ∷ 75 ∷ 75 ∷ 75 ∷ 75 ∷ 75 ∷ 75 ∷ 75 ∷
    75 ∷ 75 ∷ 75 ∷ 75 ∷ 75 ∷ 75 ∷ 75 ∷ 75 ∷
    75 ∷ 75 ∷ 75 ∷ 75 ∷ 75 ∷ 75 ∷ 75 ∷ 75 ∷
    75 ∷ []
    )
    (1 ∷ 1 ∷ 76 ∷ 76 ∷ 76 ∷ [])
    (
    0x50 ∷ 0x4E ∷ 0x00 ∷ 0x01 ∷ 0x00 ∷ 0x00 ∷ 0x00 ∷ 0x07 ∷ 0x00 ∷ 0x01 ∷
    0x4C ∷ 0x47 ∷ 0x00 ∷ 0x01 ∷
    0xEE ∷ 0xEE ∷ 0xEE ∷ 0xEE ∷ 0xEE ∷ 0xEE ∷ 0xEE ∷ 0xEE ∷ 0xEE ∷ 0xEE ∷ []
    )))
    × (legs (verdict sheet_q) ≡ some (1 ∷ []))
    -- A's own file is accepted against N, where its root is a sender
    × (reading_of sheet_n plan_a lent_to_reader ≡ run (plan 0 10 3) (after_n (1 ∷ 1 ∷ 1 ∷ 1 ∷ 76 ∷ [])))
    -- against M its root is no sender: 20; K, which is no tree as well: 17; a file that misses a station as well: 20, before 18; L, whose total is
    -- false as well: 20
    × (reading_of sheet_m plan_a lent_to_reader ≡ run (refused of_plan_file 20 0) (after_m (1 ∷ 1 ∷ 1 ∷ 1 ∷ 76 ∷ [])))
    × (reading_of sheet_m plan_k lent_to_reader ≡ run (refused of_plan_file 17 0) (after_m (1 ∷ 1 ∷ 1 ∷ 1 ∷ 76 ∷ [])))
    × (reading_of sheet_m missed lent_to_reader ≡ run (refused of_plan_file 20 0) (after_m (1 ∷ 1 ∷ 1 ∷ 0 ∷ 76 ∷ [])))
    × (reading_of sheet_m plan_l lent_to_reader ≡ run (refused of_plan_file 20 0) (after_m (1 ∷ 1 ∷ 1 ∷ 1 ∷ 76 ∷ [])))
unfolding verdict read_for loaded plan_of file_fault tree_fault
senders_settled = (refl, refl, refl, refl, refl, refl, refl, refl, refl, refl, refl, refl, refl, refl, refl)

-- ---- legs by their end

-- the lent tables with another index
abbrev with_index : IndexTables → EngineTables
with_index index = engine_tables lent.tables index lent.cells lent.marks lent.buffer

pub index_settled :
    -- R: two parallel legs and the leg back between the sites 1 and 2, and the sites 0 and 3 at which no leg arrives
    (planning_of sheet_r lent
    ≡ run (plan 1 4 1)
    (engine_tables
    (sheet_tables (3 ∷ 1 ∷ 2 ∷ 1 ∷ 71 ∷ 71 ∷ []) (1 ∷ 2 ∷ 1 ∷ 2 ∷ 72 ∷ 72 ∷ []) (2 ∷ 5 ∷ 5 ∷ 4 ∷ 73 ∷ 73 ∷ []) (1_024 ∷ 1_026 ∷ 1_025 ∷ 1_024 ∷ 1_098 ∷ []))
    (index_tables (0 ∷ 2 ∷ 1 ∷ 3 ∷ 77 ∷ 77 ∷ []) (0 ∷ 0 ∷ 2 ∷ 4 ∷ 4 ∷ 78 ∷ []))
    (
    0 ∷ 4_294_967_295 ∷ 4_294_967_295 ∷ 4_294_967_295 ∷
    0 ∷ 4 ∷ 0 ∷ 4 ∷
    0 ∷ 0 ∷ 5 ∷ 5 ∷
    0 ∷ 6 ∷ 2 ∷ 6 ∷
    75 ∷ 75 ∷ 75 ∷ 75 ∷ 75 ∷ 75 ∷ 75 ∷ 75 ∷
    75 ∷ 75 ∷ 75 ∷ 75 ∷ 75 ∷ 75 ∷ 75 ∷ 75 ∷
    75 ∷ []
    )
    (1 ∷ 1 ∷ 1 ∷ 1 ∷ 76 ∷ [])
    (
    0x50 ∷ 0x4E ∷ 0x00 ∷ 0x01 ∷ 0x00 ∷ 0x00 ∷ 0x00 ∷ 0x04 ∷ 0x00 ∷ 0x01 ∷
    0x4C ∷ 0x47 ∷ 0x00 ∷ 0x03 ∷
    0xEE ∷ 0xEE ∷ 0xEE ∷ 0xEE ∷ 0xEE ∷ 0xEE ∷ 0xEE ∷ 0xEE ∷ 0xEE ∷ 0xEE ∷ []
    )))
    × (legs (verdict sheet_r) ≡ some (3 ∷ []))
    -- A with one leg number too few, and with one starting place too few: 11, and nothing is touched; with as many as it needs it is planned
    × (planning_of sheet_a (with_index (index_tables (77 ∷ 77 ∷ 77 ∷ 77 ∷ []) (78 ∷ 78 ∷ 78 ∷ 78 ∷ 78 ∷ [])))
    ≡ run (refused of_tables 11 0) (with_index (index_tables (77 ∷ 77 ∷ 77 ∷ 77 ∷ []) (78 ∷ 78 ∷ 78 ∷ 78 ∷ 78 ∷ []))))
    × (planning_of sheet_a (with_index (index_tables (77 ∷ 77 ∷ 77 ∷ 77 ∷ 77 ∷ []) (78 ∷ 78 ∷ 78 ∷ 78 ∷ [])))
    ≡ run (refused of_tables 11 0) (with_index (index_tables (77 ∷ 77 ∷ 77 ∷ 77 ∷ 77 ∷ []) (78 ∷ 78 ∷ 78 ∷ 78 ∷ []))))
    × ((planning_of sheet_a (with_index (index_tables (77 ∷ 77 ∷ 77 ∷ 77 ∷ 77 ∷ []) (78 ∷ 78 ∷ 78 ∷ 78 ∷ 78 ∷ [])))).after.index
    ≡ index_tables (0 ∷ 1 ∷ 3 ∷ 2 ∷ 4 ∷ []) (0 ∷ 0 ∷ 1 ∷ 3 ∷ 5 ∷ []))
unfolding verdict read_for loaded plan_of
index_settled = (refl, refl, refl, refl, refl)

-- ---- best senders

-- the best sender of each subset by these tables, for n sites and k stations
abbrev best_in : (n k : ℕ) → EngineTables → List Stated
best_in n k t = map (sender_answer t.cells t.tables.landings n k) (numbers 0 (2 ^ k))

-- over the tables that the engine leaves
pub best_settled :
    -- A: every site is a sender, so that the lowest of all is that of the empty subset
    (best_in 4 3 (planning_of sheet_a lent).after ≡ sender 0 ∷ sender 2 ∷ sender 3 ∷ sender 1 ∷ sender 0 ∷ sender 0 ∷ sender 0 ∷ sender 0 ∷ [])
    -- C: station 1 is heard at the sites 1 and 2
    × (best_in 3 2 (planning_of sheet_c lent).after ≡ sender 0 ∷ sender 0 ∷ sender 1 ∷ sender 0 ∷ [])
    -- D: both sites cost 7 for both stations; E: neither reaches both
    × (best_in 2 2 (planning_of sheet_d lent).after ≡ sender 0 ∷ sender 0 ∷ sender 1 ∷ sender 0 ∷ [])
    × (best_in 2 2 (planning_of sheet_e lent).after ≡ sender 0 ∷ sender 0 ∷ sender 1 ∷ no_sender ∷ [])
    -- M: site 1 is the only sender, and does not reach station 2
    × (best_in 4 3 (planning_of sheet_m lent).after ≡ sender 1 ∷ sender 1 ∷ sender 1 ∷ sender 1 ∷ no_sender ∷ no_sender ∷ no_sender ∷ no_sender ∷ [])
    -- O: the senders 1 and 2 cost the same, and site 0, which is no sender, costs less
    × (best_in 4 2 (planning_of sheet_o lent).after ≡ sender 1 ∷ sender 1 ∷ sender 1 ∷ sender 1 ∷ [])
    -- Q: D with site 1 as its only sender
    × (best_in 2 2 (planning_of sheet_q lent).after ≡ sender 1 ∷ sender 1 ∷ sender 1 ∷ sender 1 ∷ [])
unfolding verdict read_for loaded plan_of
best_settled = (refl, refl, refl, refl, refl, refl, refl)
