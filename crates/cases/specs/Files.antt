-- The bytes of document 01's plan file for sheet A and of its cases K and L, which are settled in Worked.antt; further trees, and files for each of
-- the refusals 14 to 18 and 20, settled by computation: the answer and every table afterwards.
-- Assumes nothing.
use Rattle.std.specs.Prelude.{ℕ, ◌≡◌, refl, List, [], ◌∷◌}
use Rattle.std.proofs.Math.Option.{none, some}
use Rattle.answer.specs.Stated.{plan, refused, of_sheet, of_tables, of_plan_file}
use Rattle.sheet.specs.Verdict.{verdict, read_for}
use Rattle.sheet.specs.Worked.{sheet_a, sheet_d, sheet_f, sheet_q}
use Rattle.lent_tables.specs.SheetTables.{sheet_tables}
use Rattle.record_tables.specs.Loaded.{loaded}
use Rattle.planfile.specs.Format.{encoding}
use Rattle.mission.specs.Runs.{ReaderTables, reader_tables, run}
use Rattle.file_tests.specs.FileFaults.{file_fault}
use Rattle.plan_tests.specs.PlanFaults.{tree_fault}
use Rattle.plan_reader.specs.Reader.{reading_of}

-- A's plan file in document 01's hexadecimal: 504E 0000 0000000A 0003 4C47 0000 4C47 0001 4C47 0002
abbrev pub plan_a : List ℕ
plan_a =
    0x50 ∷ 0x4E ∷ 0x00 ∷ 0x00 ∷ 0x00 ∷ 0x00 ∷ 0x00 ∷ 0x0A ∷ 0x00 ∷ 0x03 ∷
    0x4C ∷ 0x47 ∷ 0x00 ∷ 0x00 ∷
    0x4C ∷ 0x47 ∷ 0x00 ∷ 0x01 ∷
    0x4C ∷ 0x47 ∷ 0x00 ∷ 0x02 ∷
    []

-- K: leg 2 listed twice, count 4
abbrev pub plan_k : List ℕ
plan_k =
    0x50 ∷ 0x4E ∷ 0x00 ∷ 0x00 ∷ 0x00 ∷ 0x00 ∷ 0x00 ∷ 0x0A ∷ 0x00 ∷ 0x04 ∷
    0x4C ∷ 0x47 ∷ 0x00 ∷ 0x00 ∷
    0x4C ∷ 0x47 ∷ 0x00 ∷ 0x01 ∷
    0x4C ∷ 0x47 ∷ 0x00 ∷ 0x02 ∷
    0x4C ∷ 0x47 ∷ 0x00 ∷ 0x02 ∷
    []

-- L: total 11
abbrev pub plan_l : List ℕ
plan_l =
    0x50 ∷ 0x4E ∷ 0x00 ∷ 0x00 ∷ 0x00 ∷ 0x00 ∷ 0x00 ∷ 0x0B ∷ 0x00 ∷ 0x03 ∷
    0x4C ∷ 0x47 ∷ 0x00 ∷ 0x00 ∷
    0x4C ∷ 0x47 ∷ 0x00 ∷ 0x01 ∷
    0x4C ∷ 0x47 ∷ 0x00 ∷ 0x02 ∷
    []

-- 14: under 10 bytes; and A's file without its last byte
abbrev pub under_ten : List ℕ
under_ten = 0x50 ∷ 0x4E ∷ 0x00 ∷ 0x00 ∷ 0x00 ∷ 0x00 ∷ 0x00 ∷ 0x0A ∷ 0x00 ∷ []

abbrev pub one_byte_short : List ℕ
one_byte_short =
    0x50 ∷ 0x4E ∷ 0x00 ∷ 0x00 ∷ 0x00 ∷ 0x00 ∷ 0x00 ∷ 0x0A ∷ 0x00 ∷ 0x03 ∷
    0x4C ∷ 0x47 ∷ 0x00 ∷ 0x00 ∷
    0x4C ∷ 0x47 ∷ 0x00 ∷ 0x01 ∷
    0x4C ∷ 0x47 ∷ 0x00 ∷
    []

-- 15: `PM` for `PN`; one byte left over; `LK` for the second `LG`
abbrev pub wrong_head_mark : List ℕ
wrong_head_mark =
    0x50 ∷ 0x4D ∷ 0x00 ∷ 0x00 ∷ 0x00 ∷ 0x00 ∷ 0x00 ∷ 0x0A ∷ 0x00 ∷ 0x03 ∷
    0x4C ∷ 0x47 ∷ 0x00 ∷ 0x00 ∷
    0x4C ∷ 0x47 ∷ 0x00 ∷ 0x01 ∷
    0x4C ∷ 0x47 ∷ 0x00 ∷ 0x02 ∷
    []

abbrev pub one_byte_left_over : List ℕ
one_byte_left_over =
    0x50 ∷ 0x4E ∷ 0x00 ∷ 0x00 ∷ 0x00 ∷ 0x00 ∷ 0x00 ∷ 0x0A ∷ 0x00 ∷ 0x03 ∷
    0x4C ∷ 0x47 ∷ 0x00 ∷ 0x00 ∷
    0x4C ∷ 0x47 ∷ 0x00 ∷ 0x01 ∷
    0x4C ∷ 0x47 ∷ 0x00 ∷ 0x02 ∷
    0x00 ∷
    []

abbrev pub wrong_arc_mark : List ℕ
wrong_arc_mark =
    0x50 ∷ 0x4E ∷ 0x00 ∷ 0x00 ∷ 0x00 ∷ 0x00 ∷ 0x00 ∷ 0x0A ∷ 0x00 ∷ 0x03 ∷
    0x4C ∷ 0x47 ∷ 0x00 ∷ 0x00 ∷
    0x4C ∷ 0x4B ∷ 0x00 ∷ 0x01 ∷
    0x4C ∷ 0x47 ∷ 0x00 ∷ 0x02 ∷
    []

-- 16: root 4 of 4 sites; leg 5 of 5 legs in the last record
abbrev pub unknown_root : List ℕ
unknown_root =
    0x50 ∷ 0x4E ∷ 0x00 ∷ 0x04 ∷ 0x00 ∷ 0x00 ∷ 0x00 ∷ 0x0A ∷ 0x00 ∷ 0x03 ∷
    0x4C ∷ 0x47 ∷ 0x00 ∷ 0x00 ∷
    0x4C ∷ 0x47 ∷ 0x00 ∷ 0x01 ∷
    0x4C ∷ 0x47 ∷ 0x00 ∷ 0x02 ∷
    []

abbrev pub unknown_arc : List ℕ
unknown_arc =
    0x50 ∷ 0x4E ∷ 0x00 ∷ 0x00 ∷ 0x00 ∷ 0x00 ∷ 0x00 ∷ 0x0A ∷ 0x00 ∷ 0x03 ∷
    0x4C ∷ 0x47 ∷ 0x00 ∷ 0x00 ∷
    0x4C ∷ 0x47 ∷ 0x00 ∷ 0x01 ∷
    0x4C ∷ 0x47 ∷ 0x00 ∷ 0x05 ∷
    []

-- A's legs in reverse order, so that the starts of the first two are reached only by the last
abbrev pub reversed : List ℕ
reversed =
    0x50 ∷ 0x4E ∷ 0x00 ∷ 0x00 ∷ 0x00 ∷ 0x00 ∷ 0x00 ∷ 0x0A ∷ 0x00 ∷ 0x03 ∷
    0x4C ∷ 0x47 ∷ 0x00 ∷ 0x02 ∷
    0x4C ∷ 0x47 ∷ 0x00 ∷ 0x01 ∷
    0x4C ∷ 0x47 ∷ 0x00 ∷ 0x00 ∷
    []

-- 17: legs 0 to 3, of which two end at site 2
abbrev pub two_to_one_node : List ℕ
two_to_one_node =
    0x50 ∷ 0x4E ∷ 0x00 ∷ 0x00 ∷ 0x00 ∷ 0x00 ∷ 0x00 ∷ 0x0F ∷ 0x00 ∷ 0x04 ∷
    0x4C ∷ 0x47 ∷ 0x00 ∷ 0x00 ∷
    0x4C ∷ 0x47 ∷ 0x00 ∷ 0x01 ∷
    0x4C ∷ 0x47 ∷ 0x00 ∷ 0x02 ∷
    0x4C ∷ 0x47 ∷ 0x00 ∷ 0x03 ∷
    []

-- 17, for sheet D: both legs from root 0, of which one ends there; and that one alone, whose start is not reached
abbrev pub into_the_root : List ℕ
into_the_root =
    0x50 ∷ 0x4E ∷ 0x00 ∷ 0x00 ∷ 0x00 ∷ 0x00 ∷ 0x00 ∷ 0x0E ∷ 0x00 ∷ 0x02 ∷
    0x4C ∷ 0x47 ∷ 0x00 ∷ 0x00 ∷
    0x4C ∷ 0x47 ∷ 0x00 ∷ 0x01 ∷
    []

abbrev pub only_into_the_root : List ℕ
only_into_the_root =
    0x50 ∷ 0x4E ∷ 0x00 ∷ 0x00 ∷ 0x00 ∷ 0x00 ∷ 0x00 ∷ 0x07 ∷ 0x00 ∷ 0x01 ∷
    0x4C ∷ 0x47 ∷ 0x00 ∷ 0x01 ∷
    []

-- 17: legs 1 and 2 from root 0, whose starts are not reached
abbrev pub not_reached : List ℕ
not_reached =
    0x50 ∷ 0x4E ∷ 0x00 ∷ 0x00 ∷ 0x00 ∷ 0x00 ∷ 0x00 ∷ 0x06 ∷ 0x00 ∷ 0x02 ∷
    0x4C ∷ 0x47 ∷ 0x00 ∷ 0x01 ∷
    0x4C ∷ 0x47 ∷ 0x00 ∷ 0x02 ∷
    []

-- 18: legs 0 and 1 alone, which hold no landing of station 1
abbrev pub missed : List ℕ
missed =
    0x50 ∷ 0x4E ∷ 0x00 ∷ 0x00 ∷ 0x00 ∷ 0x00 ∷ 0x00 ∷ 0x07 ∷ 0x00 ∷ 0x02 ∷
    0x4C ∷ 0x47 ∷ 0x00 ∷ 0x00 ∷
    0x4C ∷ 0x47 ∷ 0x00 ∷ 0x01 ∷
    []

-- accepted, though dearer: legs 4 and 3
abbrev pub dearer : List ℕ
dearer =
    0x50 ∷ 0x4E ∷ 0x00 ∷ 0x00 ∷ 0x00 ∷ 0x00 ∷ 0x00 ∷ 0x0B ∷ 0x00 ∷ 0x02 ∷
    0x4C ∷ 0x47 ∷ 0x00 ∷ 0x04 ∷
    0x4C ∷ 0x47 ∷ 0x00 ∷ 0x03 ∷
    []

-- for sheet Q, whose only sender is site 1: leg 1 from root 1, which is accepted, and root 1 alone, which holds no landing of station 0: 18
abbrev pub from_sender : List ℕ
from_sender =
    0x50 ∷ 0x4E ∷ 0x00 ∷ 0x01 ∷ 0x00 ∷ 0x00 ∷ 0x00 ∷ 0x07 ∷ 0x00 ∷ 0x01 ∷
    0x4C ∷ 0x47 ∷ 0x00 ∷ 0x01 ∷
    []

abbrev pub sender_alone : List ℕ
sender_alone = 0x50 ∷ 0x4E ∷ 0x00 ∷ 0x01 ∷ 0x00 ∷ 0x00 ∷ 0x00 ∷ 0x00 ∷ 0x00 ∷ 0x00 ∷ []

-- 20: leg 0 from root 0, which is no sender; the same with a false total; and root 0 alone, which holds no landing of station 1
abbrev pub not_from_sender : List ℕ
not_from_sender =
    0x50 ∷ 0x4E ∷ 0x00 ∷ 0x00 ∷ 0x00 ∷ 0x00 ∷ 0x00 ∷ 0x07 ∷ 0x00 ∷ 0x01 ∷
    0x4C ∷ 0x47 ∷ 0x00 ∷ 0x00 ∷
    []

abbrev pub not_from_sender_false_total : List ℕ
not_from_sender_false_total =
    0x50 ∷ 0x4E ∷ 0x00 ∷ 0x00 ∷ 0x00 ∷ 0x00 ∷ 0x00 ∷ 0x08 ∷ 0x00 ∷ 0x01 ∷
    0x4C ∷ 0x47 ∷ 0x00 ∷ 0x00 ∷
    []

abbrev pub not_from_sender_missed : List ℕ
not_from_sender_missed = 0x50 ∷ 0x4E ∷ 0x00 ∷ 0x00 ∷ 0x00 ∷ 0x00 ∷ 0x00 ∷ 0x00 ∷ 0x00 ∷ 0x00 ∷ []

-- the tables as they are lent: room for six legs and five sites
abbrev pub lent : ReaderTables
lent =
    reader_tables (sheet_tables (7 ∷ 7 ∷ 7 ∷ 7 ∷ 7 ∷ 7 ∷ []) (7 ∷ 7 ∷ 7 ∷ 7 ∷ 7 ∷ 7 ∷ []) (7 ∷ 7 ∷ 7 ∷ 7 ∷ 7 ∷ 7 ∷ []) (7 ∷ 7 ∷ 7 ∷ 7 ∷ 7 ∷ []))
    (9 ∷ 9 ∷ 9 ∷ 9 ∷ 9 ∷ [])

-- the same, with one landing set too few
abbrev pub lent_short : ReaderTables
lent_short =
    reader_tables (sheet_tables (7 ∷ 7 ∷ 7 ∷ 7 ∷ 7 ∷ 7 ∷ []) (7 ∷ 7 ∷ 7 ∷ 7 ∷ 7 ∷ 7 ∷ []) (7 ∷ 7 ∷ 7 ∷ 7 ∷ 7 ∷ 7 ∷ []) (7 ∷ 7 ∷ 7 ∷ []))
    (9 ∷ 9 ∷ 9 ∷ 9 ∷ 9 ∷ [])

-- the tables after sheet D: its two legs, the stations of its two sites, both flagged as senders, and these marks
abbrev pub filled_with_d : List ℕ → ReaderTables
filled_with_d marks =
    reader_tables (sheet_tables (0 ∷ 1 ∷ 7 ∷ 7 ∷ 7 ∷ 7 ∷ []) (1 ∷ 0 ∷ 7 ∷ 7 ∷ 7 ∷ 7 ∷ []) (7 ∷ 7 ∷ 7 ∷ 7 ∷ 7 ∷ 7 ∷ []) (1_025 ∷ 1_026 ∷ 7 ∷ 7 ∷ 7 ∷ []))
    marks

-- the same after sheet Q, of whose sites only site 1 is flagged
abbrev pub filled_with_q : List ℕ → ReaderTables
filled_with_q marks =
    reader_tables (sheet_tables (0 ∷ 1 ∷ 7 ∷ 7 ∷ 7 ∷ 7 ∷ []) (1 ∷ 0 ∷ 7 ∷ 7 ∷ 7 ∷ 7 ∷ []) (7 ∷ 7 ∷ 7 ∷ 7 ∷ 7 ∷ 7 ∷ []) (1 ∷ 1_026 ∷ 7 ∷ 7 ∷ 7 ∷ []))
    marks

-- the tables afterwards: A's five legs, the stations of its four sites, all flagged as senders, and these marks
abbrev pub filled_with : List ℕ → ReaderTables
filled_with marks =
    reader_tables (sheet_tables (0 ∷ 1 ∷ 1 ∷ 0 ∷ 0 ∷ 7 ∷ []) (1 ∷ 2 ∷ 3 ∷ 2 ∷ 3 ∷ 7 ∷ []) (4 ∷ 3 ∷ 3 ∷ 5 ∷ 6 ∷ 7 ∷ []) (1_028 ∷ 1_024 ∷ 1_025 ∷ 1_026 ∷ 7 ∷ []))
    marks

-- which files are accepted, and which are refused as what
pub files_settled :
    (encoding 0 10 (0 ∷ 1 ∷ 2 ∷ []) ≡ some plan_a)
    × (encoding 65_536 10 (0 ∷ 1 ∷ 2 ∷ []) ≡ none)
    × (encoding 0 4_294_967_296 (0 ∷ 1 ∷ 2 ∷ []) ≡ none)
    × (encoding 0 10 (0 ∷ 65_536 ∷ []) ≡ none)
    × (reading_of sheet_f plan_a lent ≡ run (refused of_sheet 7 5) lent)
    × (reading_of sheet_a reversed lent ≡ run (plan 0 10 3) (filled_with (1 ∷ 1 ∷ 1 ∷ 1 ∷ 9 ∷ [])))
    × (reading_of sheet_a dearer lent ≡ run (plan 0 11 2) (filled_with (1 ∷ 0 ∷ 1 ∷ 1 ∷ 9 ∷ [])))
    × (reading_of sheet_a plan_a lent_short ≡ run (refused of_tables 11 0) lent_short)
    × (reading_of sheet_a under_ten lent ≡ run (refused of_plan_file 14 0) (filled_with (9 ∷ 9 ∷ 9 ∷ 9 ∷ 9 ∷ [])))
    × (reading_of sheet_a one_byte_short lent ≡ run (refused of_plan_file 14 0) (filled_with (9 ∷ 9 ∷ 9 ∷ 9 ∷ 9 ∷ [])))
    × (reading_of sheet_a wrong_head_mark lent ≡ run (refused of_plan_file 15 0) (filled_with (9 ∷ 9 ∷ 9 ∷ 9 ∷ 9 ∷ [])))
    × (reading_of sheet_a one_byte_left_over lent ≡ run (refused of_plan_file 15 22) (filled_with (9 ∷ 9 ∷ 9 ∷ 9 ∷ 9 ∷ [])))
    × (reading_of sheet_a wrong_arc_mark lent ≡ run (refused of_plan_file 15 14) (filled_with (9 ∷ 9 ∷ 9 ∷ 9 ∷ 9 ∷ [])))
    × (reading_of sheet_a unknown_root lent ≡ run (refused of_plan_file 16 0) (filled_with (9 ∷ 9 ∷ 9 ∷ 9 ∷ 9 ∷ [])))
    × (reading_of sheet_a unknown_arc lent ≡ run (refused of_plan_file 16 18) (filled_with (9 ∷ 9 ∷ 9 ∷ 9 ∷ 9 ∷ [])))
    × (reading_of sheet_a two_to_one_node lent ≡ run (refused of_plan_file 17 0) (filled_with (1 ∷ 1 ∷ 1 ∷ 1 ∷ 9 ∷ [])))
    × (reading_of sheet_d into_the_root lent ≡ run (refused of_plan_file 17 0) (filled_with_d (1 ∷ 1 ∷ 9 ∷ 9 ∷ 9 ∷ [])))
    × (reading_of sheet_d only_into_the_root lent ≡ run (refused of_plan_file 17 0) (filled_with_d (1 ∷ 0 ∷ 9 ∷ 9 ∷ 9 ∷ [])))
    × (reading_of sheet_a not_reached lent ≡ run (refused of_plan_file 17 0) (filled_with (1 ∷ 0 ∷ 0 ∷ 0 ∷ 9 ∷ [])))
    × (reading_of sheet_a missed lent ≡ run (refused of_plan_file 18 0) (filled_with (1 ∷ 1 ∷ 1 ∷ 0 ∷ 9 ∷ [])))
    × (reading_of sheet_d not_from_sender lent ≡ run (plan 0 7 1) (filled_with_d (1 ∷ 1 ∷ 9 ∷ 9 ∷ 9 ∷ [])))
    × (reading_of sheet_q from_sender lent ≡ run (plan 1 7 1) (filled_with_q (1 ∷ 1 ∷ 9 ∷ 9 ∷ 9 ∷ [])))
    × (reading_of sheet_q sender_alone lent ≡ run (refused of_plan_file 18 0) (filled_with_q (0 ∷ 1 ∷ 9 ∷ 9 ∷ 9 ∷ [])))
    × (reading_of sheet_q not_from_sender lent ≡ run (refused of_plan_file 20 0) (filled_with_q (1 ∷ 1 ∷ 9 ∷ 9 ∷ 9 ∷ [])))
    × (reading_of sheet_q not_from_sender_false_total lent ≡ run (refused of_plan_file 20 0) (filled_with_q (1 ∷ 1 ∷ 9 ∷ 9 ∷ 9 ∷ [])))
    × (reading_of sheet_q not_from_sender_missed lent ≡ run (refused of_plan_file 20 0) (filled_with_q (1 ∷ 0 ∷ 9 ∷ 9 ∷ 9 ∷ [])))
    × (reading_of sheet_q into_the_root lent ≡ run (refused of_plan_file 17 0) (filled_with_q (1 ∷ 1 ∷ 9 ∷ 9 ∷ 9 ∷ [])))
    × (reading_of sheet_q unknown_root lent ≡ run (refused of_plan_file 16 0) (filled_with_q (9 ∷ 9 ∷ 9 ∷ 9 ∷ 9 ∷ [])))
unfolding verdict read_for loaded file_fault tree_fault
files_settled =
    (refl, refl, refl, refl, refl, refl, refl, refl, refl, refl, refl, refl, refl, refl, refl, refl, refl, refl, refl, refl, refl, refl, refl, refl, refl, refl, refl, refl)
