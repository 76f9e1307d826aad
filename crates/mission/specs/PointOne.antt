-- The mission, point 1: "The answer to every sheet, empty or spoilt ones included, is one plan or one refusal from the table in document 01. ..
-- A refusal leaves the plan buffer untouched, and the work tables in the state that the document names for its number."
-- Assumes nothing.
use Rattle.std.specs.Prelude.{ℕ, ◌<◌, ◌≤◌, ◌≡◌, ◌⊎◌, ◌↔◌, cond, List, leb, eqb, length, get_or, replicate}
use Rattle.limits.specs.Limits.{no_cost}
use Rattle.limits.specs.Refusals.{short_sheet, unheard, short_tables, no_plan, short_buffer, cut_plan, unknown_number, no_tree, not_a_sender}
use Rattle.lists.specs.Over.{over}
use Rattle.answer.specs.Stated.{Family, of_sheet, of_tables, of_search, of_plan_file, Stated, plan, shared, cell, sender, no_sender, refused, stated_sheet}
use Rattle.answer.specs.declared.SheetFault.{SheetFault}
use Rattle.graph.specs.Paths.{DirectedPath}
use Rattle.records.specs.Arcs.{arcs}
use Rattle.sheet.specs.Verdict.{good, bad, verdict}
use Rattle.records.specs.declared.record.Record.{Record}
use Rattle.record_tables.specs.Loaded.{loaded}
use Rattle.network.specs.Network.{graph_of}
use Rattle.network.specs.Indexed.{indexed}
use Rattle.planfile.specs.Format.{root_in, arcs_in}
use Rattle.cost_table.specs.Cells.{cost_table}
use Rattle.mission.specs.FileDue.{FileDue}
use Rattle.mission.specs.Runs.{ReaderTables, ReaderLong, Reader, EngineTables, EngineLong, Engine, GoodWith}

-- ---- one plan or one refusal

-- "Numbers 1 to 10 are the sheet's ..; 11 and 13 the tables'; 12 the search's; 14 to 19 the plan file's", and 20 too (document 02, W-201)
abbrev pub cause_of : ℕ → Family
cause_of number =
    cond (leb number unheard) of_sheet
    (cond (eqb number no_plan) of_search
    (cond (leb number short_buffer) of_tables
    of_plan_file))

-- a plan, or a refusal with a number that may be given and the family of that number
abbrev pub PlanOrRefusal : (ℕ → Type 0) → Stated → Type 0
PlanOrRefusal May (plan root cost count) = Unit {0}
PlanOrRefusal May (refused family number place) = May number × (family ≡ cause_of number)
PlanOrRefusal May (cell cost) = ⊥
PlanOrRefusal May (sender node) = ⊥
PlanOrRefusal May no_sender = ⊥
PlanOrRefusal May (shared root cost count rest) = ⊥

-- the engine's numbers: 1 to 13
abbrev pub EngineNumber : ℕ → Type 0
EngineNumber number = (short_sheet ≤ number) × (number ≤ short_buffer)

-- the plan reader's: 1 to 11 and 14 to 20
abbrev pub ReaderNumber : ℕ → Type 0
ReaderNumber number = ((short_sheet ≤ number) × (number ≤ short_tables)) ⊎ ((cut_plan ≤ number) × (number ≤ not_a_sender))

-- 1 to 11 are given exactly where they are due: a sheet that is not good gets the refusal of its verdict, number and place; a good sheet with a
-- table that is not long enough gets 11; and a good sheet with long enough tables gets none of them
pub record FirstDue (sheet : List ℕ) (Long : (n k arc_count : ℕ) → Type 0) (answer : Stated) : Type 0 where
  pub spoilt : (fault : SheetFault) → verdict sheet ≡ bad fault → answer ≡ stated_sheet fault
  pub short : (n k : ℕ) (records : List Record) → verdict sheet ≡ good n k records → (Long n k (length (arcs records)) → ⊥)
      → answer ≡ refused of_tables short_tables 0
  pub passed : (n k : ℕ) (records : List Record) → verdict sheet ≡ good n k records → Long n k (length (arcs records))
      → (family : Family) (number place : ℕ) → answer ≡ refused family number place → short_tables < number

-- ---- the tables

-- as after a plan: "the first entries of these hold the legs in order, each site's set of stations" (`loaded` of crate record_tables, with the flags
-- of the senders, document 02, W-201), "the costs, and 1 in each mark; later entries are untouched"; and the index of the legs (W-202)
pub record AsAfterPlan (n k : ℕ) (records : List Record) (before after : EngineTables) : Type 0 where
  pub tables : after.tables ≡ loaded n records before.tables
  pub index : after.index ≡ indexed (graph_of n k records) before.index
  pub cells : after.cells ≡ over (cost_table (graph_of n k records) no_cost) before.cells
  pub marks : after.marks ≡ over (replicate n 1) before.marks

-- ---- the engine

-- of one run: "1 to 11 touch nothing. 12 and 13 leave the tables as after a plan, and the plan buffer untouched."
pub record EngineSafe (sheet : List ℕ) (before : EngineTables) (answer : Stated) (after : EngineTables) : Type 0 where
  pub answers : PlanOrRefusal EngineNumber answer
  pub early : (family : Family) (number place : ℕ) → answer ≡ refused family number place → number ≤ short_tables → after ≡ before
  pub late : (family : Family) (number place : ℕ) → answer ≡ refused family number place → short_tables < number
      → GoodWith sheet (λ n k records. AsAfterPlan n k records before after)
  pub buffer : (family : Family) (number place : ℕ) → answer ≡ refused family number place → after.buffer ≡ before.buffer
  pub planned : (root cost count : ℕ) → answer ≡ plan root cost count → GoodWith sheet (λ n k records. AsAfterPlan n k records before after)

-- and 1 to 11 are given where they are due; 12 and 13 are point 3's
abbrev pub EngineAnswers : (sheet : List ℕ) → EngineTables → Stated → EngineTables → Type 0
EngineAnswers sheet before answer after = EngineSafe sheet before answer after × FirstDue sheet (λ n k m. EngineLong n k m before) answer

-- of every run of an engine, whatever was lent
abbrev pub EnginePointOne : Engine → Type 0
EnginePointOne engine = (sheet : List ℕ) (t : EngineTables) → EngineAnswers sheet t (engine sheet t).answer (engine sheet t).after

-- ---- the plan reader

-- "the first n marks are 1 for sites reached from the root by the listed legs, else 0": 1 exactly where a directed path leads
pub record MarksReached (n k : ℕ) (records : List Record) (file before after : List ℕ) : Type 0 where
  pub size : length after ≡ length before
  pub reached : (v : ℕ) → v < n → DirectedPath (graph_of n k records) (arcs_in file) (root_in file) v → get_or after v 0 ≡ 1
  pub others : (v : ℕ) → v < n → (DirectedPath (graph_of n k records) (arcs_in file) (root_in file) v → ⊥) → get_or after v 0 ≡ 0
  pub later : (v : ℕ) → n ≤ v → get_or after v 0 ≡ get_or before v 0

-- the leg and landing tables are filled, and the marks are written
pub record AsRead (n k : ℕ) (records : List Record) (file : List ℕ) (before after : ReaderTables) : Type 0 where
  pub tables : after.tables ≡ loaded n records before.tables
  pub marks : MarksReached n k records file before.marks after.marks

-- the leg and landing tables are filled, and the marks are untouched
pub record AsOpened (n : ℕ) (records : List Record) (before after : ReaderTables) : Type 0 where
  pub tables : after.tables ≡ loaded n records before.tables
  pub marks : after.marks ≡ before.marks

-- of one run: "1 to 11 touch nothing"; "from 14 on and on acceptance, has filled the leg and landing tables; from 17 on and on acceptance the
-- first n marks are ..; before 17 the marks are untouched"
pub record ReaderSafe (sheet file : List ℕ) (before : ReaderTables) (answer : Stated) (after : ReaderTables) : Type 0 where
  pub answers : PlanOrRefusal ReaderNumber answer
  pub early : (family : Family) (number place : ℕ) → answer ≡ refused family number place → number ≤ short_tables → after ≡ before
  pub opened : (family : Family) (number place : ℕ) → answer ≡ refused family number place → cut_plan ≤ number → number ≤ unknown_number
      → GoodWith sheet (λ n k records. AsOpened n records before after)
  pub late : (family : Family) (number place : ℕ) → answer ≡ refused family number place → no_tree ≤ number
      → GoodWith sheet (λ n k records. AsRead n k records file before after)
  pub accepted : (root cost count : ℕ) → answer ≡ plan root cost count → GoodWith sheet (λ n k records. AsRead n k records file before after)

-- with a good sheet and long enough tables, 14 to 20 are given exactly where they are due, each at its place
abbrev pub GetsDue : (sheet file : List ℕ) → ReaderTables → Stated → Type 0
GetsDue sheet file t answer =
    (n k : ℕ) (records : List Record) → verdict sheet ≡ good n k records → ReaderLong n k (length (arcs records)) t
    → (number place : ℕ) → (answer ≡ refused of_plan_file number place) ↔ FileDue (graph_of n k records) file number place

-- and 1 to 11, and 14 to 20, are given where they are due
abbrev pub ReaderAnswers : (sheet file : List ℕ) → ReaderTables → Stated → ReaderTables → Type 0
ReaderAnswers sheet file before answer after =
    ReaderSafe sheet file before answer after
    × (FirstDue sheet (λ n k m. ReaderLong n k m before) answer × GetsDue sheet file before answer)

-- of every run of a plan reader, whatever was lent
abbrev pub ReaderPointOne : Reader → Type 0
ReaderPointOne read = (sheet file : List ℕ) (t : ReaderTables) → ReaderAnswers sheet file t (read sheet file t).answer (read sheet file t).after
