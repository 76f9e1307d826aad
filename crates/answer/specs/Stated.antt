-- What document 01, "What is sent back", and document 02 return in each case: the values of a plan, of an acceptance or of the enquirer, or the
-- family, the number and the place of a refusal. The promises of all entry points are stated with these definitions.
-- Assumes nothing.
use Rattle.std.specs.Prelude.{ℕ, Result, Ok, Err, Option, Some, None}
use Rattle.limits.specs.Refusals.{short_sheet, strange_mark, bad_head, no_such_site, no_such_station, loop, bad_price, too_many_legs, after_the_end, unheard, short_tables, no_plan, short_buffer, cut_plan, bad_plan, unknown_number, no_tree, station_missed, false_total, not_a_sender}
use Rattle.answer.specs.declared.SheetFault.{SheetFault}
use Rattle.answer.specs.declared.SheetFault.TheVariants.{ShortSheet, StrangeMark, BadHead, NoSuchSite, NoSuchStation, Loop, BadPrice, TooManyLegs, AfterTheEnd, Unheard}
use Rattle.answer.specs.declared.TableFault.{TableFault}
use Rattle.answer.specs.declared.TableFault.TheVariants.{ShortTables, ShortBuffer}
use Rattle.answer.specs.declared.SearchFault.{SearchFault}
use Rattle.answer.specs.declared.PlanFault.{PlanFault}
use Rattle.answer.specs.declared.PlanFault.TheVariants.{CutPlan, BadPlan, UnknownNumber, NoTree, StationMissed, FalseTotal, NotASender}
use Rattle.answer.specs.declared.Refusal.{Refusal}
use Rattle.answer.specs.declared.Refusal.TheVariants.{Sheet, Tables, Search, PlanFile}
use Rattle.answer.specs.declared.Plan.{Plan}
use Rattle.answer.specs.declared.Shared.{Shared}

-- what caused a refusal
pub data Family : Type 0 where
  of_sheet of_tables of_search of_plan_file : Family

-- what is returned: a plan's or an accepted file's root, total and leg count; with shares (document 02, W-204) the same and the unassigned sum; a
-- cell; a best sender; "none"; or a refusal
pub data Stated : Type 0 where
  plan : (root total arcs : ℕ) → Stated
  shared : (root total arcs unassigned : ℕ) → Stated
  cell : ℕ → Stated
  sender : ℕ → Stated
  no_sender : Stated
  refused : Family → (number place : ℕ) → Stated

-- the sheet's refusals
abbrev pub stated_sheet : SheetFault → Stated
stated_sheet (ShortSheet place) = refused of_sheet short_sheet place
stated_sheet (StrangeMark place) = refused of_sheet strange_mark place
stated_sheet (BadHead place) = refused of_sheet bad_head place
stated_sheet (NoSuchSite place) = refused of_sheet no_such_site place
stated_sheet (NoSuchStation place) = refused of_sheet no_such_station place
stated_sheet (Loop place) = refused of_sheet loop place
stated_sheet (BadPrice place) = refused of_sheet bad_price place
stated_sheet (TooManyLegs place) = refused of_sheet too_many_legs place
stated_sheet (AfterTheEnd place) = refused of_sheet after_the_end place
stated_sheet (Unheard place) = refused of_sheet unheard place

-- the tables' refusals
abbrev pub stated_tables : TableFault → Stated
stated_tables ShortTables = refused of_tables short_tables 0
stated_tables ShortBuffer = refused of_tables short_buffer 0

-- the search's refusal
abbrev pub stated_search : SearchFault → Stated
stated_search fault = refused of_search no_plan 0

-- the plan file's refusals
abbrev pub stated_plan_file : PlanFault → Stated
stated_plan_file CutPlan = refused of_plan_file cut_plan 0
stated_plan_file (BadPlan place) = refused of_plan_file bad_plan place
stated_plan_file (UnknownNumber place) = refused of_plan_file unknown_number place
stated_plan_file NoTree = refused of_plan_file no_tree 0
stated_plan_file StationMissed = refused of_plan_file station_missed 0
stated_plan_file FalseTotal = refused of_plan_file false_total 0
stated_plan_file NotASender = refused of_plan_file not_a_sender 0

-- a refusal's family, number and place
abbrev pub stated_refusal : Refusal → Stated
stated_refusal (Sheet fault) = stated_sheet fault
stated_refusal (Tables fault) = stated_tables fault
stated_refusal (Search fault) = stated_search fault
stated_refusal (PlanFile fault) = stated_plan_file fault

-- what caused this refusal
abbrev pub family_of : Refusal → Family
family_of (Sheet fault) = of_sheet
family_of (Tables fault) = of_tables
family_of (Search fault) = of_search
family_of (PlanFile fault) = of_plan_file

-- an answer: what is stated of its value, or the refusal
abbrev pub stated_as : {A : Type 0} → (A → Stated) → Result A Refusal → Stated
stated_as value (Ok a) = value a
stated_as value (Err refusal) = stated_refusal refusal

-- the answer of the engine or of the plan reader
abbrev pub stated_plan : Plan → Stated
stated_plan p = plan p.root p.total p.arcs

abbrev pub stated : Result Plan Refusal → Stated
stated = stated_as stated_plan

-- the answers of the enquirer
abbrev pub stated_cell : Result ℕ Refusal → Stated
stated_cell = stated_as cell

abbrev pub stated_best : Option ℕ → Stated
stated_best (Some node) = sender node
stated_best None = no_sender

abbrev pub stated_sender : Result (Option ℕ) Refusal → Stated
stated_sender = stated_as stated_best

-- the answer to a request for shares
abbrev pub stated_shares : Shared → Stated
stated_shares s = shared s.plan.root s.plan.total s.plan.arcs s.unassigned

abbrev pub stated_sharing : Result Shared Refusal → Stated
stated_sharing = stated_as stated_shares
