-- The mission, point 3: "For every sheet that the engine plans and every plan file that the reader accepts against that sheet, the engine's
-- total equals the file's exactly when every directed subtree of the sheet's legs that holds a site of every station has at least the file's
-- total. With a good sheet and long enough tables, the engine gives 'no plan' exactly when no site has directed paths to a site of every
-- station; otherwise, if the plan buffer is long enough as well, it gives a plan."
-- Assumes nothing.
use Rattle.std.specs.Prelude.{ℕ, ◌<◌, ◌≤◌, ◌≡◌, ◌↔◌, List, T, length}
use Rattle.limits.specs.Refusals.{no_plan, short_buffer}
use Rattle.answer.specs.Stated.{Stated, plan, refused, of_tables, of_search}
use Rattle.graph.specs.Graph.{Graph}
use Rattle.graph.specs.Paths.{ReachesAll}
use Rattle.graph.specs.Subtrees.{Subtree, CoversAll, total}
use Rattle.records.specs.Arcs.{arcs}
use Rattle.number_fields.specs.Fields.{Bytes}
use Rattle.sheet.specs.Verdict.{good, verdict}
use Rattle.records.specs.declared.record.Record.{Record}
use Rattle.network.specs.Network.{graph_of}
use Rattle.planfile.specs.Format.{file_size, total_in}
use Rattle.mission.specs.Runs.{ReaderTables, Reader, EngineTables, EngineLong, Engine, Plans}
use Rattle.mission.specs.PointTwo.{Accepts}
use Rattle.mission.specs.Rule.{ByRule}

-- "every directed subtree of the sheet's legs that holds a site of every station has at least" this total, of the subtrees whose root may be a
-- root: a sender (document 02, W-201: "every rival tree [is] judged among trees whose root is a sender"; `sheet-none-cheaper` in SheetWords.antt).
abbrev pub NoneCheaper : Graph → ℕ → Type 0
NoneCheaper G cost = (root : ℕ) (L : List ℕ) → T (G.may_root root) → Subtree G root L → CoversAll G root L → cost ≤ total G root L

-- "For every sheet that the engine plans and every plan file that the reader accepts against that sheet, the engine's total equals the file's
-- exactly when every directed subtree of the sheet's legs that holds a site of every station has at least the file's total."
abbrev pub BestTotal : (sheet : List ℕ) → Stated → Reader → Type 0
BestTotal sheet answer read =
    (root cost count : ℕ) → answer ≡ plan root cost count → (file : List ℕ) → Bytes file → (t : ReaderTables) → Accepts (read sheet file t).answer
    → (n k : ℕ) (records : List Record) → verdict sheet ≡ good n k records → (cost ≡ total_in file) ↔ NoneCheaper (graph_of n k records) (total_in file)

-- some site "has directed paths to a site of every station". The site is one that may be a root: a sender (`sheet-some-reaches` in
-- SheetWords.antt).
abbrev pub SomeReachesAll : Graph → Type 0
SomeReachesAll G = (v : ℕ) × (v < G.nodes) × T (G.may_root v) × ReachesAll G v

-- "The plan buffer is long enough when it has at least as many bytes as the file of the plan laid out below": the plan by the stated rule, of
-- which there is one (`one-plan` in OnePlan.antt). Only this, and 13 below, speak of the rule.
abbrev pub BufferLong : Graph → List ℕ → Type 0
BufferLong G buffer = (root cost : ℕ) (L : List ℕ) → ByRule G root cost L → file_size (length L) ≤ length buffer

-- the plan by the rule is longer than the buffer
pub record PlanTooLong (G : Graph) (buffer : List ℕ) : Type 0 where
  pub root : ℕ
  pub cost : ℕ
  pub listed : List ℕ
  pub by_rule : ByRule G root cost listed
  pub too_long : length buffer < file_size (length listed)

-- "With a good sheet and long enough tables, the engine gives 'no plan' exactly when no site has directed paths to a site of every station;
-- otherwise, if the plan buffer is long enough as well, it gives a plan."
pub record PlansOrNot (G : Graph) (buffer : List ℕ) (answer : Stated) : Type 0 where
  pub no_plan_lem : (answer ≡ refused of_search no_plan 0) ↔ (SomeReachesAll G → ⊥)
  pub plans : SomeReachesAll G → BufferLong G buffer → Plans answer
  -- 13, "plan longer than its buffer"
  pub short_buffer_lem : (answer ≡ refused of_tables short_buffer 0) ↔ PlanTooLong G buffer

-- of one run of an engine, against a plan reader: "All of this holds whoever wrote the file and whatever the lent tables held before."
pub record EngineBest (read : Reader) (sheet : List ℕ) (before : EngineTables) (answer : Stated) : Type 0 where
  pub best : BestTotal sheet answer read
  pub plans_or_not : (n k : ℕ) (records : List Record) → verdict sheet ≡ good n k records → EngineLong n k (length (arcs records)) before
      → PlansOrNot (graph_of n k records) before.buffer answer

-- every run of an engine, for all bytes, whatever was lent
abbrev pub PointThree : Engine → Reader → Type 0
PointThree engine read = (sheet : List ℕ) → Bytes sheet → (t : EngineTables) → EngineBest read sheet t (engine sheet t).answer
