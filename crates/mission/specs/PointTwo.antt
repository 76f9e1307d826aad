-- The mission, point 2: "The plan is a directed subtree by Kimelfeld and Sagiv's definition: its legs are on the sheet, it holds a site of
-- every station, its total is the sum of its prices, and equals are chosen by the stated rule. With a good sheet and long enough tables, the
-- plan reader accepts a file exactly when it encodes such a subtree, ties broken anyhow, with its true total, whoever wrote it, and so all that
-- the engine writes."
-- Assumes nothing.
use Rattle.std.specs.Prelude.{ℕ, ◌≤◌, ◌≡◌, ◌↔◌, List, T, length}
use Rattle.std.proofs.Math.Option.{some}
use Rattle.lists.specs.Over.{over}
use Rattle.answer.specs.Stated.{Stated, plan}
use Rattle.graph.specs.Graph.{Graph}
use Rattle.graph.specs.Subtrees.{Subtree, CoversAll, total}
use Rattle.records.specs.Arcs.{arcs}
use Rattle.number_fields.specs.Fields.{Bytes}
use Rattle.sheet.specs.Verdict.{good, verdict}
use Rattle.records.specs.declared.record.Record.{Record}
use Rattle.network.specs.Network.{graph_of}
use Rattle.planfile.specs.Format.{encoding}
use Rattle.mission.specs.Runs.{Plans, GoodWith, ReaderTables, ReaderLong, Reader, EngineTables, Engine}
use Rattle.mission.specs.Rule.{ByRule}

-- "such a subtree": "a directed subtree by Kimelfeld and Sagiv's definition: its legs are on the sheet, it holds a site of every station, its
-- total is the sum of its prices". That `Subtree` is document 004's, and that `total` is the sum of the prices, are theorems about the graph
-- of a sheet: `sheet-one-path` and `sheet-total` in crate network. Its root is a site that may be a root: a sender (document 02, W-201).
pub record IsPlan (G : Graph) (root cost : ℕ) (L : List ℕ) : Type 0 where
  pub may_root_lem : T (G.may_root root)
  pub subtree : Subtree G root L
  pub covers : CoversAll G root L
  pub true_total : cost ≡ total G root L

-- the file is the encoding of such a subtree, with this root, its true total and so many legs
pub record EncodesPlan (G : Graph) (file : List ℕ) (root cost count : ℕ) : Type 0 where
  pub listed : List ℕ
  pub is_plan : IsPlan G root cost listed
  pub count_is : length listed ≡ count
  pub encoded : encoding root cost listed ≡ some file

-- ---- the plan reader

-- a run's answer is an acceptance with a root, a total and a leg count exactly when the file encodes such a subtree with them
abbrev pub AcceptsPlans : (sheet file : List ℕ) → ReaderTables → Stated → Type 0
AcceptsPlans sheet file t answer =
    (n k : ℕ) (records : List Record) → verdict sheet ≡ good n k records → ReaderLong n k (length (arcs records)) t
    → (root cost count : ℕ) → (answer ≡ plan root cost count) ↔ EncodesPlan (graph_of n k records) file root cost count

-- every run of a plan reader, for all bytes, whatever the lent tables held before
abbrev pub ReaderPointTwo : Reader → Type 0
ReaderPointTwo read = (sheet file : List ℕ) → Bytes file → (t : ReaderTables) → AcceptsPlans sheet file t (read sheet file t).answer

-- so it accepts a file, with some root, total and leg count, exactly when the file encodes some such subtree: the mission's own sentence
abbrev pub Accepts : Stated → Type 0
Accepts = Plans

abbrev pub EncodesSome : Graph → List ℕ → Type 0
EncodesSome G file = (root : ℕ) × (cost : ℕ) × (count : ℕ) × EncodesPlan G file root cost count

pub accepts_iff : (sheet file : List ℕ) (t : ReaderTables) (answer : Stated) → AcceptsPlans sheet file t answer
    → (n k : ℕ) (records : List Record) → verdict sheet ≡ good n k records → ReaderLong n k (length (arcs records)) t
    → Accepts answer ↔ EncodesSome (graph_of n k records) file
accepts_iff sheet file t answer point n k records e long = (
  (λ a. let (root, cost, count, q) = a in let (there, _) = point n k records e long root cost count in (root, cost, count, there q)),
  (λ p. let (root, cost, count, q) = p in let (_, back) = point n k records e long root cost count in (root, cost, count, back q)),
)

-- ---- the engine

-- the plan that an engine gives, with this root, total and leg count: its legs are such a subtree, chosen by the stated rule, and its file
-- stands at the start of the plan buffer; bytes of the buffer beyond the file are untouched
pub record PlanWritten (G : Graph) (root cost count : ℕ) (before after : List ℕ) : Type 0 where
  pub listed : List ℕ
  pub is_plan : IsPlan G root cost listed
  pub by_rule : ByRule G root cost listed
  pub count_is : length listed ≡ count
  pub file : List ℕ
  pub encoded : encoding root cost listed ≡ some file
  pub room : length file ≤ length before
  pub written : after ≡ over file before

-- and the plan reader accepts that file against the sheet, with long enough tables, with the same root, total and leg count
pub record PlanAccepted (read : Reader) (sheet : List ℕ) (root cost count : ℕ) (before after : List ℕ) (n k : ℕ) (records : List Record) : Type 0 where
  pub plan_written : PlanWritten (graph_of n k records) root cost count before after
  pub accepted : (t : ReaderTables) → ReaderLong n k (length (arcs records)) t → (read sheet plan_written.file t).answer ≡ plan root cost count

-- of one run of an engine, against a plan reader
abbrev pub EngineSound : Reader → (sheet : List ℕ) → EngineTables → Stated → EngineTables → Type 0
EngineSound read sheet before answer after =
    (root cost count : ℕ) → answer ≡ plan root cost count
    → GoodWith sheet (PlanAccepted read sheet root cost count before.buffer after.buffer)

-- every run of an engine, for all bytes, whatever was lent
abbrev pub EnginePointTwo : Engine → Reader → Type 0
EnginePointTwo engine read = (sheet : List ℕ) → Bytes sheet → (t : EngineTables) → EngineSound read sheet t (engine sheet t).answer (engine sheet t).after
