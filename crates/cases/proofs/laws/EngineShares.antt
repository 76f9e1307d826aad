-- "For the engine's plans the unassigned sum is 0" (document 02, W-204): of every engine that keeps its promise, the file that it writes is accepted with
-- shares, with the plan's root, total and leg count, and nothing is unassigned.
-- Assumes nothing.
use Rattle.std.specs.Prelude.{ℕ, ◌≤◌, ◌≡◌, List, length}
use Rattle.std.proofs.Common.{ap, ◌∙◌, subst}
use Rattle.lists.specs.Over.{over}
use Rattle.answer.specs.Stated.{plan, shared}
use Rattle.graph.specs.Graph.{Graph}
use Rattle.graph.specs.Subtrees.{total}
use Rattle.graph.proofs.Theorems.{covers_all}
use Rattle.records.specs.Arcs.{arcs}
use Rattle.records.specs.declared.record.Record.{Record}
use Rattle.number_fields.specs.Fields.{Bytes}
use Rattle.sheet.specs.Verdict.{good, verdict}
use Rattle.sheet.specs.laws.Good.{good_is_sheet}
use Rattle.network.specs.Network.{graph_of}
use Rattle.network.proofs.laws.OfSheets.{sheet_sound}
use Rattle.planfile.specs.Format.{file_size, arcs_in}
use Rattle.planfile.proofs.laws.Encoded.{encoding_fields}
use Rattle.mission.specs.Runs.{GoodWith, EngineTables}
use Rattle.mission.specs.PointTwo.{PlanWritten, PlanAccepted}
use Rattle.plan_shares.specs.Shares.{unassigned}
use Rattle.plan_shares.proofs.laws.Assigned.{none_unassigned}
use Rattle.file_shares.specs.Sharing.{with_unassigned}
use Rattle.plan_reader.specs.Reader.{reading_of}
use Rattle.engine.specs.Engine.{planning_of}
use Rattle.engine.specs.laws.PointTwo.{point_two}
use Rattle.shares.specs.SharesOf.{ShareTables, sharing_of}
use Rattle.shares.specs.laws.Sums.{ShareLong, long_read, as_read}

-- the file at the start of the plan buffer, and what is answered where its shares are asked for with long enough tables
pub record AllAssigned (sheet : List ℕ) (root cost count : ℕ) (before after : List ℕ) (n k : ℕ) (records : List Record) : Type 0 where
  pub file : List ℕ
  pub size : length file ≡ file_size count
  pub written : after ≡ over file before
  pub assigned : (t : ShareTables) → ShareLong n k (length (arcs records)) t → (sharing_of sheet file t).answer ≡ shared root cost count 0

-- nothing is unassigned in the plan that is written
written_assigned : (sheet : List ℕ) → Bytes sheet → (n k : ℕ) (records : List Record) → verdict sheet ≡ good n k records
    → {root cost count : ℕ} {before after : List ℕ} (w : PlanWritten (graph_of n k records) root cost count before after)
    → unassigned (graph_of n k records) root (arcs_in w.file) ≡ 0
written_assigned sheet bytes n k records e {root} {cost} w =
    let G : Graph = graph_of n k records in
    ap (unassigned G root) (encoding_fields w.file root cost w.listed w.encoded).arcs_are
    ∙ none_unassigned G (sheet_sound n k records (good_is_sheet sheet bytes n k records e).each) root w.listed w.is_plan.subtree w.is_plan.covers
    (λ M tree all.
    let (_, covers) = covers_all G root M in
    subst (λ (x : ℕ). x ≤ total G root M) w.is_plan.true_total (w.by_rule.root_is.holds.costs.least M tree (covers all)))

-- of every engine that keeps its promise: where its plan is accepted, as `EngineSound` says of its plan buffer before and after
pub engine_assigned : (sheet : List ℕ) → Bytes sheet → (root cost count : ℕ) (before after : List ℕ)
    → GoodWith sheet (PlanAccepted reading_of sheet root cost count before after) → GoodWith sheet (AllAssigned sheet root cost count before after)
engine_assigned sheet bytes root cost count before after p =
    let w = p.holds.plan_written in
    let G : Graph = graph_of p.n p.k p.records in
    let fields = encoding_fields w.file root cost w.listed w.encoded in
    record {
      n = p.n;
      k = p.k;
      records = p.records;
      good_sheet = p.good_sheet;
      holds = record {
        file = w.file;
        size = fields.well_formed.size ∙ ap file_size (fields.count_is ∙ w.count_is);
        written = w.written;
        assigned = λ t long.
            (as_read sheet w.file t p.n p.k p.records p.good_sheet long.further.shares).answer
            ∙ ap (with_unassigned G w.file) (p.holds.accepted t.reader (long_read sheet w.file t p.n p.k p.records p.good_sheet long))
            ∙ ap (shared root cost count) (written_assigned sheet bytes p.n p.k p.records p.good_sheet w);
      };
    }

-- so of every run of the engine as it is defined
pub planned_assigned : (sheet : List ℕ) → Bytes sheet → (t : EngineTables) (root cost count : ℕ) → (planning_of sheet t).answer ≡ plan root cost count
    → GoodWith sheet (AllAssigned sheet root cost count t.buffer (planning_of sheet t).after.buffer)
planned_assigned sheet bytes t root cost count is =
    engine_assigned sheet bytes root cost count t.buffer (planning_of sheet t).after.buffer (point_two sheet bytes t root cost count is)
