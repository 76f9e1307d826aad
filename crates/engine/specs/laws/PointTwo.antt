-- The mission, point 2, of the engine's answer as it is defined, against the plan reader's as it is defined: the plan is a directed subtree
-- chosen by the stated rule, its file stands in the plan buffer, and the plan reader accepts that file.
-- Assumes nothing.
use Rattle.std.specs.Prelude.{ℕ, ◌≤◌, ◌≡◌, refl, List, length}
use Rattle.std.proofs.Math.Option.{some}
use Rattle.std.proofs.Common.{arith}
use Rattle.lists.specs.Over.{over}
use Rattle.answer.specs.Stated.{plan}
use Rattle.answer.proofs.laws.OneToOne.{refusal_no_plan}
use Rattle.answer.specs.declared.Refusal.TheVariants.{Sheet}
use Rattle.number_fields.specs.Fields.{Bytes}
use Rattle.sheet.specs.Verdict.{good, verdict}
use Rattle.records.specs.declared.record.Record.{Record}
use Rattle.network.specs.Network.{graph_of}
use Rattle.planfile.specs.Format.{file_bytes, file_size}
use Rattle.planfile.proofs.laws.FormatLaws.{file_bytes_lem, length_file}
use Rattle.mission.specs.Runs.{EngineTables, GoodWith, Run}
use Rattle.mission.proofs.laws.PointLaws.{refused_not_plan, same_plan}
use Rattle.mission.specs.PointTwo.{PlanWritten, PlanAccepted, EngineSound, EnginePointTwo}
use Rattle.plan_reader.specs.Reader.{reading_of}
use Rattle.plan_reader.specs.laws.PointTwo.{point_two as reads-plans}
use Rattle.best_plan.specs.Plan.{Plan, plan_of, with_file}
use Rattle.engine.specs.Engine.{searched, planning_of}
use Rattle.engine.specs.laws.Rules.{by_cases}
use Rattle.best_plan.proofs.laws.Found.{sheet_found, plan_encoded}

module _ (sheet : List ℕ) (bytes : Bytes sheet) (t : EngineTables) where
  module _ (n k : ℕ) (records : List Record) (e : verdict sheet ≡ good n k records) (p : Plan) (q : plan_of (graph_of n k records) ≡ some p)
      (fits : file_size (length p.arcs) ≤ length t.buffer) where
    abbrev file : List ℕ
    file = file_bytes p.root p.cost p.arcs

    -- the plan is written
    plan_written : PlanWritten (graph_of n k records) p.root p.cost (length p.arcs) t.buffer (over file t.buffer)
    plan_written =
        let found = sheet_found sheet bytes n k records e p q in
        record {
          listed = p.arcs;
          is_plan = found.is_plan;
          by_rule = found.by_rule;
          count_is = refl;
          file = file;
          encoded = plan_encoded sheet bytes n k records e p q;
          room = omega (arith, length_file p.root p.cost p.arcs);
          written = refl;
        }

    -- and the plan reader accepts it
    plan_accepted : PlanAccepted reading_of sheet p.root p.cost (length p.arcs) t.buffer (over file t.buffer) n k records
    unfolding plan_written
    plan_accepted = record {
      plan_written = plan_written;
      accepted = λ tables long.
          let (_, back) =
          reads-plans sheet file (file_bytes_lem p.root p.cost p.arcs) tables n k records e long p.root p.cost (length p.arcs) in
          back
          (record {
            listed = p.arcs;
            is_plan = plan_written.is_plan;
            count_is = refl;
            encoded = plan_written.encoded;
          });
    }

    plan_sound : EngineSound reading_of sheet t (plan p.root p.cost (length p.arcs)) (with_file p (searched n k records t))
    plan_sound root cost count same =
        same_plan (λ a b c. GoodWith sheet (PlanAccepted reading_of sheet a b c t.buffer (over file t.buffer))) same
        (record { n = n; k = k; records = records; good_sheet = e; holds = plan_accepted })

-- every run of the engine
pub point_two : EnginePointTwo planning_of reading_of
point_two sheet bytes t =
    by_cases sheet t (λ (r : Run EngineTables). EngineSound reading_of sheet t r.answer r.after)
    (record {
      spoilt = λ fault e root cost count same. absurd (refusal_no_plan (Sheet fault) root cost count same);
      short = λ n k records e short root cost count same. absurd (refused_not_plan same);
      long = λ n k records e long. record {
        none_found = λ q root cost count same. absurd (refused_not_plan same);
        too_long = λ p q over root cost count same. absurd (refused_not_plan same);
        found = λ p q fits. plan_sound sheet bytes t n k records e p q fits;
      };
    })
