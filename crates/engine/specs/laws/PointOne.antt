-- The mission, point 1, of the engine's answer as it is defined.
-- Assumes nothing.
use Rattle.std.specs.Prelude.{ℕ, ◌<◌, ◌≡◌, refl, Bool, true, false, List, leb, length}
use Rattle.std.proofs.Math.Option.{Option, none, some}
use Rattle.std.proofs.Common.{arith}
use Rattle.limits.specs.Refusals.{short_tables, no_plan, short_buffer}
use Rattle.answer.specs.Stated.{Family, plan, refused, of_search, of_tables, stated_sheet}
use Rattle.answer.proofs.laws.OneToOne.{refusal_no_plan}
use Rattle.answer.specs.declared.SheetFault.{SheetFault}
use Rattle.answer.specs.declared.Refusal.TheVariants.{Sheet}
use Rattle.sheet.specs.Verdict.{good, verdict}
use Rattle.records.specs.declared.record.Record.{Record}
use Rattle.network.specs.Network.{graph_of}
use Rattle.planfile.specs.Format.{file_size}
use Rattle.mission.specs.Runs.{EngineTables, with_buffer, engine_further, GoodWith, Run}
use Rattle.mission.specs.PointOne.{AsAfterPlan, EngineNumber, EngineSafe, EnginePointOne, PlanOrRefusal}
use Rattle.mission.proofs.laws.PointLaws.{same_number, plan_not_refused, refused_not_plan, sheet_number, sheet_refusal, first_due}
use Rattle.best_plan.specs.Plan.{Plan, plan_of, with_file, written, sent_back}
use Rattle.engine.specs.Engine.{searched, planning_of}
use Rattle.engine.specs.laws.Rules.{by_cases}

module _ (sheet : List ℕ) (t : EngineTables) where
  -- a refusal up to 11 touches nothing
  sheet_safe : (fault : SheetFault) → EngineSafe sheet t (stated_sheet fault) t
  sheet_safe fault = record {
    answers = sheet_refusal EngineNumber (λ number low high. (low, omega arith)) fault;
    early = λ family number place e small. refl;
    late = λ family number place e large. absurd (omega (arith, sheet_number fault family number place e));
    buffer = λ family number place e. refl;
    planned = λ root cost count e. absurd (refusal_no_plan (Sheet fault) root cost count e);
  }

  short_safe : EngineSafe sheet t (refused of_tables short_tables 0) t
  short_safe = record {
    answers = ((omega arith, omega arith), refl);
    early = λ family number place e small. refl;
    late = λ family number place e large. absurd (omega (arith, same_number e));
    buffer = λ family number place e. refl;
    planned = λ root cost count e. absurd (refused_not_plan e);
  }

  module _ (n k : ℕ) (records : List Record) (e : verdict sheet ≡ good n k records) where
    -- the tables after a search, with any plan buffer
    abbrev left : List ℕ → EngineTables
    left buffer = with_buffer buffer (searched n k records t)

    -- they are as after a plan
    as_after_plan : (buffer : List ℕ) → GoodWith sheet (λ n' k' records'. AsAfterPlan n' k' records' t (left buffer))
    as_after_plan buffer = record {
      n = n;
      k = k;
      records = records;
      good_sheet = e;
      holds = record { tables = refl; index = refl; cells = refl; marks = refl };
    }

    -- 12 and 13
    late_safe : (family : Family) (number : ℕ) → PlanOrRefusal EngineNumber (refused family number 0) → short_tables < number
        → EngineSafe sheet t (refused family number 0) (searched n k records t)
    late_safe family number answers large = record {
      answers = answers;
      early = λ family' number' place' q small. absurd (omega (arith, same_number q));
      late = λ family' number' place' q _. as_after_plan t.buffer;
      buffer = λ family' number' place' q. refl;
      planned = λ root cost count q. absurd (refused_not_plan q);
    }

    plan_safe : (p : Plan) → EngineSafe sheet t (plan p.root p.cost (length p.arcs)) (with_file p (searched n k records t))
    plan_safe p = record {
      answers = tt;
      early = λ family number place q small. absurd (plan_not_refused q);
      late = λ family number place q large. absurd (plan_not_refused q);
      buffer = λ family number place q. absurd (plan_not_refused q);
      planned = λ root cost count q. as_after_plan (with_file p (searched n k records t)).buffer;
    }

-- every run of the engine
safe : (sheet : List ℕ) (t : EngineTables) → EngineSafe sheet t (planning_of sheet t).answer (planning_of sheet t).after
safe sheet t =
    by_cases sheet t (λ (r : Run EngineTables). EngineSafe sheet t r.answer r.after)
    (record {
      spoilt = λ fault e. sheet_safe sheet t fault;
      short = λ n k records e short. short_safe sheet t;
      long = λ n k records e long. record {
        none_found = λ q. late_safe sheet t n k records e of_search no_plan ((omega arith, omega arith), refl) (omega arith);
        too_long = λ p q over. late_safe sheet t n k records e of_tables short_buffer ((omega arith, omega arith), refl) (omega arith);
        found = λ p q fits. plan_safe sheet t n k records e p;
      };
    })

-- the refusals of a good sheet come after 11
past_tables : (o : Option Plan) (t : EngineTables) (family : Family) (number place : ℕ) → (sent_back o t).answer ≡ refused family number place → short_tables < number
past_tables none t family number place same = omega (arith, same_number same)
past_tables (some p) t family number place same = go (leb (file_size (length p.arcs)) (length t.buffer)) same
  where
    go : (b : Bool) → (written b p t).answer ≡ refused family number place → short_tables < number
    go true same = absurd (plan_not_refused same)
    go false same = omega (arith, same_number same)

pub point_one : EnginePointOne planning_of
point_one sheet t = (
  safe sheet t,
  first_due sheet t.tables (engine_further t) t (λ n k records. sent_back (plan_of (graph_of n k records)) (searched n k records t))
      (λ n k records e. past_tables (plan_of (graph_of n k records)) (searched n k records t)),
)
