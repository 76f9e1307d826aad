-- The mission, point 3, of the engine's answer as it is defined, against the plan reader's as it is defined. What a run of the engine cites of
-- all three points, and where 13 is given.
-- Assumes nothing.
use Rattle.std.specs.Prelude.{ℕ, ◌≡◌, refl, ◌↔◌, List, length}
use Rattle.std.proofs.Common.{sym, ap, subst, arith}
use Rattle.limits.specs.Refusals.{short_buffer}
use Rattle.answer.specs.Stated.{Stated, refused, of_tables}
use Rattle.answer.proofs.laws.OneToOne.{refusal_no_plan}
use Rattle.answer.specs.declared.Refusal.TheVariants.{Sheet}
use Rattle.graph.specs.Graph.{Graph}
use Rattle.records.specs.Arcs.{arcs}
use Rattle.number_fields.specs.Fields.{Bytes}
use Rattle.sheet.specs.Verdict.{good, verdict}
use Rattle.records.specs.declared.record.Record.{Record}
use Rattle.network.specs.Network.{graph_of}
use Rattle.planfile.specs.Format.{total_in}
use Rattle.planfile.proofs.laws.Encoded.{encoding_fields}
use Rattle.mission.specs.Runs.{ReaderTables, ReaderLong, EngineTables, EngineLong, Run, run}
use Rattle.mission.proofs.laws.PointLaws.{same_number, plan_not_refused, refused_not_plan, same_plan, same_sheet}
use Rattle.mission.proofs.laws.OnePlan.{one_plan}
use Rattle.mission.specs.PointOne.{EngineAnswers}
use Rattle.mission.specs.PointTwo.{IsPlan, EngineSound, Accepts}
use Rattle.mission.specs.PointThree.{PlanTooLong, NoneCheaper, BestTotal, PlansOrNot, EngineBest, PointThree}
use Rattle.plan_reader.specs.Reader.{reading_of}
use Rattle.plan_reader.specs.laws.PointTwo.{point_two as reads-plans, accepted_good}
use Rattle.best_plan.specs.Plan.{Plan}
use Rattle.engine.specs.Engine.{planning_of}
use Rattle.engine.specs.laws.Rules.{by_cases, by_long_cases}
use Rattle.best_plan.proofs.laws.Found.{PlanFound, none_found, found_reaches, rule_reaches, sheet_plannable, sheet_found}
use Rattle.engine.specs.laws.PointOne.{point_one}
use Rattle.engine.specs.laws.PointTwo.{point_two}

-- ---- totals

-- a file that the plan reader accepts encodes a plan with the total that stands in it
pub record FilePlan (G : Graph) (file : List ℕ) : Type 0 where
  pub root : ℕ
  pub listed : List ℕ
  pub is_plan : IsPlan G root (total_in file) listed

file_plan : (sheet file : List ℕ) → Bytes file → (t : ReaderTables) → Accepts (reading_of sheet file t).answer
    → (n k : ℕ) (records : List Record) → verdict sheet ≡ good n k records → FilePlan (graph_of n k records) file
file_plan sheet file bytes t (root, cost, count, told) n k records e =
    let a = accepted_good sheet file t root cost count told in
    let long = same_sheet (λ n k records. ReaderLong n k (length (arcs records)) t) sheet a.good_sheet e a.holds in
    let (encodes, _) = reads-plans sheet file bytes t n k records e long root cost count in
    let p = encodes told in
    record {
      root = root;
      listed = p.listed;
      is_plan = subst (λ (x : ℕ). IsPlan (graph_of n k records) root x p.listed) (sym (encoding_fields file root cost p.listed p.encoded).total_is)
          p.is_plan;
    }

-- the total of the plan of a graph equals that of another plan exactly when no plan costs less than the other
best_iff : (G : Graph) (p : Plan) → PlanFound G p → (file : List ℕ) → FilePlan G file → (p.cost ≡ total_in file) ↔ NoneCheaper G (total_in file)
best_iff G p found file f = (
  (λ same. subst (NoneCheaper G) same found.least),
  (λ none_cheaper.
      omega (
        arith,
        found.least f.root f.listed f.is_plan.may_root_lem f.is_plan.subtree f.is_plan.covers,
        f.is_plan.true_total,
        none_cheaper p.root p.arcs found.is_plan.may_root_lem found.is_plan.subtree found.is_plan.covers,
        found.is_plan.true_total,
      )),
)

best_total : (sheet : List ℕ) → Bytes sheet → (t : EngineTables) → BestTotal sheet (planning_of sheet t).answer reading_of
best_total sheet bytes t =
    by_cases sheet t (λ (r : Run EngineTables). BestTotal sheet r.answer reading_of)
    (record {
      spoilt = λ fault e root cost count same. absurd (refusal_no_plan (Sheet fault) root cost count same);
      short = λ n k records e short root cost count same. absurd (refused_not_plan same);
      long = λ n k records e long. record {
        none_found = λ q root cost count same. absurd (refused_not_plan same);
        too_long = λ p q over root cost count same. absurd (refused_not_plan same);
        found = λ p q fits root cost count same file file_bytes_lem tables accepts n' k' records' e'.
            let found = same_sheet (λ n k records. PlanFound (graph_of n k records) p) sheet e e' (sheet_found sheet bytes n k records e p q) in
            same_plan (λ root cost count. (cost ≡ total_in file) ↔ NoneCheaper (graph_of n' k' records') (total_in file)) same
            (best_iff (graph_of n' k' records') p found file (file_plan sheet file file_bytes_lem tables accepts n' k' records' e'));
      };
    })

-- ---- a plan or none

-- where 13 is given: "plan longer than its buffer"
buffer_short_iff : (sheet : List ℕ) → Bytes sheet → (t : EngineTables) → (n k : ℕ) (records : List Record) → verdict sheet ≡ good n k records
    → EngineLong n k (length (arcs records)) t
    → ((planning_of sheet t).answer ≡ refused of_tables short_buffer 0) ↔ PlanTooLong (graph_of n k records) t.buffer
buffer_short_iff sheet bytes t n k records e long =
    let G : Graph = graph_of n k records in
    let g = sheet_plannable sheet bytes n k records e in
    by_long_cases sheet t (λ (r : Run EngineTables). (r.answer ≡ refused of_tables short_buffer 0) ↔ PlanTooLong G t.buffer) n k records e long
    (record {
      none_found = λ q. (
        (λ same. absurd (omega (arith, same_number same))),
        (λ over. absurd (none_found G g q (rule_reaches G g over.root over.cost over.listed over.by_rule))),
      );
      too_long = λ p q over. (
        (λ _. record {
          root = p.root;
          cost = p.cost;
          listed = p.arcs;
          by_rule = (sheet_found sheet bytes n k records e p q).by_rule;
          too_long = over;
        }),
        (λ _. refl),
      );
      found = λ p q fits. (
        (λ same. absurd (plan_not_refused same)),
        (λ over.
            let rule = (sheet_found sheet bytes n k records e p q).by_rule in
            let (_, _, same) = one_plan G over.root p.root over.cost p.cost over.listed p.arcs over.by_rule rule in
            absurd (omega (arith, over.too_long, ap length same))),
      );
    })

-- where 12 and a plan are given, at a good sheet with long enough tables
pub plans_or_not : (sheet : List ℕ) → Bytes sheet → (t : EngineTables) → (n k : ℕ) (records : List Record) → verdict sheet ≡ good n k records
    → EngineLong n k (length (arcs records)) t → PlansOrNot (graph_of n k records) t.buffer (planning_of sheet t).answer
plans_or_not sheet bytes t n k records e long =
    let g = sheet_plannable sheet bytes n k records e in
    by_long_cases sheet t (λ (r : Run EngineTables). ((r.answer ≡ refused of_tables short_buffer 0) ↔ PlanTooLong (graph_of n k records) t.buffer)
    → PlansOrNot (graph_of n k records) t.buffer r.answer) n k records e long
    (record {
      none_found = λ q short. record {
        short_buffer_lem = short;
        no_plan_lem = ((λ _. none_found (graph_of n k records) g q), (λ _. refl));
        plans = λ reach _. absurd (none_found (graph_of n k records) g q reach);
      };
      too_long = λ p q over short. record {
        short_buffer_lem = short;
        no_plan_lem = (
          (λ same. absurd (omega (arith, same_number same))),
          (λ none_reach. absurd (none_reach (found_reaches (graph_of n k records) g p q))),
        );
        plans = λ _ enough.
            absurd (omega (arith, enough p.root p.cost p.arcs (sheet_found sheet bytes n k records e p q).by_rule));
      };
      found = λ p q fits short. record {
        short_buffer_lem = short;
        no_plan_lem = (
          (λ same. absurd (plan_not_refused same)),
          (λ none_reach. absurd (none_reach (found_reaches (graph_of n k records) g p q))),
        );
        plans = λ _ _. (p.root, p.cost, length p.arcs, refl);
      };
    })
    (buffer_short_iff sheet bytes t n k records e long)

-- every run of the engine
pub point_three : PointThree planning_of reading_of
point_three sheet bytes t = record { best = best_total sheet bytes t; plans_or_not = plans_or_not sheet bytes t }

-- ---- what a run cites

-- a run with the defined outcome has it, and the three points of it
pub cites_points : (sheet : List ℕ) → Bytes sheet → (t : EngineTables) (answer : Stated) (after : EngineTables) → run answer after ≡ planning_of sheet t
    → (run answer after ≡ planning_of sheet t)
    × (EngineAnswers sheet t answer after × (EngineSound reading_of sheet t answer after × EngineBest reading_of sheet t answer))
cites_points sheet bytes t answer after e = (
  e,
  (
    subst (λ (r : Run EngineTables). EngineAnswers sheet t r.answer r.after) (sym e) (point_one sheet t),
    (
      subst (λ (r : Run EngineTables). EngineSound reading_of sheet t r.answer r.after) (sym e) (point_two sheet bytes t),
      subst (λ (r : Run EngineTables). EngineBest reading_of sheet t r.answer) (sym e) (point_three sheet bytes t),
    ),
  ),
)
