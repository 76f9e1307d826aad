-- The cases of the engine's answer, one law each: a refused sheet, 11, 12, 13 and a plan, each with every table and the plan buffer afterwards;
-- and what holds in each of them holds of the run.
-- Assumes nothing.
use Rattle.std.specs.Prelude.{ℕ, ◌≤◌, ◌<◌, ◌≡◌, refl, Bool, true, false, List, leb, length}
use Rattle.std.proofs.Common.{sym, ap, ◌∙◌, subst, leb-true, leb-false, le-leb}
use Rattle.std.proofs.Math.Option.{Option, none, some}
use Rattle.std.proofs.lemmas.Bool.{lt-leb}
use Rattle.limits.specs.Refusals.{short_tables, no_plan, short_buffer}
use Rattle.lists.specs.Tests.{by_test}
use Rattle.answer.specs.Stated.{plan, refused, of_tables, of_search, stated_sheet}
use Rattle.answer.specs.declared.SheetFault.{SheetFault}
use Rattle.records.specs.Arcs.{arcs}
use Rattle.sheet.specs.Verdict.{good, bad, verdict}
use Rattle.records.specs.declared.record.Record.{Record}
use Rattle.opener.specs.Opening.{SheetOpening, sheet_opening}
use Rattle.opener.specs.laws.Cases.{opening_bad, opening_short, opening_good, by_opening_cases}
use Rattle.network.specs.Network.{graph_of}
use Rattle.planfile.specs.Format.{file_size}
use Rattle.mission.specs.Runs.{EngineTables, engine_further, EngineLong, Run, run, run_opened}
use Rattle.best_plan.specs.Plan.{Plan, plan_of, with_file, written, sent_back}
use Rattle.engine.specs.Engine.{searched, planning_of}

module _ (sheet : List ℕ) (t : EngineTables) where
  -- the run of an opening
  abbrev pub given : SheetOpening → Run EngineTables
  given = run_opened t (λ n k records. sent_back (plan_of (graph_of n k records)) (searched n k records t))

  -- 1 to 10 touch nothing
  pub sheet_refused : (fault : SheetFault) → verdict sheet ≡ bad fault → planning_of sheet t ≡ run (stated_sheet fault) t
  sheet_refused fault e = ap given (opening_bad sheet t.tables (engine_further t) fault e)

  module _ (n k : ℕ) (records : List Record) (e : verdict sheet ≡ good n k records) where
    -- 11 touches nothing
    pub tables_short : (EngineLong n k (length (arcs records)) t → ⊥) → planning_of sheet t ≡ run (refused of_tables short_tables 0) t
    tables_short short = ap given (opening_short sheet t.tables (engine_further t) n k records e short)

    module _ (long : EngineLong n k (length (arcs records)) t) where
      -- with long enough tables the sheet is planned
      by_plan : (o : Option Plan) → plan_of (graph_of n k records) ≡ o → planning_of sheet t ≡ sent_back o (searched n k records t)
      by_plan o q =
          ap given (opening_good sheet t.tables (engine_further t) n k records e long)
          ∙ ap (λ (x : Option Plan). sent_back x (searched n k records t)) q

      -- 12
      pub no_plan_lem : plan_of (graph_of n k records) ≡ none → planning_of sheet t ≡ run (refused of_search no_plan 0) (searched n k records t)
      no_plan_lem q = by_plan none q

      module _ (p : Plan) (q : plan_of (graph_of n k records) ≡ some p) where
        by_length : (b : Bool) → leb (file_size (length p.arcs)) (length t.buffer) ≡ b → planning_of sheet t ≡ written b p (searched n k records t)
        by_length b h = by_plan (some p) q ∙ ap (λ (x : Bool). written x p (searched n k records t)) h

        -- 13
        pub buffer_short : length t.buffer < file_size (length p.arcs)
            → planning_of sheet t ≡ run (refused of_tables short_buffer 0) (searched n k records t)
        buffer_short h = by_length false (lt-leb _ _ h)

        -- the plan
        pub planned : file_size (length p.arcs) ≤ length t.buffer
            → planning_of sheet t ≡ run (plan p.root p.cost (length p.arcs)) (with_file p (searched n k records t))
        planned h = by_length true (le-leb _ _ h)

-- ---- what holds in each case holds of the run

-- a good sheet with long enough tables: 12, 13 or the plan
pub record LongCases (n k : ℕ) (records : List Record) (t : EngineTables) (P : Run EngineTables → Type 0) : Type 0 where
  pub none_found : plan_of (graph_of n k records) ≡ none → P (run (refused of_search no_plan 0) (searched n k records t))
  pub too_long : (p : Plan) → plan_of (graph_of n k records) ≡ some p → length t.buffer < file_size (length p.arcs)
      → P (run (refused of_tables short_buffer 0) (searched n k records t))
  pub found : (p : Plan) → plan_of (graph_of n k records) ≡ some p → file_size (length p.arcs) ≤ length t.buffer
      → P (run (plan p.root p.cost (length p.arcs)) (with_file p (searched n k records t)))

-- any sheet, with any tables
pub record Cases (sheet : List ℕ) (t : EngineTables) (P : Run EngineTables → Type 0) : Type 0 where
  pub spoilt : (fault : SheetFault) → verdict sheet ≡ bad fault → P (run (stated_sheet fault) t)
  pub short : (n k : ℕ) (records : List Record) → verdict sheet ≡ good n k records → (EngineLong n k (length (arcs records)) t → ⊥)
      → P (run (refused of_tables short_tables 0) t)
  pub long : (n k : ℕ) (records : List Record) → verdict sheet ≡ good n k records → EngineLong n k (length (arcs records)) t
      → LongCases n k records t P

module _ (sheet : List ℕ) (t : EngineTables) (P : Run EngineTables → Type 0) where
  pub by_long_cases : (n k : ℕ) (records : List Record) → verdict sheet ≡ good n k records → EngineLong n k (length (arcs records)) t
      → LongCases n k records t P → P (planning_of sheet t)
  by_long_cases n k records e long cases = go (plan_of (graph_of n k records)) refl
    where
      size : (p : Plan) → plan_of (graph_of n k records) ≡ some p → P (planning_of sheet t)
      size p q =
          let enough : Bool = leb (file_size (length p.arcs)) (length t.buffer) in
          by_test enough (λ _. P (planning_of sheet t))
          (λ h. let fits = leb-true _ _ h in subst P (sym (planned sheet t n k records e long p q fits)) (cases.found p q fits))
          (λ h. let over = leb-false _ _ h in subst P (sym (buffer_short sheet t n k records e long p q over)) (cases.too_long p q over))

      go : (o : Option Plan) → plan_of (graph_of n k records) ≡ o → P (planning_of sheet t)
      go none q = subst P (sym (no_plan_lem sheet t n k records e long q)) (cases.none_found q)
      go (some p) q = size p q

  pub by_cases : Cases sheet t P → P (planning_of sheet t)
  by_cases cases =
      by_opening_cases sheet t.tables (engine_further t) (λ (o : SheetOpening). sheet_opening sheet t.tables (engine_further t) ≡ o → P (given sheet t o))
      (record {
        spoilt = λ fault e _. cases.spoilt fault e;
        short = λ n k records e short _. cases.short n k records e short;
        long = λ n k records e long q. subst (λ (o : SheetOpening). P (given sheet t o)) q (by_long_cases n k records e long (cases.long n k records e long));
      })
      refl
