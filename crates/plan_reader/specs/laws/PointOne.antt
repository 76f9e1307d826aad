-- The mission, point 1, of the plan reader's answer as it is defined; and what a run of the plan reader cites of points 1 and 2.
-- Assumes nothing.
use Rattle.std.specs.Prelude.{ℕ, ◌≤◌, ◌<◌, ◌≡◌, refl, Bool, true, false, cond, not, List, eqb, ltb, leb, length, get_or}
use Rattle.std.proofs.Common.{sym, ap, ◌∙◌, subst, inl, inr, arith}
use Rattle.std.proofs.Math.Option.{Option, none, some}
use Rattle.std.proofs.Math.Decide.{ℕ_discrete}
use Rattle.limits.specs.Marks.{mark_pn, mark_lg}
use Rattle.limits.specs.Refusals.{short_tables, cut_plan, unknown_number, no_tree, not_a_sender}
use Rattle.lists.specs.Find.{first}
use Rattle.lists.specs.Over.{length_over}
use Rattle.subset.specs.Sets.{full}
use Rattle.answer.specs.Stated.{Family, Stated, plan, refused, of_tables, stated_sheet, stated_plan_file}
use Rattle.answer.proofs.laws.OneToOne.{refusal_no_plan}
use Rattle.answer.specs.declared.SheetFault.{SheetFault}
use Rattle.answer.specs.declared.PlanFault.{PlanFault}
use Rattle.answer.specs.declared.PlanFault.TheVariants.{CutPlan, BadPlan, UnknownNumber, NoTree, NotASender, StationMissed, FalseTotal}
use Rattle.answer.specs.declared.Refusal.TheVariants.{Sheet, PlanFile}
use Rattle.graph.specs.Graph.{Graph}
use Rattle.graph.specs.Paths.{DirectedPath}
use Rattle.graph.specs.Subtrees.{total, is_tree, is_covering}
use Rattle.records.specs.Arcs.{arcs}
use Rattle.number_fields.specs.Fields.{Bytes, number16}
use Rattle.sheet.specs.Verdict.{good, verdict}
use Rattle.records.specs.declared.record.Record.{Record}
use Rattle.opener.specs.Opening.{SheetOpening}
use Rattle.opener.specs.laws.Cases.{by_opening_cases}
use Rattle.network.specs.Network.{graph_of}
use Rattle.planfile.specs.Format.{file_size, root_in, total_in, count_in, mark_at, listed_arc, arcs_in}
use Rattle.mission.specs.Runs.{ReaderTables, reader_further, ReaderLong, GoodWith, Run, run}
use Rattle.mission.specs.PointOne.{PlanOrRefusal, ReaderNumber, MarksReached, AsRead, ReaderSafe, ReaderAnswers, ReaderPointOne}
use Rattle.mission.specs.PointTwo.{AcceptsPlans}
use Rattle.mission.proofs.laws.PointLaws.{number_in, same_number, plan_not_refused, refused_not_plan, sheet_number, sheet_refusal, first_due}
use Rattle.file_tests.specs.FileFaults.{head_fault, arc_fault, is_fault, fault_at, arcs_fault, or_else, file_fault}
use Rattle.reaching.specs.Marks.{marks_of}
use Rattle.reaching.specs.laws.MarkLaws.{marks_size}
use Rattle.plan_tests.specs.PlanFaults.{first_failed, tree_fault}
use Rattle.file_reader.specs.FileAnswer.{answered, marks_by}
use Rattle.file_reader.proofs.laws.MarksSay.{MarksSay, marks_say}
use Rattle.plan_reader.specs.Reader.{read_against, reading_of}
use Rattle.plan_reader.specs.laws.Rules.{given, filled_with, reached_marks, file_read, file_refused, plan_refused, plan_accepted}
use Rattle.plan_reader.specs.laws.DueFaults.{gets_due}
use Rattle.plan_reader.specs.laws.PointTwo.{point_two}

-- ---- the numbers of faults

-- the number of a fault of a plan file
abbrev number : PlanFault → ℕ
number fault = number_in (stated_plan_file fault)

-- there is no fault, or its number is from `low` to `high`
abbrev Numbered : (low high : ℕ) → Option PlanFault → Type 0
Numbered low high none = Unit {0}
Numbered low high (some fault) = (low ≤ number fault) × (number fault ≤ high)

module _ (low high : ℕ) where
  -- a choice by a test
  either : (b : Bool) (x y : Option PlanFault) → Numbered low high x → Numbered low high y → Numbered low high (cond b x y)
  either true x y p q = p
  either false x y p q = q

  first_or_later : (x y : Option PlanFault) → Numbered low high x → Numbered low high y → Numbered low high (or_else x y)
  first_or_later none y p q = q
  first_or_later (some fault) y p q = p

  fault_at_lem : (fault : ℕ → Option PlanFault) → ((i : ℕ) → Numbered low high (fault i)) → (o : Option ℕ) → Numbered low high (fault_at fault o)
  fault_at_lem fault each none = tt
  fault_at_lem fault each (some i) = each i

-- the faults of a file by itself: 14 to 16
own_numbers : (n m : ℕ) (file : List ℕ) → Numbered cut_plan unknown_number (file_fault n m file)
unfolding file_fault
own_numbers n m file = first_or_later cut_plan unknown_number (head_fault n file) (arcs_fault m file) head records
  where
    head : Numbered cut_plan unknown_number (head_fault n file)
    head =
        either cut_plan unknown_number (ltb (length file) (file_size 0)) (some CutPlan) _ (omega arith, omega arith)
        (either cut_plan unknown_number (not (eqb (number16 file 0) mark_pn)) (some (BadPlan 0)) _ (omega arith, omega arith)
        (either cut_plan unknown_number (leb n (root_in file)) (some (UnknownNumber 0)) _ (omega arith, omega arith)
        (either cut_plan unknown_number (ltb (length file) (file_size (count_in file))) (some CutPlan) _ (omega arith, omega arith)
        (either cut_plan unknown_number (ltb (file_size (count_in file)) (length file)) (some (BadPlan (file_size (count_in file)))) none
        (omega arith, omega arith) tt))))

    at : (i : ℕ) → Numbered cut_plan unknown_number (arc_fault m file i)
    at i =
        either cut_plan unknown_number (not (eqb (mark_at file i) mark_lg)) (some (BadPlan (file_size i))) _ (omega arith, omega arith)
        (either cut_plan unknown_number (leb m (listed_arc file i)) (some (UnknownNumber (file_size i))) none (omega arith, omega arith) tt)

    records : Numbered cut_plan unknown_number (arcs_fault m file)
    records = fault_at_lem cut_plan unknown_number (arc_fault m file) at (first (λ i. is_fault (arc_fault m file i)) (count_in file))

-- those against the sheet: 17 to 20
failed_numbers : (tree may_root_lem held sum : Bool) → Numbered no_tree not_a_sender (first_failed tree may_root_lem held sum)
failed_numbers tree may_root_lem held sum =
    either no_tree not_a_sender (not tree) (some NoTree) _ (omega arith, omega arith)
    (either no_tree not_a_sender (not may_root_lem) (some NotASender) _ (omega arith, omega arith)
    (either no_tree not_a_sender (not held) (some StationMissed) _ (omega arith, omega arith)
    (either no_tree not_a_sender (not sum) (some FalseTotal) none (omega arith, omega arith) tt)))

against_numbers : (G : Graph) (file : List ℕ) → Numbered no_tree not_a_sender (tree_fault G file)
unfolding tree_fault
against_numbers G file =
    let L : List ℕ = arcs_in file in
    failed_numbers (is_tree G (root_in file) L) (G.may_root (root_in file)) (is_covering G (root_in file) L (full G.terminals))
    (eqb (total_in file) (total G (root_in file) L))

-- each is a refusal of the plan file
file_refusal : (fault : PlanFault) → PlanOrRefusal ReaderNumber (stated_plan_file fault)
file_refusal CutPlan = (inr (omega arith, omega arith), refl)
file_refusal (BadPlan place) = (inr (omega arith, omega arith), refl)
file_refusal (UnknownNumber place) = (inr (omega arith, omega arith), refl)
file_refusal NoTree = (inr (omega arith, omega arith), refl)
file_refusal NotASender = (inr (omega arith, omega arith), refl)
file_refusal StationMissed = (inr (omega arith, omega arith), refl)
file_refusal FalseTotal = (inr (omega arith, omega arith), refl)

-- ---- the marks

marks_reached : (n k : ℕ) (records : List Record) (file before : List ℕ) → n ≤ length before → file_fault n (length (arcs records)) file ≡ none
    → MarksReached n k records file before (marks_by none (graph_of n k records) file before)
marks_reached n k records file before long e = record {
  size = length_over (marks_of G (arcs_in file) (root_in file)) before (omega (arith, marks_size G (arcs_in file) (root_in file)));
  reached = λ v on path. (says.reached v on).1 path;
  others = λ v on no_path. go v on no_path (ℕ_discrete (get_or after v 0) 1);
  later = says.later;
}
  where
    G : Graph
    G = graph_of n k records

    after : List ℕ
    after = marks_by none G file before

    says : MarksSay G file before after
    says = subst (λ (o : Option PlanFault). MarksSay G file before (marks_by o G file before)) e (marks_say G file before e)

    go : (v : ℕ) → v < n → (DirectedPath G (arcs_in file) (root_in file) v → ⊥) → Dec (get_or after v 0 ≡ 1) → get_or after v 0 ≡ 0
    go v on no_path (yes q) = absurd (no_path ((says.reached v on).0 q))
    go v on no_path (no q) = omega (arith, says.bits v on)

-- ---- one run

module _ (sheet file : List ℕ) (t : ReaderTables) where
  -- the run is safe
  abbrev Safe : Run ReaderTables → Type 0
  Safe r = ReaderSafe sheet file t r.answer r.after

  -- 1 to 11
  sheet_safe : (fault : SheetFault) → Safe (run (stated_sheet fault) t)
  sheet_safe fault = record {
    answers = sheet_refusal ReaderNumber (λ number low high. inl (low, omega arith)) fault;
    early = λ family number place e small. refl;
    opened = λ family number place e low high. absurd (omega (arith, sheet_number fault family number place e));
    late = λ family number place e low. absurd (omega (arith, sheet_number fault family number place e));
    accepted = λ root cost count e. absurd (refusal_no_plan (Sheet fault) root cost count e);
  }

  short_safe : Safe (run (refused of_tables short_tables 0) t)
  short_safe = record {
    answers = (inl (omega arith, omega arith), refl);
    early = λ family number place e small. refl;
    opened = λ family number place e low high. absurd (omega (arith, same_number e));
    late = λ family number place e low. absurd (omega (arith, same_number e));
    accepted = λ root cost count e. absurd (refused_not_plan e);
  }

  module _ (n k : ℕ) (records : List Record) (e : verdict sheet ≡ good n k records) (long : ReaderLong n k (length (arcs records)) t) where
    -- 14 to 16
    own_safe : (fault : PlanFault) → Numbered cut_plan unknown_number (some fault) → Safe (run (stated_plan_file fault) (filled_with n k records file t t.marks))
    own_safe fault bounds = record {
      answers = file_refusal fault;
      early = λ family number place q small. absurd (omega (arith, ap number_in q, bounds));
      opened = λ family number place q low high. record {
        n = n;
        k = k;
        records = records;
        good_sheet = e;
        holds = record { tables = refl; marks = refl };
      };
      late = λ family number place q low. absurd (omega (arith, ap number_in q, bounds));
      accepted = λ root cost count q. absurd (refusal_no_plan (PlanFile fault) root cost count q);
    }

    module _ (passed : file_fault n (length (arcs records)) file ≡ none) where
      read_so : GoodWith sheet (λ n' k' records'. AsRead n' k' records' file t (filled_with n k records file t (reached_marks n k records file t)))
      read_so = record {
        n = n;
        k = k;
        records = records;
        good_sheet = e;
        holds = record { tables = refl; marks = marks_reached n k records file t.marks long.further.marks passed };
      }

      -- 17 to 20
      against_safe : (fault : PlanFault) → Numbered no_tree not_a_sender (some fault) → Safe (run (stated_plan_file fault) (filled_with n k records file t (reached_marks n k records file t)))
      against_safe fault bounds = record {
        answers = file_refusal fault;
        early = λ family number place q small. absurd (omega (arith, ap number_in q, bounds));
        opened = λ family number place q low high. absurd (omega (arith, ap number_in q, bounds));
        late = λ family number place q low. read_so;
        accepted = λ root cost count q. absurd (refusal_no_plan (PlanFile fault) root cost count q);
      }

      -- acceptance
      accepted_safe : (root cost count : ℕ) → Safe (run (plan root cost count) (filled_with n k records file t (reached_marks n k records file t)))
      accepted_safe root cost count = record {
        answers = tt;
        early = λ family number place q small. absurd (plan_not_refused q);
        opened = λ family number place q low high. absurd (plan_not_refused q);
        late = λ family number place q low. absurd (plan_not_refused q);
        accepted = λ root' cost' count' q. read_so;
      }

    read_safe : Safe (read_against n k records file t)
    read_safe = go (file_fault n (length (arcs records)) file) refl (tree_fault (graph_of n k records) file) refl
      where
        go : (own : Option PlanFault) → file_fault n (length (arcs records)) file ≡ own
            → (against : Option PlanFault) → tree_fault (graph_of n k records) file ≡ against → Safe (read_against n k records file t)
        go (some fault) a against b =
            subst Safe (sym (file_refused n k records file t fault a))
            (own_safe fault (subst (Numbered cut_plan unknown_number) a (own_numbers n (length (arcs records)) file)))
        go none a (some fault) b =
            subst Safe (sym (plan_refused n k records file t fault a b))
            (against_safe a fault (subst (Numbered no_tree not_a_sender) b (against_numbers (graph_of n k records) file)))
        go none a none b = subst Safe (sym (plan_accepted n k records file t a b)) (accepted_safe a _ _ _)

-- ---- every run

safe : (sheet file : List ℕ) (t : ReaderTables) → Safe sheet file t (reading_of sheet file t)
safe sheet file t =
    by_opening_cases sheet t.tables (reader_further t) (λ (o : SheetOpening). Safe sheet file t (given sheet file t o))
    (record {
      spoilt = λ fault e. sheet_safe sheet file t fault;
      short = λ n k records e short. short_safe sheet file t;
      long = λ n k records e long. read_safe sheet file t n k records e long;
    })

-- the refusals of a plan file come after 11
past_tables : (o : Option PlanFault) (file : List ℕ) (family : Family) (number place : ℕ) → answered o file ≡ refused family number place → short_tables < number
past_tables none file family number place same = absurd (plan_not_refused same)
past_tables (some CutPlan) file family number place same = omega (arith, same_number same)
past_tables (some (BadPlan at)) file family number place same = omega (arith, same_number same)
past_tables (some (UnknownNumber at)) file family number place same = omega (arith, same_number same)
past_tables (some NoTree) file family number place same = omega (arith, same_number same)
past_tables (some NotASender) file family number place same = omega (arith, same_number same)
past_tables (some StationMissed) file family number place same = omega (arith, same_number same)
past_tables (some FalseTotal) file family number place same = omega (arith, same_number same)

pub point_one : ReaderPointOne reading_of
point_one sheet file t = (
  safe sheet file t,
  (
    first_due sheet t.tables (reader_further t) t (λ n k records. read_against n k records file t)
        (λ n k records e family number place same.
        past_tables (or_else (file_fault n (length (arcs records)) file) (tree_fault (graph_of n k records) file)) file family number place same),
    (λ n k records e long number place.
        let same = ap (λ (r : Run ReaderTables). r.answer) (file_read sheet file t n k records e long) in
        let (there, back) = gets_due (graph_of n k records) file number place in
        ((λ q. there (sym same ∙ q)), (λ due. same ∙ back due))),
  ),
)

-- a run with the defined outcome has it, and points 2 and 1 of it
pub cites_points : (sheet file : List ℕ) → Bytes file → (t : ReaderTables) (answer : Stated) (after : ReaderTables)
    → run answer after ≡ reading_of sheet file t
    → (run answer after ≡ reading_of sheet file t) × (AcceptsPlans sheet file t answer × ReaderAnswers sheet file t answer after)
cites_points sheet file bytes t answer after e = (
  e,
  (
    subst (λ (r : Run ReaderTables). AcceptsPlans sheet file t r.answer) (sym e) (point_two sheet file bytes t),
    subst (λ (r : Run ReaderTables). ReaderAnswers sheet file t r.answer r.after) (sym e) (point_one sheet file t),
  ),
)
