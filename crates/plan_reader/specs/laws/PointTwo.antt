-- The mission, point 2, of the plan reader's answer as it is defined: with a good sheet and long enough tables it accepts a file exactly when
-- the file encodes a directed subtree of the sheet's legs whose root is a sender and that holds a landing of every station, with its true
-- total; and it accepts none without them.
-- Assumes nothing.
use Rattle.std.specs.Prelude.{ℕ, ◌<◌, ◌≡◌, List, T, eqb, length}
use Rattle.std.proofs.Common.{sym, ◌∙◌, subst, arith, eq-eqb}
use Rattle.std.proofs.Math.Path.{ap}
use Rattle.std.proofs.Math.Option.{Option, none}
use Rattle.lists.specs.Listed.{listed, every_listed}
use Rattle.lists.specs.Numbers.{length_values, value_in}
use Rattle.lists.specs.Tests.{fact_true}
use Rattle.subset.specs.Sets.{full}
use Rattle.answer.specs.Stated.{plan}
use Rattle.answer.proofs.laws.OneToOne.{refusal_no_plan}
use Rattle.answer.specs.declared.Refusal.TheVariants.{Sheet, Tables}
use Rattle.answer.specs.declared.TableFault.TheVariants.{ShortTables}
use Rattle.answer.specs.declared.PlanFault.{PlanFault}
use Rattle.graph.specs.Graph.{Graph}
use Rattle.graph.specs.Subtrees.{Subtree, total, is_tree, is_covering}
use Rattle.graph.proofs.Theorems.{tree_test, covers_test, covers_all}
use Rattle.records.specs.Arcs.{arcs}
use Rattle.number_fields.specs.Fields.{Bytes}
use Rattle.opener.specs.Opening.{SheetOpening}
use Rattle.opener.specs.laws.Cases.{by_opening_cases}
use Rattle.network.specs.Network.{graph_of}
use Rattle.planfile.specs.Format.{root_in, total_in, count_in, listed_arc, arcs_in}
use Rattle.planfile.proofs.laws.Encoded.{WellFormed, FieldsAre, fields_encoding, encoding_fields}
use Rattle.mission.specs.Runs.{GoodWith, ReaderTables, reader_further, ReaderLong, Run}
use Rattle.mission.specs.PointTwo.{EncodesPlan, ReaderPointTwo}
use Rattle.file_tests.specs.FileFaults.{or_else}
use Rattle.file_tests.proofs.laws.Faults.{FileOk, file_passes}
use Rattle.plan_tests.specs.PlanFaults.{plan_fault, tree_fault}
use Rattle.plan_tests.proofs.laws.FirstFailed.{failed_none}
use Rattle.file_reader.specs.FileAnswer.{answered, answer_to}
use Rattle.file_reader.proofs.laws.Accepted.{accepted_file}
use Rattle.plan_reader.specs.Reader.{reading_of}
use Rattle.plan_reader.specs.laws.Rules.{given, file_read}

-- ---- the answer

module _ (G : Graph) (file : List ℕ) where
  well_formed : FileOk G.nodes G.arcs file → WellFormed file
  well_formed ok = record { size = ok.head.size; head_mark = ok.head.mark; marks = λ i l. (ok.arcs i l).mark }

  -- an accepted file encodes a plan
  accepted_encodes : Bytes file → (root cost count : ℕ) → answer_to G file ≡ plan root cost count → EncodesPlan G file root cost count
  accepted_encodes bytes root cost count e =
      let a = accepted_file G file root cost count e in
      let here : EncodesPlan G file (root_in file) (total_in file) (count_in file) =
      record {
        listed = arcs_in file;
        is_plan = record { may_root_lem = a.may_root_lem; subtree = a.subtree; covers = a.covers; true_total = a.true_total };
        count_is = length_values (listed_arc file) 0 (count_in file);
        encoded = fields_encoding file bytes (well_formed a.ok);
      } in
      subst (EncodesPlan G file root cost) (sym a.count_is)
      (subst (λ (x : ℕ). EncodesPlan G file root x (count_in file)) (sym a.total_is)
      (subst (λ (x : ℕ). EncodesPlan G file x (total_in file) (count_in file)) (sym a.root_is) here))

  -- a file that encodes a plan is accepted
  encoded_ok : (root cost : ℕ) (L : List ℕ) → FieldsAre file root cost L → Subtree G root L → FileOk G.nodes G.arcs file
  encoded_ok root cost L f tree = record {
    head = record {
      whole = omega (arith, f.well_formed.size);
      mark = f.well_formed.head_mark;
      root = subst (λ (x : ℕ). x < G.nodes) (sym f.root_is) tree.root;
      size = f.well_formed.size;
    };
    arcs = λ i l. record {
      mark = f.well_formed.marks i l;
      arc = every_listed (λ e. e < G.arcs) L tree.on_graph (listed_arc file i)
          (subst (λ (x : List ℕ). T (listed (listed_arc file i) x)) f.arcs_are (value_in (listed_arc file) (count_in file) i l));
    };
  }

  encodes_accepted : (root cost count : ℕ) → EncodesPlan G file root cost count → answer_to G file ≡ plan root cost count
  unfolding tree_fault
  encodes_accepted root cost count p =
      let f = encoding_fields file root cost p.listed p.encoded in
      let by_itself = file_passes G.nodes G.arcs file (encoded_ok root cost p.listed f p.is_plan.subtree) in
      let (_, tree) = tree_test G root p.listed p.is_plan.subtree.root p.is_plan.subtree.on_graph in
      let (_, covering) = covers_test G root p.listed (full G.terminals) in
      let (_, covers) = covers_all G root p.listed in
      let passed : plan_fault G root cost p.listed ≡ none =
      failed_none (is_tree G root p.listed) (G.may_root root) (is_covering G root p.listed (full G.terminals))
      (eqb cost (total G root p.listed))
      (fact_true (tree p.is_plan.subtree))
      (fact_true p.is_plan.may_root_lem)
      (fact_true (covering (covers p.is_plan.covers)))
      (eq-eqb _ _ p.is_plan.true_total) in
      let against : tree_fault G file ≡ none = (λ i. plan_fault G (f.root_is i) (f.total_is i) (f.arcs_are i)) ∙ passed in
      ap (λ (o : Option PlanFault). answered (or_else o (tree_fault G file)) file) by_itself
      ∙ ap (λ (o : Option PlanFault). answered o file) against
      ∙ (λ i. plan (f.root_is i) (f.total_is i) ((f.count_is ∙ p.count_is) i))

-- ---- the mission's point 2

pub point_two : ReaderPointTwo reading_of
point_two sheet file bytes t n k records e long root cost count =
    let G : Graph = graph_of n k records in
    let same = ap (λ (r : Run ReaderTables). r.answer) (file_read sheet file t n k records e long) in (
      (λ q. accepted_encodes G file bytes root cost count (sym same ∙ q)),
      (λ p. same ∙ encodes_accepted G file root cost count p),
    )

-- ---- an acceptance is of a good sheet, with long enough tables

pub accepted_good : (sheet file : List ℕ) (t : ReaderTables) (root cost count : ℕ) → (reading_of sheet file t).answer ≡ plan root cost count
    → GoodWith sheet (λ n k records. ReaderLong n k (length (arcs records)) t)
accepted_good sheet file t root cost count =
    by_opening_cases sheet t.tables (reader_further t)
    (λ (o : SheetOpening). (given sheet file t o).answer ≡ plan root cost count → GoodWith sheet (λ n k records. ReaderLong n k (length (arcs records)) t))
    (record {
      spoilt = λ fault e q. absurd (refusal_no_plan (Sheet fault) root cost count q);
      short = λ n k records e short q. absurd (refusal_no_plan (Tables ShortTables) root cost count q);
      long = λ n k records e long q. record { n = n; k = k; records = records; good_sheet = e; holds = long };
    })
