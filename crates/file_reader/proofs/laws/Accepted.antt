-- What an accepted file has: no fault by itself and none against the sheet, so that its root may be one, its arcs are a directed subtree that holds a
-- landing of every terminal, and its total is theirs.
-- Assumes nothing.
use Prim.Native.Nat.{ℕ, ◌<◌}
use Rattle.std.specs.Prelude.{◌≡◌, refl, T, eqb}
use Rattle.std.proofs.Common.{sym}
use Rattle.std.proofs.Math.Option.{Option, none, some}
use mathlib.Core.List.{List}
use borrow.Author.Tests.{eqb-true}
use Rattle.lists.specs.Every.{Every}
use Rattle.lists.specs.Listed.{listed_every}
use Rattle.lists.specs.Tests.{true_fact}
use Rattle.subset.specs.Sets.{full}
use Rattle.answer.specs.Stated.{plan}
use Rattle.answer.proofs.laws.OneToOne.{refusal_no_plan}
use Rattle.answer.specs.declared.PlanFault.{PlanFault}
use Rattle.answer.specs.declared.Refusal.TheVariants.{PlanFile}
use Rattle.graph.specs.Graph.{Graph}
use Rattle.graph.specs.Subtrees.{Subtree, CoversAll, total, is_tree, is_covering}
use Rattle.graph.proofs.Theorems.{tree_test, covers_test, covers_all}
use Rattle.planfile.specs.Format.{root_in, total_in, count_in, arcs_in}
use Rattle.file_tests.specs.FileFaults.{file_fault, or_else}
use Rattle.file_tests.proofs.laws.Faults.{FileOk, file_passed, listed_on, some_fault}
use Rattle.file_tests.proofs.laws.Returned.{FieldsOf}
use Rattle.plan_tests.specs.PlanFaults.{tree_fault}
use Rattle.plan_tests.proofs.laws.FirstFailed.{none_failed}
use Rattle.file_reader.specs.FileAnswer.{answered, answer_to}

-- there is no fault, and the numbers stand in the file
accepted : (o : Option PlanFault) (file : List ℕ) (root cost count : ℕ) → answered o file ≡ plan root cost count → FieldsOf o file root cost count
accepted none file root cost count e = record { no_fault = refl; root_is = sym (cc e); total_is = sym (cc e); count_is = sym (cc e) }
accepted (some f) file root cost count e = absurd (refusal_no_plan (PlanFile f) root cost count e)

-- no fault of the file by itself, and none against the sheet
neither : (a b : Option PlanFault) → or_else a b ≡ none → (a ≡ none) × (b ≡ none)
neither none b e = (refl, e)
neither (some f) b e = some_fault refl e

-- a file that is accepted with a root, a total and a leg count
pub record Accepted (G : Graph) (file : List ℕ) (root cost count : ℕ) : Type 0 where
  pub root_is : root ≡ root_in file
  pub total_is : cost ≡ total_in file
  pub count_is : count ≡ count_in file
  pub ok : FileOk G.nodes G.arcs file
  pub may_root_lem : T (G.may_root (root_in file))
  pub subtree : Subtree G (root_in file) (arcs_in file)
  pub covers : CoversAll G (root_in file) (arcs_in file)
  pub true_total : total_in file ≡ total G (root_in file) (arcs_in file)

module _ (G : Graph) (file : List ℕ) where
  -- the listed arcs are arcs of the graph
  pub arcs_on : FileOk G.nodes G.arcs file → Every (λ e. e < G.arcs) (arcs_in file)
  arcs_on ok = listed_every (λ e. e < G.arcs) (arcs_in file) (listed_on G.nodes G.arcs file ok)

  pub accepted_file : (root cost count : ℕ) → answer_to G file ≡ plan root cost count → Accepted G file root cost count
  unfolding tree_fault
  accepted_file root cost count e =
      let a = accepted (or_else (file_fault G.nodes G.arcs file) (tree_fault G file)) file root cost count e in
      let (by_itself, against) = neither (file_fault G.nodes G.arcs file) (tree_fault G file) a.no_fault in
      let ok : FileOk G.nodes G.arcs file = file_passed G.nodes G.arcs file by_itself in
      let L : List ℕ = arcs_in file in
      let (tree, may, held, sum) =
      none_failed (is_tree G (root_in file) L) (G.may_root (root_in file)) (is_covering G (root_in file) L (full G.terminals))
      (eqb (total_in file) (total G (root_in file) L))
      against in
      let (from_tree, _) = tree_test G (root_in file) L ok.head.root (arcs_on ok) in
      let (covers, _) = covers_test G (root_in file) L (full G.terminals) in
      let (all, _) = covers_all G (root_in file) L in
      record {
        root_is = a.root_is;
        total_is = a.total_is;
        count_is = a.count_is;
        ok = ok;
        may_root_lem = true_fact may;
        subtree = from_tree (true_fact tree);
        covers = all (covers (true_fact held));
        true_total = eqb-true _ _ sum;
      }
