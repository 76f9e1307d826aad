-- A file read against the tables that hold a sheet: the marks and the tests that the code makes are those of the graph that the tables hold.
-- Assumes nothing.
use Rattle.std.specs.Prelude.{Ok, Err, ℕ, ◌+◌, ◌<◌, ◌≡◌, refl, Bool, true, false, T, eqb, length, get_or, take}
use Rattle.std.proofs.Math.Path.{sym, ap, ap₂}
use Rattle.std.proofs.Common.{◌∙◌, subst, arith, length-take}
use Rattle.std.proofs.Math.Option.{Option, some}
use mathlib.Core.List.{List, [], ◌++◌}
use Rattle.std.proofs.Math.ListN.{drop}
use Rattle.lists.specs.Every.{Every}
use Rattle.lists.specs.Listed.{listed, listed_every}
use Rattle.lists.specs.Numbers.{length_values}
use Rattle.lists.specs.Tests.{true_fact}
use Rattle.subset.specs.Sets.{full, is_part}
use Rattle.landing_entries.specs.Entries.{sender_in}
use Rattle.answer.specs.Stated.{Stated, stated_plan_file}
use Rattle.answer.specs.declared.PlanFault.{PlanFault}
use Rattle.graph.specs.Graph.{Graph}
use Rattle.lent_tables.specs.SheetTables.{SheetTables, arcs_alone}
use Rattle.graph.specs.HeldGraph.{graph_in, start_in, end_in, may_root_in}
use Rattle.graph.specs.Subtrees.{total, is_tree, is_covering}
use Rattle.graph.proofs.Theorems.{tree_test}
use Rattle.graph.proofs.laws.SubtreeParts.{total_weights}
use Rattle.lent_tables.specs.Lengths.{marks_only}
use Rattle.network.specs.HeldSheet.{HeldSheet}
use Rattle.planfile.specs.Format.{file_size, root_in, listed_arc, arcs_to, arcs_in}
use Rattle.file_tests.specs.FileFaults.{file_fault, or_else}
use Rattle.file_tests.specs.Tested.{opened_of}
use Rattle.file_tests.specs.declared.Head.{Head}
use Rattle.file_tests.proofs.laws.Faults.{FileOk, file_passed, listed_on}
use Rattle.file_tests.proofs.laws.Returned.{FieldsOf, opened_fields, opened_fault}
use Rattle.marking.specs.Links.{link_graph, Within}
use Rattle.reaching.specs.Marks.{marks_of}
use Rattle.reaching.specs.laws.MarkLaws.{marks_size, marks_agree}
use Rattle.plan_tests.specs.PlanFaults.{first_failed, plan_fault, tree_fault, answered_as}
use Rattle.plan_tests.specs.ByMarks.{marked_count, marked_terminals, weight_sum, judged_fault}
use Rattle.plan_tests.proofs.laws.Judging.{tree_by_count, covering_by_marks, weights_sum}
use Rattle.file_reader.specs.ArcsReady.{ArcsReady}
use Rattle.file_reader.specs.FileAnswer.{answered, answer_to, marks_by, marks_after}

module _ (n k m : ℕ) (t : SheetTables) (marks file : List ℕ) (ready : HeldSheet n k m t (marks_only (length marks))) where
  abbrev G : Graph
  G = graph_in n k m t

  part_size : length (take n marks) ≡ n
  part_size = omega (arith, length-take n marks, ready.long.further.marks)

  -- a fault of the file by itself
  pub fault_read : (f : PlanFault) → Err f ≡ opened_of n m file → (stated_plan_file f ≡ answer_to G file) × (marks ≡ marks_after G file marks)
  fault_read f e =
      let q : file_fault n m file ≡ some f = opened_fault (file_fault n m file) file f e in (
        sym (ap (λ (o : Option PlanFault). answered (or_else o (tree_fault G file)) file) q),
        sym (ap (λ (o : Option PlanFault). marks_by o G file marks) q),
      )

  module _ (head : Head) (e : Ok head ≡ opened_of n m file) where
    abbrev root : ℕ
    root = head.root

    abbrev cost : ℕ
    cost = head.total

    abbrev count : ℕ
    count = head.count

    fields : FieldsOf (file_fault n m file) file root cost count
    fields = opened_fields (file_fault n m file) file head e

    ok : FileOk n m file
    ok = file_passed n m file fields.no_fault

    abbrev L : List ℕ
    L = arcs_to file count

    same_arcs : arcs_to file count ≡ arcs_in file
    same_arcs = ap (arcs_to file) fields.count_is

    below : (i : ℕ) → i < count → listed_arc file i < m
    below i l = (ok.arcs i (subst (λ (x : ℕ). i < x) fields.count_is l)).arc

    listed_below : (e : ℕ) → T (listed e L) → e < m
    listed_below e i = listed_on n m file ok e (subst (λ (x : List ℕ). T (listed e x)) same_arcs i)

    root_below : root < n
    root_below = subst (λ (x : ℕ). x < n) (sym fields.root_is) ok.head.root

    -- the listed legs are in the tables and lead between the sites
    within : Within n L t.starts t.ends
    within = record {
      in_starts = λ e i. omega (arith, listed_below e i, ready.long.tables.starts);
      in_ends = λ e i. omega (arith, listed_below e i, ready.long.tables.ends);
      start_lt = λ e i.
          subst (λ (x : ℕ). x < n) (start_in n k m t e (listed_below e i))
          (ready.sound.start_lt e (listed_below e i));
      end_lt = λ e i.
          subst (λ (x : ℕ). x < n) (end_in n k m t e (listed_below e i))
          (ready.sound.end_lt e (listed_below e i));
    }

    pub arcs_ready : ArcsReady file root count k t (take n marks)
    arcs_ready = record {
      root_on = omega (arith, root_below, part_size);
      few_nodes = omega (arith, part_size, ready.nodes);
      whole = omega (arith, ap file_size fields.count_is, ok.head.size);
      within = subst (λ (x : ℕ). Within x L t.starts t.ends) (sym part_size) within;
      few_arcs = λ e i. omega (arith, listed_below e i, ready.few_arcs);
      below = λ i l. omega (arith, below i l, ready.long.tables.weights);
      landed = omega (arith, part_size, ready.long.tables.landings);
      terminals = ready.terminals.1;
    }

    -- the marks are those of the graph that the tables hold
    marks_held : marks_of (link_graph (length (take n marks)) t.starts t.ends) L root ≡ marks_of G L root
    marks_held = marks_agree (link_graph (length (take n marks)) t.starts t.ends) G L root part_size (λ e i. (
      start_in (length (take n marks)) 0 (length t.starts) (arcs_alone t.starts t.ends []) e (within.in_starts e i)
          ∙ sym (start_in n k m t e (listed_below e i)),
      end_in (length (take n marks)) 0 (length t.starts) (arcs_alone t.starts t.ends []) e (within.in_starts e i)
          ∙ sym (end_in n k m t e (listed_below e i)),
    ))

    -- the tests by the marks are those of the definition
    judged_plan : judged_fault file root cost count k t.weights t.landings (marks_of G L root) ≡ plan_fault G root cost L
    judged_plan = (λ i. first_failed (counted i) (flagged i) covered (summed i)) ∙ go (is_tree G root L) refl
      where
        arcs : Every (λ e. e < m) L
        arcs = listed_every (λ e. e < m) L listed_below

        covered : Bool
        covered = is_part (full k) (marked_terminals (marks_of G L root) t.landings)

        counted : eqb (marked_count (marks_of G L root)) (count + 1) ≡ is_tree G root L
        counted =
            ap (λ (x : ℕ). eqb (marked_count (marks_of G L root)) (x + 1)) (sym (length_values (listed_arc file) 0 count))
            ∙ tree_by_count G ready.sound root L root_below arcs

        flagged : sender_in (get_or t.landings root 0) ≡ G.may_root root
        flagged = sym (may_root_in n k m t root root_below)

        summed : eqb cost (weight_sum file count t.weights) ≡ eqb cost (total G root L)
        summed =
            ap (eqb cost)
            (weights_sum n k m t file count listed_below ∙ sym (total_weights G (λ v. refl) root L))

        go : (b : Bool) → is_tree G root L ≡ b
            → first_failed b (G.may_root root) covered (eqb cost (total G root L))
            ≡ first_failed b (G.may_root root) (is_covering G root L (full k)) (eqb cost (total G root L))
        go false q = refl
        go true q = let (from_tree, _) = tree_test G root L root_below arcs in
            ap (λ (held : Bool). first_failed true (G.may_root root) held (eqb cost (total G root L)))
            (covering_by_marks n k m t ready.sound root L
            (from_tree (true_fact q)))

    -- the answer and the marks after the listed arcs are read
    pub arcs_judged : (answer : Stated) (after : List ℕ) → after ≡ marks_of (link_graph (length (take n marks)) t.starts t.ends) L root
        → answer ≡ answered_as (judged_fault file root cost count k t.weights t.landings after) root cost count
        → (answer ≡ answer_to G file) × (after ++ drop n marks ≡ marks_after G file marks)
    unfolding tree_fault
    arcs_judged answer after marked told =
        let here : after ≡ marks_of G L root = marked ∙ marks_held in (
          told ∙ ap (λ (l : List ℕ). answered_as (judged_fault file root cost count k t.weights t.landings l) root cost count) here
              ∙ ap (λ (o : Option PlanFault). answered_as o root cost count) judged_plan
              ∙ (λ i. answered_as (plan_fault G (fields.root_is i) (fields.total_is i) (arcs_to file (fields.count_is i)))
              (fields.root_is i) (fields.total_is i) (fields.count_is i))
              ∙ sym (ap (λ (o : Option PlanFault). answered (or_else o (tree_fault G file)) file) fields.no_fault),
          ap₂ (λ (l : List ℕ) (j : ℕ). l ++ drop j marks) (here ∙ (λ i. marks_of G (arcs_to file (fields.count_is i)) (fields.root_is i)))
              (sym (marks_size G (arcs_in file) (root_in file)))
              ∙ sym (ap (λ (o : Option PlanFault). marks_by o G file marks) fields.no_fault),
        )
