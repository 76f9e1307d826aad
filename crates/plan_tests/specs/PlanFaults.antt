-- The faults of a plan file against the sheet, where it has none by itself: 17, 18 and 19 (document 01, "What is sent back"), and 20 between
-- 17 and 18 (document 02, W-201); and what is stated of a plan by the first of its tests that failed.
-- Assumes nothing.
use Rattle.std.specs.Prelude.{ℕ, Bool, cond, not, List, eqb}
use Rattle.std.proofs.Math.Option.{Option, none, some}
use Rattle.answer.specs.Stated.{Stated, plan, stated_plan_file}
use Rattle.answer.specs.declared.PlanFault.{PlanFault}
use Rattle.answer.specs.declared.PlanFault.TheVariants.{NoTree, NotASender, StationMissed, FalseTotal}
use Rattle.subset.specs.Sets.{full}
use Rattle.graph.specs.Graph.{Graph}
use Rattle.graph.specs.Subtrees.{total, is_tree, is_covering}
use Rattle.planfile.specs.Format.{root_in, total_in, arcs_in}

-- 17: "not a tree", by `isTree` of crate graph; 20: "the plan's root is no sender; it comes after 17 and before 18"; 18: "no landing of some
-- station held"; 19: "total differs from the sum"
abbrev pub first_failed : (tree may_root_lem held sum : Bool) → Option PlanFault
first_failed tree may_root_lem held sum =
    cond (not tree) (some NoTree)
    (cond (not may_root_lem) (some NotASender)
    (cond (not held) (some StationMissed)
    (cond (not sum) (some FalseTotal)
    none)))

abbrev pub plan_fault : Graph → (root cost : ℕ) → List ℕ → Option PlanFault
plan_fault G root cost L =
    first_failed (is_tree G root L) (G.may_root root) (is_covering G root L (full G.terminals)) (eqb cost (total G root L))

-- the same of the root, the total and the legs that stand in a file
unfoldable pub tree_fault : Graph → List ℕ → Option PlanFault
tree_fault G file = plan_fault G (root_in file) (total_in file) (arcs_in file)

-- what is stated of a plan with a root, a total and a leg count, by the first of its tests that failed
abbrev pub answered_as : Option PlanFault → (root cost count : ℕ) → Stated
answered_as none root cost count = plan root cost count
answered_as (some fault) root cost count = stated_plan_file fault
