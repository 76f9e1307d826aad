-- The tests of 17, 20, 18 and 19 as the code makes them, from the marks of the nodes that the listed arcs reach and from the landing entries:
-- how many nodes are marked, whether the root's entry is a sender's, which terminals have a landing at a marked node, and the sum of the listed
-- arcs' weights.
-- Assumes nothing.
use Rattle.std.specs.Prelude.{ℕ, ◌+◌, ◌<◌, cond, List, length, get_or, eqb}
use Rattle.std.proofs.Math.Option.{Option}
use Rattle.lists.specs.Count.{bit}
use Rattle.lists.specs.Sums.{sum_to}
use Rattle.subset.specs.Sets.{empty, full, is_part}
use Rattle.landing_entries.specs.Entries.{terminals_in, sender_in}
use Rattle.subset.specs.Unions.{union_to}
use Rattle.answer.specs.declared.PlanFault.{PlanFault}
use Rattle.planfile.specs.Format.{listed_arc}
use Rattle.plan_tests.specs.PlanFaults.{first_failed}

-- the arcs of the first records are below m
abbrev pub ArcsBelow : List ℕ → ℕ → ℕ → Type 0
ArcsBelow file count m = (i : ℕ) → i < count → listed_arc file i < m

-- how many nodes are marked
abbrev pub marked_count : List ℕ → ℕ
marked_count marks = sum_to (length marks) (λ v. bit (eqb (get_or marks v 0) 1))

-- the terminals that have a landing at node v where it is marked, and those that have one at any marked node
abbrev pub terminals_marked : List ℕ → List ℕ → ℕ → ℕ
terminals_marked marks landings v = cond (eqb (get_or marks v 0) 1) (terminals_in (get_or landings v 0)) empty

abbrev pub marked_terminals : List ℕ → List ℕ → ℕ
marked_terminals marks landings = union_to (length marks) (terminals_marked marks landings)

-- the sum of the weights of the first arcs
abbrev pub weight_sum : List ℕ → ℕ → List ℕ → ℕ
weight_sum file count weights = sum_to count (λ i. get_or weights (listed_arc file i) 0)

abbrev pub judged_fault : (file : List ℕ) (root cost count k : ℕ) (weights landings marks : List ℕ) → Option PlanFault
judged_fault file root cost count k weights landings marks =
    first_failed (eqb (marked_count marks) (count + 1)) (sender_in (get_or landings root 0)) (is_part (full k) (marked_terminals marks landings))
    (eqb cost (weight_sum file count weights))
