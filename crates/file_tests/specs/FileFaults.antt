-- The faults of a plan file by itself, for a sheet with n sites and m legs: 14, 15 and 16 (document 01, "What is sent back"). "Plan reader: ..
-- file under 10 bytes (14), `PN` (15), root (16), short (14), left over (15), then each leg's mark (15) and number (16)".
-- Assumes nothing.
use Rattle.std.specs.Prelude.{ℕ, Bool, true, false, cond, not, List, length, ltb, leb, eqb}
use Rattle.std.proofs.Math.Option.{Option, none, some}
use Rattle.limits.specs.Marks.{mark_pn, mark_lg}
use Rattle.lists.specs.Find.{first}
use Rattle.answer.specs.declared.PlanFault.{PlanFault}
use Rattle.answer.specs.declared.PlanFault.TheVariants.{CutPlan, BadPlan, UnknownNumber}
use Rattle.number_fields.specs.Fields.{number16}
use Rattle.planfile.specs.Format.{file_size, root_in, count_in, mark_at, listed_arc}

-- "file under 10 bytes (14), `PN` (15), root (16), short (14), left over (15)"
abbrev pub head_fault : ℕ → List ℕ → Option PlanFault
head_fault n file =
    cond (ltb (length file) (file_size 0)) (some CutPlan)
    (cond (not (eqb (number16 file 0) mark_pn)) (some (BadPlan 0))
    (cond (leb n (root_in file)) (some (UnknownNumber 0))
    (cond (ltb (length file) (file_size (count_in file))) (some CutPlan)
    (cond (ltb (file_size (count_in file)) (length file)) (some (BadPlan (file_size (count_in file))))
    none))))

-- record i: its mark (15) and number (16), at its start
abbrev pub arc_fault : ℕ → List ℕ → ℕ → Option PlanFault
arc_fault m file i =
    cond (not (eqb (mark_at file i) mark_lg)) (some (BadPlan (file_size i)))
    (cond (leb m (listed_arc file i)) (some (UnknownNumber (file_size i)))
    none)

-- "The first faulty record decides"
abbrev pub is_fault : Option PlanFault → Bool
is_fault none = false
is_fault (some fault) = true

abbrev pub fault_at : (ℕ → Option PlanFault) → Option ℕ → Option PlanFault
fault_at fault none = none
fault_at fault (some i) = fault i

abbrev pub arcs_fault : ℕ → List ℕ → Option PlanFault
arcs_fault m file = fault_at (arc_fault m file) (first (λ i. is_fault (arc_fault m file i)) (count_in file))

-- the first fault, or else a later one
abbrev pub or_else : Option PlanFault → Option PlanFault → Option PlanFault
or_else (some fault) later = some fault
or_else none later = later

-- the head's fault, or else that of the first faulty record
unfoldable pub file_fault : ℕ → ℕ → List ℕ → Option PlanFault
file_fault n m file = or_else (head_fault n file) (arcs_fault m file)
