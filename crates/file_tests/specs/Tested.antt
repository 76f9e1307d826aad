-- What the code returns of a test: the fault, or that there is none; of a file without a fault its root, total and leg count.
-- Assumes nothing.
use Rattle.std.specs.Prelude.{ℕ, List, Result, Ok, Err}
use Rattle.std.proofs.Math.Option.{Option, none, some}
use Rattle.answer.specs.declared.PlanFault.{PlanFault}
use Rattle.planfile.specs.Format.{root_in, total_in, count_in}
use Rattle.file_tests.specs.FileFaults.{head_fault, file_fault}
use Rattle.file_tests.specs.declared.Head.{Head}

abbrev pub tested_as : Option PlanFault → Result (Unit {0}) PlanFault
tested_as none = Ok tt
tested_as (some fault) = Err fault

abbrev pub opened_as : Option PlanFault → List ℕ → Result Head PlanFault
opened_as none file = Ok (record { root = root_in file; total = total_in file; count = count_in file })
opened_as (some fault) file = Err fault

-- the head alone, and the whole file
abbrev pub head_of : ℕ → List ℕ → Result Head PlanFault
head_of n file = opened_as (head_fault n file) file

abbrev pub opened_of : ℕ → ℕ → List ℕ → Result Head PlanFault
opened_of n m file = opened_as (file_fault n m file) file
