-- What is returned of a file that has passed its tests, and of one that has not.
-- Assumes nothing.
use Rattle.std.specs.Prelude.{Ok, Err, ℕ, ◌≤◌, ◌≡◌, refl, List, length}
use Rattle.std.proofs.Common.{sym, ap, ◌∙◌, arith}
use Rattle.std.proofs.Math.Option.{Option, none, some}
use Rattle.answer.specs.declared.PlanFault.{PlanFault}
use Rattle.planfile.specs.Format.{file_size, root_in, total_in, count_in}
use Rattle.file_tests.specs.FileFaults.{head_fault, arcs_fault}
use Rattle.file_tests.proofs.laws.Faults.{head_passed, fault_of_head, fault_of_arcs}
use Rattle.file_tests.specs.Tested.{tested_as, opened_as, head_of, opened_of}
use Rattle.file_tests.specs.declared.Head.{Head}

-- what was tested
pub tested_passed : {u : Unit {0}} (o : Option PlanFault) → Ok u ≡ tested_as o → o ≡ none
tested_passed none e = refl
tested_passed (some f) e = let z : ◌≡◌ {A = ℕ} 0 1 = cc e in absurd (omega arith)

pub tested_failed : (o : Option PlanFault) (f : PlanFault) → Err f ≡ tested_as o → o ≡ some f
tested_failed none f e = let z : ◌≡◌ {A = ℕ} 0 1 = cc e in absurd (omega arith)
tested_failed (some g) f e = cc e

-- the fields of a file that has no fault
pub record FieldsOf (fault : Option PlanFault) (file : List ℕ) (root total count : ℕ) : Type 0 where
  pub no_fault : fault ≡ none
  pub root_is : root ≡ root_in file
  pub total_is : total ≡ total_in file
  pub count_is : count ≡ count_in file

pub opened_fields : (o : Option PlanFault) (file : List ℕ) (head : Head) → Ok head ≡ opened_as o file → FieldsOf o file head.root head.total head.count
opened_fields none file head e = record { no_fault = refl; root_is = cc e; total_is = cc e; count_is = cc e }
opened_fields (some f) file head e = let z : ◌≡◌ {A = ℕ} 0 1 = cc e in absurd (omega arith)

pub fields_opened : (o : Option PlanFault) (file : List ℕ) (head : Head) → FieldsOf o file head.root head.total head.count → Ok head ≡ opened_as o file
fields_opened (some fault) file head f = let z : ◌≡◌ {A = ℕ} 0 1 = cc f.no_fault in absurd (omega arith)
fields_opened none file head f = λ i. Ok (record { root = f.root_is i; total = f.total_is i; count = f.count_is i })

pub opened_fault : (o : Option PlanFault) (file : List ℕ) (f : PlanFault) → Err f ≡ opened_as o file → o ≡ some f
opened_fault none file f e = let z : ◌≡◌ {A = ℕ} 0 1 = cc e in absurd (omega arith)
opened_fault (some g) file f e = cc e

module _ (n m : ℕ) (file : List ℕ) where
  -- the head has a fault
  pub head_fault_opened : (f : PlanFault) → Err f ≡ head_of n file → Err f ≡ opened_of n m file
  head_fault_opened f e = sym (ap (λ (o : Option PlanFault). opened_as o file) (fault_of_head n m file f (opened_fault (head_fault n file) file f e)))

  module _ (head : Head) (e : Ok head ≡ head_of n file) where
    -- the file is as long as its head says
    pub head_opened : (head.count ≡ count_in file) × (file_size head.count ≤ length file)
    head_opened =
        let f = opened_fields (head_fault n file) file head e in
        (f.count_is, omega (arith, ap file_size f.count_is, (head_passed n file f.no_fault).size))

    -- a record has a fault, or none has
    pub arcs_fault_opened : (g : PlanFault) → Err g ≡ tested_as (arcs_fault m file) → Err g ≡ opened_of n m file
    arcs_fault_opened g t =
        let f = opened_fields (head_fault n file) file head e in
        sym (ap (λ (o : Option PlanFault). opened_as o file) (fault_of_arcs n m file (some g) f.no_fault (tested_failed (arcs_fault m file) g t)))

    pub file_opened : {u : Unit {0}} → Ok u ≡ tested_as (arcs_fault m file) → Ok head ≡ opened_of n m file
    file_opened t =
        let f = opened_fields (head_fault n file) file head e in
        e ∙ ap (λ (o : Option PlanFault). opened_as o file)
        (f.no_fault ∙ sym (fault_of_arcs n m file none f.no_fault (tested_passed (arcs_fault m file) t)))
