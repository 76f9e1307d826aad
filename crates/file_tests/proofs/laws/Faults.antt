-- Where a file has no fault of its own: the facts that its tests ask for, and that no test fails where they hold.
-- Assumes nothing.
use Rattle.std.specs.Prelude.{ℕ, ◌≤◌, ◌<◌, ◌≡◌, Bool, true, false, cond, not, List, T, ltb, leb, eqb, length}
use Rattle.std.proofs.Math.Path.{refl, ap}
use Rattle.std.proofs.Common.{sym, ◌∙◌, subst, arith, le-ltb, eq-eqb, ltb-false, leb-false, eqb-true}
use Rattle.std.proofs.Math.Option.{Option, none, some}
use Rattle.std.proofs.lemmas.Bool.{lt-leb, not-false}
use Rattle.limits.specs.Marks.{mark_pn, mark_lg}
use Rattle.lists.specs.Find.{first}
use Rattle.lists.proofs.First.{first_says, first_found, first_none}
use Rattle.lists.specs.Listed.{listed, value_of}
use Rattle.lists.specs.Numbers.{numbers, listed_number}
use Rattle.lists.specs.Tests.{true_fact, false_not_fact, not_both}
use Rattle.answer.specs.declared.PlanFault.{PlanFault}
use Rattle.answer.specs.declared.PlanFault.TheVariants.{CutPlan, BadPlan, UnknownNumber}
use Rattle.number_fields.specs.Fields.{number16}
use Rattle.planfile.specs.Format.{file_size, root_in, count_in, mark_at, listed_arc, arcs_in}
use Rattle.file_tests.specs.FileFaults.{head_fault, arc_fault, is_fault, fault_at, arcs_fault, or_else, file_fault}

-- ---- a test and its fault

-- a fault is not none
pub some_fault : {A : Type 0} {f : PlanFault} {o : Option PlanFault} → o ≡ some f → o ≡ none → A
some_fault {A} {f} {o} e n = absurd (subst (λ (x : Option PlanFault). T (is_fault x)) (sym e ∙ n) tt)

-- where there is no fault, the test did not fail, and there is none after it
test_passed : (b : Bool) (f : PlanFault) (later : Option PlanFault) → cond b (some f) later ≡ none → (b ≡ false) × (later ≡ none)
test_passed true f later e = some_fault refl e
test_passed false f later e = (refl, e)

test_passes : (b : Bool) (f : PlanFault) (later : Option PlanFault) → b ≡ false → later ≡ none → cond b (some f) later ≡ none
test_passes b f later e n = ap (λ (x : Bool). cond x (some f) later) e ∙ n

-- ---- the head

pub record HeadOk (n : ℕ) (file : List ℕ) : Type 0 where
  pub whole : file_size 0 ≤ length file
  pub mark : number16 file 0 ≡ mark_pn
  pub root : root_in file < n
  pub size : length file ≡ file_size (count_in file)

module _ (n : ℕ) (file : List ℕ) where
  pub head_passes : HeadOk n file → head_fault n file ≡ none
  head_passes ok =
      test_passes (ltb (length file) (file_size 0)) CutPlan _ (le-ltb _ _ ok.whole)
      (test_passes (not (eqb (number16 file 0) mark_pn)) (BadPlan 0) _ (ap not (eq-eqb _ _ ok.mark))
      (test_passes (leb n (root_in file)) (UnknownNumber 0) _ (lt-leb _ _ ok.root)
      (test_passes (ltb (length file) (file_size (count_in file))) CutPlan _ (le-ltb (length file) (file_size (count_in file)) (omega (arith, ok.size)))
      (test_passes (ltb (file_size (count_in file)) (length file)) (BadPlan (file_size (count_in file))) none
      (le-ltb (file_size (count_in file)) (length file) (omega (arith, ok.size)))
      refl))))

  pub head_passed : head_fault n file ≡ none → HeadOk n file
  head_passed e =
      let (long, e1) = test_passed (ltb (length file) (file_size 0)) _ _ e in
      let (mark, e2) = test_passed (not (eqb (number16 file 0) mark_pn)) _ _ e1 in
      let (root, e3) = test_passed (leb n (root_in file)) _ _ e2 in
      let (short, e4) = test_passed (ltb (length file) (file_size (count_in file))) _ _ e3 in
      let (left, _) = test_passed (ltb (file_size (count_in file)) (length file)) _ _ e4 in
      record {
        whole = ltb-false _ _ long;
        mark = eqb-true _ _ (not-false _ mark);
        root = leb-false _ _ root;
        size = omega (arith, ltb-false (length file) (file_size (count_in file)) short, ltb-false (file_size (count_in file)) (length file) left);
      }

-- ---- the records

-- record i has the mark `LG` and a leg that is on the sheet
pub record ArcOk (m : ℕ) (file : List ℕ) (i : ℕ) : Type 0 where
  pub mark : mark_at file i ≡ mark_lg
  pub arc : listed_arc file i < m

module _ (m : ℕ) (file : List ℕ) where
  arc_passes : (i : ℕ) → ArcOk m file i → arc_fault m file i ≡ none
  arc_passes i ok = test_passes _ _ _ (ap not (eq-eqb _ _ ok.mark)) (test_passes _ _ _ (lt-leb _ _ ok.arc) refl)

  pub arc_passed : (i : ℕ) → arc_fault m file i ≡ none → ArcOk m file i
  arc_passed i e =
      let (mark, e1) = test_passed (not (eqb (mark_at file i) mark_lg)) _ _ e in
      let (arc, _) = test_passed (leb m (listed_arc file i)) _ _ e1 in
      record { mark = eqb-true _ _ (not-false _ mark); arc = leb-false _ _ arc }

  abbrev faulty : ℕ → Bool
  faulty i = is_fault (arc_fault m file i)

  passed_test : (i : ℕ) → arc_fault m file i ≡ none → T (not (faulty i))
  passed_test i e = false_not_fact (ap is_fault e)

  test_none : (o : Option PlanFault) → T (not (is_fault o)) → o ≡ none
  test_none none t = refl
  test_none (some f) t = absurd t

  -- no record has a fault
  pub arcs_passes : ((i : ℕ) → i < count_in file → ArcOk m file i) → arcs_fault m file ≡ none
  arcs_passes ok =
      ap (fault_at (arc_fault m file)) (first_none faulty (count_in file) (λ i l. passed_test i (arc_passes i (ok i l))))

  arcs_passed : arcs_fault m file ≡ none → (i : ℕ) → i < count_in file → ArcOk m file i
  arcs_passed e i l = arc_passed i (test_none _ (go (first faulty (count_in file)) refl))
    where
      go : (o : Option ℕ) → first faulty (count_in file) ≡ o → T (not (faulty i))
      go none q = first_says faulty (count_in file) none q i l
      go (some j) q =
          let (_, t, _) = first_says faulty (count_in file) (some j) q in
          absurd (not_both (faulty j) t (passed_test j (sym (ap (fault_at (arc_fault m file)) q) ∙ e)))

  -- the first record that has one decides
  pub arcs_fault_lem : (i : ℕ) (f : PlanFault) → i < count_in file → ((j : ℕ) → j < i → arc_fault m file j ≡ none) → arc_fault m file i ≡ some f
      → arcs_fault m file ≡ some f
  arcs_fault_lem i f l before e =
      ap (fault_at (arc_fault m file)) (first_found faulty (count_in file) i l (true_fact (ap is_fault e)) (λ j b. passed_test j (before j b))) ∙ e

-- ---- the whole file

pub record FileOk (n m : ℕ) (file : List ℕ) : Type 0 where
  pub head : HeadOk n file
  pub arcs : (i : ℕ) → i < count_in file → ArcOk m file i

-- every leg that the file lists is on the sheet
pub listed_on : (n m : ℕ) (file : List ℕ) → FileOk n m file → (e : ℕ) → T (listed e (arcs_in file)) → e < m
listed_on n m file ok e i =
    let (j, at, q) = value_of (listed_arc file) (numbers 0 (count_in file)) e i in
    subst (λ (x : ℕ). x < m) q (ok.arcs j (listed_number (count_in file) j at)).arc

module _ (n m : ℕ) (file : List ℕ) where
  pub file_passes : FileOk n m file → file_fault n m file ≡ none
  unfolding file_fault
  file_passes ok = ap (λ (o : Option PlanFault). or_else o (arcs_fault m file)) (head_passes n file ok.head) ∙ arcs_passes m file ok.arcs

  pub file_passed : file_fault n m file ≡ none → FileOk n m file
  unfolding file_fault
  file_passed e = go (head_fault n file) refl e
    where
      go : (o : Option PlanFault) → head_fault n file ≡ o → or_else o (arcs_fault m file) ≡ none → FileOk n m file
      go none q later = record { head = head_passed n file q; arcs = arcs_passed m file later }
      go (some f) q later = some_fault refl later

  -- a fault of the head, or of a record where the head has none, is the file's
  pub fault_of_head : (f : PlanFault) → head_fault n file ≡ some f → file_fault n m file ≡ some f
  unfolding file_fault
  fault_of_head f e = ap (λ (o : Option PlanFault). or_else o (arcs_fault m file)) e

  pub fault_of_arcs : (o : Option PlanFault) → head_fault n file ≡ none → arcs_fault m file ≡ o → file_fault n m file ≡ o
  unfolding file_fault
  fault_of_arcs o e a = ap (λ (x : Option PlanFault). or_else x (arcs_fault m file)) e ∙ a
