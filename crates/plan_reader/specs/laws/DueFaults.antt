-- The fault of a plan file, as it is defined, is the one that is due by the mission's words, in both directions: a fault of the file by itself, and
-- one against the sheet.
-- Assumes nothing.
use Rattle.std.specs.Prelude.{ℕ, ◌<◌, ◌≡◌, ◌↔◌, Bool, true, false, cond, not, List, T, ltb, leb, eqb, length}
use Rattle.std.proofs.Math.Path.{refl, ap}
use Rattle.std.proofs.Common.{◌∙◌, subst, arith, ltb-true, ltb-false, leb-true, leb-false, eqb-true, lt-ltb, le-ltb, le-leb, eq-eqb, ne_eqb}
use Rattle.std.proofs.Math.Option.{Option, none, some}
use Rattle.std.proofs.lemmas.Bool.{eqb-false, not-true, not-false, lt-leb}
use Rattle.limits.specs.Marks.{mark_pn, mark_lg}
use Rattle.lists.specs.Every.{Every}
use Rattle.lists.specs.Find.{first}
use Rattle.lists.proofs.First.{first_says}
use Rattle.lists.specs.Listed.{listed_every}
use Rattle.lists.specs.Tests.{true_fact, fact_true, false_not_fact, not_both}
use Rattle.subset.specs.Sets.{full}
use Rattle.answer.specs.Stated.{Stated, plan, shared, cell, sender, no_sender, refused, of_plan_file, stated_plan_file}
use Rattle.answer.specs.declared.PlanFault.{PlanFault}
use Rattle.answer.specs.declared.PlanFault.TheVariants.{CutPlan, BadPlan, UnknownNumber, NoTree, NotASender, StationMissed, FalseTotal}
use Rattle.graph.specs.Graph.{Graph}
use Rattle.graph.specs.Subtrees.{Subtree, CoversAll, total, is_tree, is_covering}
use Rattle.graph.proofs.Theorems.{tree_test, covers_test, covers_all}
use Rattle.number_fields.specs.Fields.{number16}
use Rattle.planfile.specs.Format.{file_size, root_in, total_in, count_in, mark_at, listed_arc, arcs_in}
use Rattle.mission.specs.FileDue.{HeadRead, Sized, RecordPasses, PassBefore, FilePasses, FileDue, under_head, no_mark, no_root, short, left_over}
use Rattle.mission.specs.FileDue.{no_arc_mark, no_arc, no_tree_lem, not_sender, missed, false_total_lem}
use Rattle.mission.proofs.laws.PointLaws.{plan_not_refused}
use Rattle.file_tests.specs.FileFaults.{head_fault, arc_fault, is_fault, fault_at, arcs_fault, or_else, file_fault}
use Rattle.file_tests.proofs.laws.Faults.{some_fault, HeadOk, FileOk, head_passes, head_passed, arc_passed, arcs_fault_lem, file_passes, file_passed, listed_on}
use Rattle.plan_tests.specs.PlanFaults.{tree_fault}
use Rattle.plan_tests.proofs.laws.FirstFailed.{failed_tree, failed_root, failed_held, failed_sum}
use Rattle.file_reader.specs.FileAnswer.{answered, answer_to}

-- ---- what is stated of a fault

-- the number and the place that are stated of a fault
abbrev OfRefusal : (ℕ → ℕ → Type 0) → Stated → Type 0
OfRefusal P (refused family number place) = P number place
OfRefusal P (plan root cost count) = Unit {0}
OfRefusal P (cell cost) = Unit {0}
OfRefusal P (sender node) = Unit {0}
OfRefusal P no_sender = Unit {0}
OfRefusal P (shared root cost count rest) = Unit {0}

-- ---- a test and what it says

-- a test that fails refutes it, and one that passes grants it
refuted : (b : Bool) {P : Type 0} → (P → T b) → not b ≡ true → P → ⊥
refuted b there t p = not_both b (there p) (false_not_fact (not-true b t))

granted : (b : Bool) {P : Type 0} → (T b → P) → not b ≡ false → P
granted b back t = back (true_fact (not-false b t))

-- ---- tests in a row

-- the first test that fails gives its fault
fails : (b : Bool) (f : PlanFault) (later : Option PlanFault) → b ≡ true → cond b (some f) later ≡ some f
fails b f later e = ap (λ (x : Bool). cond x (some f) later) e

-- one that passes leaves it to the later ones
skips : (b : Bool) (f : PlanFault) (later o : Option PlanFault) → b ≡ false → later ≡ o → cond b (some f) later ≡ o
skips b f later o e q = ap (λ (x : Bool). cond x (some f) later) e ∙ q

same_fault : (P : PlanFault → Type 0) {g f : PlanFault} → some g ≡ some f → P g → P f
same_fault P {g} {f} e p = let q : g ≡ f = cc e in subst P q p

-- a fault is that of a test which failed, or a later one
by_fault : (P : PlanFault → Type 0) (b : Bool) (g f : PlanFault) (later : Option PlanFault) → cond b (some g) later ≡ some f
    → (b ≡ true → P g) → (b ≡ false → later ≡ some f → P f) → P f
by_fault P true g f later e failed passed = same_fault P e (failed refl)
by_fault P false g f later e failed passed = passed refl e

module _ (G : Graph) (file : List ℕ) where
  -- the fault is due
  abbrev Due : PlanFault → Type 0
  Due f = OfRefusal (FileDue G file) (stated_plan_file f)

  -- ---- from the fault to what is due

  head_read : HeadOk G.nodes file → HeadRead G file
  head_read ok = record { whole = ok.whole; mark = ok.mark; root = ok.root }

  sized_by : HeadOk G.nodes file → Sized G file
  sized_by ok = record { head = head_read ok; size = ok.size }

  passes_by : FileOk G.nodes G.arcs file → FilePasses G file
  passes_by ok = record { sized = sized_by ok.head; records = λ i l. record { mark = (ok.arcs i l).mark; arc = (ok.arcs i l).arc } }

  head_due : (f : PlanFault) → head_fault G.nodes file ≡ some f → Due f
  head_due f e =
      by_fault Due (ltb (length file) (file_size 0)) CutPlan f _ e (λ t. under_head (ltb-true _ _ t)) (λ a e1.
      let whole = ltb-false (length file) (file_size 0) a in
      by_fault Due (not (eqb (number16 file 0) mark_pn)) (BadPlan 0) f _ e1 (λ t. no_mark whole (eqb-false _ _ (not-true _ t))) (λ b e2.
      let mark = eqb-true (number16 file 0) mark_pn (not-false _ b) in
      by_fault Due (leb G.nodes (root_in file)) (UnknownNumber 0) f _ e2 (λ t. no_root whole mark (leb-true _ _ t)) (λ c e3.
      let head : HeadRead G file = record { whole = whole; mark = mark; root = leb-false _ _ c } in
      by_fault Due (ltb (length file) (file_size (count_in file))) CutPlan f _ e3 (λ t. short head (ltb-true _ _ t)) (λ d e4.
      by_fault Due (ltb (file_size (count_in file)) (length file)) (BadPlan (file_size (count_in file))) f none e4 (λ t. left_over head (ltb-true _ _ t))
      (λ _ e5. some_fault e5 refl)))))

  arc_due : Sized G file → (i : ℕ) → i < count_in file → PassBefore G file i → (f : PlanFault) → arc_fault G.arcs file i ≡ some f → Due f
  arc_due sized i l before f e =
      by_fault Due (not (eqb (mark_at file i) mark_lg)) (BadPlan (file_size i)) f _ e
      (λ t. no_arc_mark sized i l before (eqb-false _ _ (not-true _ t))) (λ a e1.
      by_fault Due (leb G.arcs (listed_arc file i)) (UnknownNumber (file_size i)) f none e1
      (λ t. no_arc sized i l before (eqb-true _ _ (not-false _ a)) (leb-true _ _ t)) (λ _ e2. some_fault e2 refl))

  no_fault : (o : Option PlanFault) → T (not (is_fault o)) → o ≡ none
  no_fault none t = refl
  no_fault (some f) t = absurd t

  arcs_due : Sized G file → (f : PlanFault) → arcs_fault G.arcs file ≡ some f → Due f
  arcs_due sized f e = go (first (λ i. is_fault (arc_fault G.arcs file i)) (count_in file)) refl e
    where
      go : (o : Option ℕ) → first (λ i. is_fault (arc_fault G.arcs file i)) (count_in file) ≡ o → fault_at (arc_fault G.arcs file) o ≡ some f → Due f
      go none q e1 = some_fault e1 refl
      go (some i) q e1 =
          let (l, _, before) = first_says (λ i. is_fault (arc_fault G.arcs file i)) (count_in file) (some i) q in
          arc_due sized i l
          (λ j b. let ok = arc_passed G.arcs file j (no_fault _ (before j b)) in record { mark = ok.mark; arc = ok.arc })
          f e1

  own_due : (f : PlanFault) → file_fault G.nodes G.arcs file ≡ some f → Due f
  unfolding file_fault
  own_due f e = go (head_fault G.nodes file) refl e
    where
      go : (o : Option PlanFault) → head_fault G.nodes file ≡ o → or_else o (arcs_fault G.arcs file) ≡ some f → Due f
      go none q e1 = arcs_due (sized_by (head_passed G.nodes file q)) f e1
      go (some g) q e1 = same_fault Due e1 (head_due g q)

  arcs_on : FileOk G.nodes G.arcs file → Every (λ e. e < G.arcs) (arcs_in file)
  arcs_on ok = listed_every (λ e. e < G.arcs) (arcs_in file) (listed_on G.nodes G.arcs file ok)

  -- the tests against the sheet
  abbrev is_tree_lem : Bool
  is_tree_lem = is_tree G (root_in file) (arcs_in file)

  abbrev may_root_lem : Bool
  may_root_lem = G.may_root (root_in file)

  abbrev is_held : Bool
  is_held = is_covering G (root_in file) (arcs_in file) (full G.terminals)

  abbrev is_sum : Bool
  is_sum = eqb (total_in file) (total G (root_in file) (arcs_in file))

  -- what they say
  module _ (ok : FileOk G.nodes G.arcs file) where
    abbrev L : List ℕ
    L = arcs_in file

    tree_says : T (is_tree G (root_in file) L) ↔ Subtree G (root_in file) L
    tree_says = tree_test G (root_in file) L ok.head.root (arcs_on ok)

    holds_says : T (is_covering G (root_in file) L (full G.terminals)) ↔ CoversAll G (root_in file) L
    holds_says = (
      (λ t. (covers_all G (root_in file) L).0 ((covers_test G (root_in file) L (full G.terminals)).0 t)),
      (λ all. (covers_test G (root_in file) L (full G.terminals)).1 ((covers_all G (root_in file) L).1 all)),
    )

    against_due : (f : PlanFault) → tree_fault G file ≡ some f → Due f
    unfolding tree_fault
    against_due f e =
        by_fault Due (not is_tree_lem) NoTree f _ e (λ t. no_tree_lem (passes_by ok) (refuted is_tree_lem tree_says.1 t)) (λ a e1.
        let tree = granted is_tree_lem tree_says.0 a in
        by_fault Due (not may_root_lem) NotASender f _ e1 (λ t. not_sender (passes_by ok) tree (refuted may_root_lem (λ m. m) t)) (λ r e2.
        let may = granted may_root_lem (λ m. m) r in
        by_fault Due (not is_held) StationMissed f _ e2 (λ t. missed (passes_by ok) tree may (refuted is_held holds_says.1 t)) (λ b e3.
        by_fault Due (not is_sum) FalseTotal f none e3
        (λ t. false_total_lem (passes_by ok) tree may (granted is_held holds_says.0 b) (eqb-false _ _ (not-true _ t)))
        (λ _ e4. some_fault e4 refl))))

  fault_due : (f : PlanFault) → or_else (file_fault G.nodes G.arcs file) (tree_fault G file) ≡ some f → Due f
  fault_due f e = go (file_fault G.nodes G.arcs file) refl e
    where
      go : (o : Option PlanFault) → file_fault G.nodes G.arcs file ≡ o → or_else o (tree_fault G file) ≡ some f → Due f
      go none q e1 = against_due (file_passed G.nodes G.arcs file q) f e1
      go (some g) q e1 = same_fault Due e1 (own_due g q)

  -- the answer's refusal is due
  answer_due : (number place : ℕ) → answer_to G file ≡ refused of_plan_file number place → FileDue G file number place
  answer_due number place e = go (or_else (file_fault G.nodes G.arcs file) (tree_fault G file)) refl e
    where
      go : (o : Option PlanFault) → or_else (file_fault G.nodes G.arcs file) (tree_fault G file) ≡ o → answered o file ≡ refused of_plan_file number place
          → FileDue G file number place
      go none q e1 = absurd (plan_not_refused e1)
      go (some f) q e1 = subst (OfRefusal (FileDue G file)) e1 (fault_due f q)

  -- ---- from what is due to the fault

  -- a fault of the head, or of a record where the head has none, is the file's
  head_own : (f : PlanFault) → head_fault G.nodes file ≡ some f → file_fault G.nodes G.arcs file ≡ some f
  unfolding file_fault
  head_own f e = ap (λ (o : Option PlanFault). or_else o (arcs_fault G.arcs file)) e

  arcs_own : (f : PlanFault) → head_fault G.nodes file ≡ none → arcs_fault G.arcs file ≡ some f → file_fault G.nodes G.arcs file ≡ some f
  unfolding file_fault
  arcs_own f e a = ap (λ (x : Option PlanFault). or_else x (arcs_fault G.arcs file)) e ∙ a

  head_ok : Sized G file → HeadOk G.nodes file
  head_ok s = record { whole = s.head.whole; mark = s.head.mark; root = s.head.root; size = s.size }

  file_ok : FilePasses G file → FileOk G.nodes G.arcs file
  file_ok p = record { head = head_ok p.sized; arcs = λ i l. record { mark = (p.records i l).mark; arc = (p.records i l).arc } }

  -- the tests before those of the length
  read_on : HeadRead G file → (later o : Option PlanFault) → later ≡ o
      → cond (ltb (length file) (file_size 0)) (some CutPlan)
      (cond (not (eqb (number16 file 0) mark_pn)) (some (BadPlan 0)) (cond (leb G.nodes (root_in file)) (some (UnknownNumber 0)) later))
      ≡ o
  read_on h later o e =
      skips _ CutPlan _ o (le-ltb _ _ h.whole)
      (skips _ (BadPlan 0) _ o (ap not (eq-eqb _ _ h.mark))
      (skips _ (UnknownNumber 0) later o (lt-leb _ _ h.root) e))

  arc_passes : (i : ℕ) → RecordPasses G file i → arc_fault G.arcs file i ≡ none
  arc_passes i p = skips _ _ _ none (ap not (eq-eqb _ _ p.mark)) (skips _ _ none none (lt-leb _ _ p.arc) refl)

  record_own : Sized G file → (i : ℕ) → i < count_in file → PassBefore G file i → (f : PlanFault) → arc_fault G.arcs file i ≡ some f
      → file_fault G.nodes G.arcs file ≡ some f
  record_own s i l before f e =
      arcs_own f (head_passes G.nodes file (head_ok s)) (arcs_fault_lem G.arcs file i f l (λ j b. arc_passes j (before j b)) e)

  own_answer : (f : PlanFault) → file_fault G.nodes G.arcs file ≡ some f → answer_to G file ≡ stated_plan_file f
  own_answer f e = ap (λ (o : Option PlanFault). answered (or_else o (tree_fault G file)) file) e

  against_answer : FilePasses G file → (f : PlanFault) → tree_fault G file ≡ some f → answer_to G file ≡ stated_plan_file f
  against_answer p f e =
      ap (λ (o : Option PlanFault). answered (or_else o (tree_fault G file)) file) (file_passes G.nodes G.arcs file (file_ok p))
      ∙ ap (λ (o : Option PlanFault). answered o file) e

  module _ (p : FilePasses G file) where
    tree_passes : Subtree G (root_in file) (arcs_in file) → is_tree_lem ≡ true
    tree_passes s = fact_true ((tree_says (file_ok p)).1 s)

    held_passes : CoversAll G (root_in file) (arcs_in file) → is_held ≡ true
    held_passes all = fact_true ((holds_says (file_ok p)).1 all)

    fails_as : (b : Bool) → (T b → ⊥) → b ≡ false
    fails_as true never = absurd (never tt)
    fails_as false never = refl

    tree_answer : (Subtree G (root_in file) (arcs_in file) → ⊥) → tree_fault G file ≡ some NoTree
    unfolding tree_fault
    tree_answer none-such = failed_tree is_tree_lem may_root_lem is_held is_sum (fails_as is_tree_lem (λ t. none-such ((tree_says (file_ok p)).0 t)))

    root_answer : Subtree G (root_in file) (arcs_in file) → (T (G.may_root (root_in file)) → ⊥) → tree_fault G file ≡ some NotASender
    unfolding tree_fault
    root_answer s may-not = failed_root is_tree_lem may_root_lem is_held is_sum (tree_passes s) (fails_as may_root_lem may-not)

    held_answer : Subtree G (root_in file) (arcs_in file) → T (G.may_root (root_in file)) → (CoversAll G (root_in file) (arcs_in file) → ⊥)
        → tree_fault G file ≡ some StationMissed
    unfolding tree_fault
    held_answer s may none-such =
        failed_held is_tree_lem may_root_lem is_held is_sum (tree_passes s) (fact_true may) (fails_as is_held (λ t. none-such ((holds_says (file_ok p)).0 t)))

    sum_answer : Subtree G (root_in file) (arcs_in file) → T (G.may_root (root_in file)) → CoversAll G (root_in file) (arcs_in file)
        → (total_in file ≡ total G (root_in file) (arcs_in file) → ⊥) → tree_fault G file ≡ some FalseTotal
    unfolding tree_fault
    sum_answer s may all differs =
        failed_sum is_tree_lem may_root_lem is_held is_sum (tree_passes s) (fact_true may) (held_passes all) (ne_eqb _ _ differs)

  -- what is due is given
  due_answer : (number place : ℕ) → FileDue G file number place → answer_to G file ≡ refused of_plan_file number place
  due_answer number place (under_head l) = own_answer CutPlan (head_own CutPlan (fails _ CutPlan _ (lt-ltb _ _ l)))
  due_answer number place (no_mark whole other) =
      own_answer (BadPlan 0) (head_own (BadPlan 0)
      (skips _ CutPlan _ (some (BadPlan 0)) (le-ltb _ _ whole) (fails _ (BadPlan 0) _ (ap not (ne_eqb _ _ other)))))
  due_answer number place (no_root whole mark large) =
      own_answer (UnknownNumber 0) (head_own (UnknownNumber 0)
      (skips _ CutPlan _ (some (UnknownNumber 0)) (le-ltb _ _ whole)
      (skips _ (BadPlan 0) _ (some (UnknownNumber 0)) (ap not (eq-eqb _ _ mark)) (fails _ (UnknownNumber 0) _ (le-leb _ _ large)))))
  due_answer number place (short head l) =
      own_answer CutPlan (head_own CutPlan (read_on head _ (some CutPlan) (fails _ CutPlan _ (lt-ltb _ _ l))))
  due_answer number place (left_over head l) =
      own_answer (BadPlan (file_size (count_in file))) (head_own (BadPlan (file_size (count_in file)))
      (read_on head _ (some (BadPlan (file_size (count_in file))))
      (skips _ CutPlan _ (some (BadPlan (file_size (count_in file)))) (le-ltb (length file) (file_size (count_in file)) (omega (arith, l)))
      (fails _ (BadPlan (file_size (count_in file))) none (lt-ltb _ _ l)))))
  due_answer number place (no_arc_mark sized i l before other) =
      own_answer (BadPlan (file_size i)) (record_own sized i l before (BadPlan (file_size i)) (fails _ (BadPlan (file_size i)) _ (ap not (ne_eqb _ _ other))))
  due_answer number place (no_arc sized i l before mark large) =
      own_answer (UnknownNumber (file_size i)) (record_own sized i l before (UnknownNumber (file_size i))
      (skips _ (BadPlan (file_size i)) _ (some (UnknownNumber (file_size i))) (ap not (eq-eqb _ _ mark)) (fails _ (UnknownNumber (file_size i)) none (le-leb _ _ large))))
  due_answer number place (no_tree_lem p none-such) = against_answer p NoTree (tree_answer p none-such)
  due_answer number place (not_sender p s may-not) = against_answer p NotASender (root_answer p s may-not)
  due_answer number place (missed p s may none-such) = against_answer p StationMissed (held_answer p s may none-such)
  due_answer number place (false_total_lem p s may all differs) = against_answer p FalseTotal (sum_answer p s may all differs)

-- the plan reader's answer is a refusal of the file exactly where that refusal is due
pub gets_due : (G : Graph) (file : List ℕ) (number place : ℕ) → (answer_to G file ≡ refused of_plan_file number place) ↔ FileDue G file number place
gets_due G file number place = (answer_due G file number place, due_answer G file number place)
