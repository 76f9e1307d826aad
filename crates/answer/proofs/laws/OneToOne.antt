-- The stated values tell the answers apart: each answer can be found again from what is stated of it.
-- Assumes nothing.
use Rattle.std.specs.Prelude.{ℕ, ◌≡◌, cond, eqb, Result, Ok, Err, Option, Some, None}
use Rattle.std.proofs.Math.Path.{refl}
use Rattle.std.proofs.Common.{sym, ap, ◌∙◌, arith}
use Rattle.limits.specs.Refusals.{short_sheet, strange_mark, bad_head, no_such_site, no_such_station, loop, bad_price, too_many_legs, after_the_end, unheard, short_tables, no_plan, short_buffer, cut_plan, bad_plan, unknown_number, no_tree, station_missed, false_total, not_a_sender}
use Rattle.answer.specs.declared.SheetFault.TheVariants.{ShortSheet, StrangeMark, BadHead, NoSuchSite, NoSuchStation, Loop, BadPrice, TooManyLegs, AfterTheEnd, Unheard}
use Rattle.answer.specs.declared.TableFault.TheVariants.{ShortTables, ShortBuffer}
use Rattle.answer.specs.declared.SearchFault.TheVariants.{NoPlan}
use Rattle.answer.specs.declared.PlanFault.TheVariants.{CutPlan, BadPlan, UnknownNumber, NoTree, StationMissed, FalseTotal, NotASender}
use Rattle.answer.specs.declared.Refusal.{Refusal}
use Rattle.answer.specs.declared.Refusal.TheVariants.{Sheet, Tables, Search, PlanFile}
use Rattle.answer.specs.declared.Plan.{Plan}
use Rattle.answer.specs.declared.Shared.{Shared}
use Rattle.answer.specs.Stated.{Stated, plan, shared, cell, sender, no_sender, refused, family_of, stated_refusal, stated, stated_cell, stated_sender, stated_sharing}

-- the refusal with a number and a place
abbrev refusal_at : ℕ → ℕ → Refusal
refusal_at number place =
    cond (eqb number short_sheet) (Sheet (ShortSheet place)) (
    cond (eqb number strange_mark) (Sheet (StrangeMark place)) (
    cond (eqb number bad_head) (Sheet (BadHead place)) (
    cond (eqb number no_such_site) (Sheet (NoSuchSite place)) (
    cond (eqb number no_such_station) (Sheet (NoSuchStation place)) (
    cond (eqb number loop) (Sheet (Loop place)) (
    cond (eqb number bad_price) (Sheet (BadPrice place)) (
    cond (eqb number too_many_legs) (Sheet (TooManyLegs place)) (
    cond (eqb number after_the_end) (Sheet (AfterTheEnd place)) (
    cond (eqb number unheard) (Sheet (Unheard place)) (
    cond (eqb number short_tables) (Tables ShortTables) (
    cond (eqb number no_plan) (Search NoPlan) (
    cond (eqb number short_buffer) (Tables ShortBuffer) (
    cond (eqb number cut_plan) (PlanFile CutPlan) (
    cond (eqb number bad_plan) (PlanFile (BadPlan place)) (
    cond (eqb number unknown_number) (PlanFile (UnknownNumber place)) (
    cond (eqb number no_tree) (PlanFile NoTree) (
    cond (eqb number station_missed) (PlanFile StationMissed) (
    cond (eqb number false_total) (PlanFile FalseTotal) (
    PlanFile NotASender)))))))))))))))))))

-- a value found from what is stated, where it is known for each kind of answer
module _ {A : Type 0} (on_plan : ℕ → ℕ → ℕ → A) (on_shared : ℕ → ℕ → ℕ → ℕ → A) (on_cell on_sender : ℕ → A) (on_none : A) (on_refusal : Refusal → A) where
  find : Stated → A
  find (plan root total arcs) = on_plan root total arcs
  find (shared root total arcs unassigned) = on_shared root total arcs unassigned
  find (cell cost) = on_cell cost
  find (sender node) = on_sender node
  find no_sender = on_none
  find (refused family number place) = on_refusal (refusal_at number place)

  find_refusal_lem : (refusal : Refusal) → find (stated_refusal refusal) ≡ on_refusal refusal
  unfolding find
  find_refusal_lem (Sheet (ShortSheet place)) = refl
  find_refusal_lem (Sheet (StrangeMark place)) = refl
  find_refusal_lem (Sheet (BadHead place)) = refl
  find_refusal_lem (Sheet (NoSuchSite place)) = refl
  find_refusal_lem (Sheet (NoSuchStation place)) = refl
  find_refusal_lem (Sheet (Loop place)) = refl
  find_refusal_lem (Sheet (BadPrice place)) = refl
  find_refusal_lem (Sheet (TooManyLegs place)) = refl
  find_refusal_lem (Sheet (AfterTheEnd place)) = refl
  find_refusal_lem (Sheet (Unheard place)) = refl
  find_refusal_lem (Tables ShortTables) = refl
  find_refusal_lem (Tables ShortBuffer) = refl
  find_refusal_lem (Search NoPlan) = refl
  find_refusal_lem (PlanFile CutPlan) = refl
  find_refusal_lem (PlanFile (BadPlan place)) = refl
  find_refusal_lem (PlanFile (UnknownNumber place)) = refl
  find_refusal_lem (PlanFile NoTree) = refl
  find_refusal_lem (PlanFile StationMissed) = refl
  find_refusal_lem (PlanFile FalseTotal) = refl
  find_refusal_lem (PlanFile NotASender) = refl

-- what is stated of a refusal is its family, a number and a place
pub refusal_stated : (refusal : Refusal) → (number : ℕ) × (place : ℕ) × (stated_refusal refusal ≡ refused (family_of refusal) number place)
refusal_stated (Sheet (ShortSheet place)) = (short_sheet, place, refl)
refusal_stated (Sheet (StrangeMark place)) = (strange_mark, place, refl)
refusal_stated (Sheet (BadHead place)) = (bad_head, place, refl)
refusal_stated (Sheet (NoSuchSite place)) = (no_such_site, place, refl)
refusal_stated (Sheet (NoSuchStation place)) = (no_such_station, place, refl)
refusal_stated (Sheet (Loop place)) = (loop, place, refl)
refusal_stated (Sheet (BadPrice place)) = (bad_price, place, refl)
refusal_stated (Sheet (TooManyLegs place)) = (too_many_legs, place, refl)
refusal_stated (Sheet (AfterTheEnd place)) = (after_the_end, place, refl)
refusal_stated (Sheet (Unheard place)) = (unheard, place, refl)
refusal_stated (Tables ShortTables) = (short_tables, 0, refl)
refusal_stated (Tables ShortBuffer) = (short_buffer, 0, refl)
refusal_stated (Search NoPlan) = (no_plan, 0, refl)
refusal_stated (PlanFile CutPlan) = (cut_plan, 0, refl)
refusal_stated (PlanFile (BadPlan place)) = (bad_plan, place, refl)
refusal_stated (PlanFile (UnknownNumber place)) = (unknown_number, place, refl)
refusal_stated (PlanFile NoTree) = (no_tree, 0, refl)
refusal_stated (PlanFile StationMissed) = (station_missed, 0, refl)
refusal_stated (PlanFile FalseTotal) = (false_total, 0, refl)
refusal_stated (PlanFile NotASender) = (not_a_sender, 0, refl)

-- any refusal, for the cases that do not arise
any_refusal : Refusal
any_refusal = Search NoPlan

find_refusal : Stated → Refusal
find_refusal = find (λ _ _ _. any_refusal) (λ _ _ _ _. any_refusal) (λ _. any_refusal) (λ _. any_refusal) any_refusal (λ r. r)

-- two refusals of which the same is stated are one refusal
pub refusal_one_to_one : (a b : Refusal) → stated_refusal a ≡ stated_refusal b → a ≡ b
unfolding find_refusal
refusal_one_to_one a b same =
    sym (find_refusal_lem _ _ _ _ _ (λ r. r) a) ∙ ap find_refusal same ∙ find_refusal_lem _ _ _ _ _ (λ r. r) b

-- any refusal, where no refusal is stated
refused_any : {A : Type 0} → Result A Refusal
refused_any = Err any_refusal

find_answer : Stated → Result Plan Refusal
find_answer =
    find (λ root total arcs. Ok (record { root = root; total = total; arcs = arcs })) (λ _ _ _ _. refused_any) (λ _. refused_any) (λ _. refused_any) refused_any Err

answer_found : (a : Result Plan Refusal) → find_answer (stated a) ≡ a
unfolding find_answer find
answer_found (Ok p) = refl
answer_found (Err refusal) = find_refusal_lem _ _ _ _ _ Err refusal

-- two answers of the engine or the plan reader of which the same is stated are one answer
pub answer_one_to_one : (a b : Result Plan Refusal) → stated a ≡ stated b → a ≡ b
answer_one_to_one a b same = sym (answer_found a) ∙ ap find_answer same ∙ answer_found b

find_cell : Stated → Result ℕ Refusal
find_cell = find (λ _ _ _. refused_any) (λ _ _ _ _. refused_any) Ok (λ _. refused_any) refused_any Err

cell_found : (a : Result ℕ Refusal) → find_cell (stated_cell a) ≡ a
unfolding find_cell find
cell_found (Ok cost) = refl
cell_found (Err refusal) = find_refusal_lem _ _ _ _ _ Err refusal

find_sender : Stated → Result (Option ℕ) Refusal
find_sender = find (λ _ _ _. refused_any) (λ _ _ _ _. refused_any) (λ _. refused_any) (λ node. Ok (Some node)) (Ok None) Err

sender_found : (a : Result (Option ℕ) Refusal) → find_sender (stated_sender a) ≡ a
unfolding find_sender find
sender_found (Ok (Some node)) = refl
sender_found (Ok None) = refl
sender_found (Err refusal) = find_refusal_lem _ _ _ _ _ Err refusal

-- two answers of the enquirer to one question of which the same is stated are one answer
pub cell_one_to_one : (a b : Result ℕ Refusal) → stated_cell a ≡ stated_cell b → a ≡ b
cell_one_to_one a b same = sym (cell_found a) ∙ ap find_cell same ∙ cell_found b

pub sender_one_to_one : (a b : Result (Option ℕ) Refusal) → stated_sender a ≡ stated_sender b → a ≡ b
sender_one_to_one a b same = sym (sender_found a) ∙ ap find_sender same ∙ sender_found b

-- a number that tells a cell, a best sender or none, and a refusal apart
kind : Stated → ℕ
kind = find (λ _ _ _. 0) (λ _ _ _ _. 0) (λ _. 1) (λ _. 2) 2 (λ _. 3)

-- where the same is stated of answers to its two questions, both are one refusal
pub enquiry_one_to_one : (a : Result ℕ Refusal) (b : Result (Option ℕ) Refusal) → stated_cell a ≡ stated_sender b
    → (refusal : Refusal) × (a ≡ Err refusal) × (b ≡ Err refusal)
unfolding find kind
enquiry_one_to_one (Ok cost) (Ok (Some node)) same = let e : ◌≡◌ {A = ℕ} 1 2 = ap kind same in let bad : ⊥ = omega arith in elim bad [ ]
enquiry_one_to_one (Ok cost) (Ok None) same = let e : ◌≡◌ {A = ℕ} 1 2 = ap kind same in let bad : ⊥ = omega arith in elim bad [ ]
enquiry_one_to_one (Ok cost) (Err refusal) same =
    let e : ◌≡◌ {A = ℕ} 1 3 = ap kind same ∙ find_refusal_lem _ _ _ _ _ (λ _. 3) refusal in let bad : ⊥ = omega arith in elim bad [ ]
enquiry_one_to_one (Err refusal) (Ok (Some node)) same =
    let e : ◌≡◌ {A = ℕ} 3 2 = sym (find_refusal_lem _ _ _ _ _ (λ _. 3) refusal) ∙ ap kind same in let bad : ⊥ = omega arith in elim bad [ ]
enquiry_one_to_one (Err refusal) (Ok None) same =
    let e : ◌≡◌ {A = ℕ} 3 2 = sym (find_refusal_lem _ _ _ _ _ (λ _. 3) refusal) ∙ ap kind same in let bad : ⊥ = omega arith in elim bad [ ]
enquiry_one_to_one (Err a) (Err b) same = (a, refl, ap Err (sym (refusal_one_to_one a b same)))

find_sharing : Stated → Result Shared Refusal
find_sharing =
    find (λ _ _ _. refused_any) (λ root total arcs unassigned. Ok (record { plan = record { root = root; total = total; arcs = arcs }; unassigned = unassigned })) (λ _. refused_any) (λ _. refused_any) refused_any Err

sharing_found : (a : Result Shared Refusal) → find_sharing (stated_sharing a) ≡ a
unfolding find_sharing find
sharing_found (Ok s) = refl
sharing_found (Err refusal) = find_refusal_lem _ _ _ _ _ Err refusal

-- two answers with shares of which the same is stated are one answer
pub sharing_one_to_one : (a b : Result Shared Refusal) → stated_sharing a ≡ stated_sharing b → a ≡ b
sharing_one_to_one a b same = sym (sharing_found a) ∙ ap find_sharing same ∙ sharing_found b

-- what is stated of a refusal is not what is stated of a plan
pub refusal_no_plan : (refusal : Refusal) (root total arcs : ℕ) → stated_refusal refusal ≡ plan root total arcs → ⊥
refusal_no_plan refusal root total arcs same =
    let p : Plan = record { root = root; total = total; arcs = arcs } in
    let q : ◌≡◌ {A = Result Plan Refusal} (Err refusal) (Ok p) = answer_one_to_one (Err refusal) (Ok p) same in
    let z : ◌≡◌ {A = ℕ} 0 1 = cc q in
    omega arith
