-- Laws that the proofs of the points share: a plan is no refusal, and has one root, total and leg count; a refusal has one number; a good
-- sheet has one verdict; what is stated of a sheet's fault is a refusal with a number from 1 to 10, of the sheet.
-- What an entry point gives by its opening gives 1 to 11 where they are due.
-- Assumes nothing.
use Rattle.std.specs.Prelude.{ℕ, ◌≤◌, ◌<◌, ◌≡◌, refl, List}
use Rattle.std.proofs.Common.{sym, ap, ◌∙◌, subst, arith}
use Rattle.limits.specs.Refusals.{short_sheet, strange_mark, bad_head, no_such_site, no_such_station, loop, bad_price, too_many_legs, after_the_end, unheard, short_tables}
use Rattle.answer.specs.Stated.{Family, Stated, plan, shared, cell, sender, no_sender, refused, stated_sheet}
use Rattle.answer.specs.declared.SheetFault.{SheetFault}
use Rattle.answer.specs.declared.SheetFault.TheVariants.{ShortSheet, StrangeMark, BadHead, NoSuchSite, NoSuchStation, Loop, BadPrice}
use Rattle.answer.specs.declared.SheetFault.TheVariants.{TooManyLegs, AfterTheEnd, Unheard}
use Rattle.sheet.specs.Verdict.{Verdict, good, bad, verdict}
use Rattle.records.specs.declared.record.Record.{Record}
use Rattle.lent_tables.specs.SheetTables.{SheetTables}
use Rattle.lent_tables.specs.Lengths.{AllLong}
use Rattle.opener.specs.Opening.{SheetOpening, sheet_opening}
use Rattle.opener.specs.laws.Cases.{opening_bad, opening_short, opening_good}
use Rattle.lent_tables.specs.declared.FurtherLengths.{FurtherLengths}
use Rattle.mission.specs.Runs.{Run, run_opened}
use Rattle.mission.specs.PointOne.{PlanOrRefusal, FirstDue}

-- the number of a refusal; what is no refusal has 0
abbrev pub number_in : Stated → ℕ
number_in (plan root cost count) = 0
number_in (cell cost) = 0
number_in (sender node) = 0
number_in no_sender = 0
number_in (shared root cost count rest) = 0
number_in (refused family number place) = number

-- one refusal has one number
pub same_number : {family family' : Family} {number number' place place' : ℕ} → refused family number place ≡ refused family' number' place' → number ≡ number'
same_number e = ap number_in e

-- a plan is no refusal
abbrev IsPlanned : Stated → Type 0
IsPlanned (plan root cost count) = Unit {0}
IsPlanned (cell cost) = ⊥
IsPlanned (sender node) = ⊥
IsPlanned no_sender = ⊥
IsPlanned (shared root cost count rest) = ⊥
IsPlanned (refused family number place) = ⊥

pub plan_not_refused : {root cost count : ℕ} {family : Family} {number place : ℕ} → plan root cost count ≡ refused family number place → ⊥
plan_not_refused e = subst IsPlanned e tt

pub refused_not_plan : {root cost count : ℕ} {family : Family} {number place : ℕ} → refused family number place ≡ plan root cost count → ⊥
refused_not_plan e = plan_not_refused (sym e)

-- what holds of the root, the total and the leg count of a plan
abbrev OfPlan : (ℕ → ℕ → ℕ → Type 0) → Stated → Type 0
OfPlan P (plan root cost count) = P root cost count
OfPlan P (cell cost) = Unit {0}
OfPlan P (sender node) = Unit {0}
OfPlan P no_sender = Unit {0}
OfPlan P (shared root cost count rest) = Unit {0}
OfPlan P (refused family number place) = Unit {0}

pub same_plan : (P : ℕ → ℕ → ℕ → Type 0) {root root' cost cost' count count' : ℕ} → plan root cost count ≡ plan root' cost' count'
    → P root cost count → P root' cost' count'
same_plan P e h = subst (OfPlan P) e h

-- what holds of the sites, the stations and the records of a good sheet
abbrev OfGood : (ℕ → ℕ → List Record → Type 0) → Verdict → Type 0
OfGood P (good n k records) = P n k records
OfGood P (bad fault) = Unit {0}

pub same_sheet : (P : ℕ → ℕ → List Record → Type 0) (sheet : List ℕ) {n n' k k' : ℕ} {records records' : List Record}
    → verdict sheet ≡ good n k records → verdict sheet ≡ good n' k' records' → P n k records → P n' k' records'
same_sheet P sheet e e' h = subst (OfGood P) (sym e ∙ e') h

-- the sheet's refusals
pub sheet_number : (fault : SheetFault) (family : Family) (number place : ℕ) → stated_sheet fault ≡ refused family number place → number ≤ unheard
sheet_number (ShortSheet p) family number place e = omega (arith, same_number e)
sheet_number (StrangeMark p) family number place e = omega (arith, same_number e)
sheet_number (BadHead p) family number place e = omega (arith, same_number e)
sheet_number (NoSuchSite p) family number place e = omega (arith, same_number e)
sheet_number (NoSuchStation p) family number place e = omega (arith, same_number e)
sheet_number (Loop p) family number place e = omega (arith, same_number e)
sheet_number (BadPrice p) family number place e = omega (arith, same_number e)
sheet_number (TooManyLegs p) family number place e = omega (arith, same_number e)
sheet_number (AfterTheEnd p) family number place e = omega (arith, same_number e)
sheet_number (Unheard p) family number place e = omega (arith, same_number e)

pub sheet_refusal : (May : ℕ → Type 0) → ((number : ℕ) → short_sheet ≤ number → number ≤ unheard → May number)
    → (fault : SheetFault) → PlanOrRefusal May (stated_sheet fault)
sheet_refusal May may (ShortSheet p) = (may short_sheet (omega arith) (omega arith), refl)
sheet_refusal May may (StrangeMark p) = (may strange_mark (omega arith) (omega arith), refl)
sheet_refusal May may (BadHead p) = (may bad_head (omega arith) (omega arith), refl)
sheet_refusal May may (NoSuchSite p) = (may no_such_site (omega arith) (omega arith), refl)
sheet_refusal May may (NoSuchStation p) = (may no_such_station (omega arith) (omega arith), refl)
sheet_refusal May may (Loop p) = (may loop (omega arith) (omega arith), refl)
sheet_refusal May may (BadPrice p) = (may bad_price (omega arith) (omega arith), refl)
sheet_refusal May may (TooManyLegs p) = (may too_many_legs (omega arith) (omega arith), refl)
sheet_refusal May may (AfterTheEnd p) = (may after_the_end (omega arith) (omega arith), refl)
sheet_refusal May may (Unheard p) = (may unheard (omega arith) (omega arith), refl)

-- ---- what an entry point gives by its opening

module _ {Lent : Type 0} (s : List ℕ) (t : SheetTables) (f : FurtherLengths) (lent : Lent) (next : (n k : ℕ) → List Record → Run Lent) where
  -- 1 to 11 are given where they are due, if what is done with the sheet gives none of them
  pub first_due : ((n k : ℕ) (records : List Record) → verdict s ≡ good n k records → (family : Family) (number place : ℕ)
      → (next n k records).answer ≡ refused family number place → short_tables < number)
      → FirstDue s (λ n k m. AllLong n k m t f) (run_opened lent next (sheet_opening s t f)).answer
  first_due later = record {
    spoilt = λ fault e. ap (λ (o : SheetOpening). (run_opened lent next o).answer) (opening_bad s t f fault e);
    short = λ n k records e short. ap (λ (o : SheetOpening). (run_opened lent next o).answer) (opening_short s t f n k records e short);
    passed = λ n k records e long family number place same.
        later n k records e family number place (sym (ap (λ (o : SheetOpening). (run_opened lent next o).answer) (opening_good s t f n k records e long)) ∙ same);
  }
