-- The cases of an opening, one law each: a sheet that is not good, a table that is too short, and a good sheet with long enough tables; and what
-- holds in each of them holds of the opening.
-- Assumes nothing.
use Rattle.std.specs.Prelude.{ℕ, ◌≡◌, refl, Bool, true, false, cond, List, length}
use Rattle.std.proofs.Common.{sym, ap, ◌∙◌, subst, true≢false}
use Rattle.limits.specs.Refusals.{short_tables}
use Rattle.lists.specs.Tests.{by_test}
use Rattle.answer.specs.Stated.{refused, of_tables, stated_sheet}
use Rattle.answer.specs.declared.SheetFault.{SheetFault}
use Rattle.lent_tables.specs.SheetTables.{SheetTables}
use Rattle.records.specs.Arcs.{arcs}
use Rattle.sheet.specs.Verdict.{Verdict, good, bad, verdict}
use Rattle.records.specs.declared.record.Record.{Record}
use Rattle.lent_tables.specs.Lengths.{AllLong, are_long}
use Rattle.lent_tables.specs.laws.LengthLaws.{test_long, long_passes}
use Rattle.opener.specs.Opening.{SheetOpening, refuses, opens, by_verdict, sheet_opening}
use Rattle.lent_tables.specs.declared.FurtherLengths.{FurtherLengths}

module _ (s : List ℕ) (t : SheetTables) (f : FurtherLengths) where
  -- 1 to 10
  pub opening_bad : (fault : SheetFault) → verdict s ≡ bad fault → sheet_opening s t f ≡ refuses (stated_sheet fault)
  opening_bad fault e = ap (by_verdict (λ n k m. are_long n k m t f)) e

  module _ (n k : ℕ) (records : List Record) (e : verdict s ≡ good n k records) where
    by_lengths : (b : Bool) → are_long n k (length (arcs records)) t f ≡ b
        → sheet_opening s t f ≡ cond b (opens n k records) (refuses (refused of_tables short_tables 0))
    by_lengths b h =
        ap (by_verdict (λ n k m. are_long n k m t f)) e
        ∙ ap (λ (x : Bool). cond x (opens n k records) (refuses (refused of_tables short_tables 0))) h

    -- 11
    pub opening_short : (AllLong n k (length (arcs records)) t f → ⊥) → sheet_opening s t f ≡ refuses (refused of_tables short_tables 0)
    opening_short short =
        by_test (are_long n k (length (arcs records)) t f) (λ _. sheet_opening s t f ≡ refuses (refused of_tables short_tables 0))
        (λ h. absurd (short (test_long n k (length (arcs records)) t f h))) (λ h. by_lengths false h)

    -- the sheet
    pub opening_good : AllLong n k (length (arcs records)) t f → sheet_opening s t f ≡ opens n k records
    opening_good long = by_lengths true (long_passes n k (length (arcs records)) t f long)

  -- what holds in each case holds of the opening
  pub record OpeningCases (P : SheetOpening → Type 0) : Type 0 where
    pub spoilt : (fault : SheetFault) → verdict s ≡ bad fault → P (refuses (stated_sheet fault))
    pub short : (n k : ℕ) (records : List Record) → verdict s ≡ good n k records → (AllLong n k (length (arcs records)) t f → ⊥)
        → P (refuses (refused of_tables short_tables 0))
    pub long : (n k : ℕ) (records : List Record) → verdict s ≡ good n k records → AllLong n k (length (arcs records)) t f → P (opens n k records)

  pub by_opening_cases : (P : SheetOpening → Type 0) → OpeningCases P → P (sheet_opening s t f)
  by_opening_cases P cases = go (verdict s) refl
    where
      go : (v : Verdict) → verdict s ≡ v → P (sheet_opening s t f)
      go (bad fault) e = subst P (sym (opening_bad fault e)) (cases.spoilt fault e)
      go (good n k records) e =
          by_test (are_long n k (length (arcs records)) t f) (λ _. P (sheet_opening s t f))
          (λ h.
          let long = test_long n k (length (arcs records)) t f h in
          subst P (sym (opening_good n k records e long)) (cases.long n k records e long))
          (λ h.
          let short : AllLong n k (length (arcs records)) t f → ⊥ = λ long. true≢false (sym (long_passes n k (length (arcs records)) t f long) ∙ h) in
          subst P (sym (opening_short n k records e short)) (cases.short n k records e short))
