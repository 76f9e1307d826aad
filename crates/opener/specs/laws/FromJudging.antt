-- From the judging of a sheet to its opening, as code goes: what is returned, and the tables afterwards, in each case.
-- Assumes nothing.
use Rattle.std.specs.Prelude.{ℕ, ◌≤◌, ◌≡◌, true, false, List, length, Ok, Err}
use Rattle.std.proofs.Common.{sym, ap, ap₂, ◌∙◌, subst, true≢false, arith}
use Rattle.limits.specs.Counts.{counts}
use Rattle.limits.specs.declared.Counts.{Counts}
use Rattle.limits.specs.Limits.{max_terminals}
use Rattle.limits.specs.Refusals.{short_tables}
use Rattle.answer.specs.Stated.{refused, of_tables, stated_sheet}
use Rattle.answer.specs.declared.SheetFault.{SheetFault}
use Rattle.number_fields.specs.Fields.{Bytes}
use Rattle.lent_tables.specs.SheetTables.{SheetTables}
use Rattle.records.specs.Arcs.{arcs}
use Rattle.sheet.specs.laws.Good.{IsSheet, good_is_sheet}
use Rattle.sheet.specs.laws.Judged.{judged_of}
use Rattle.sheet.specs.Verdict.{Verdict, good, bad, verdict}
use Rattle.loader.specs.LoadedBy.{loaded_by}
use Rattle.loader.specs.laws.Loading.{Loadable}
use Rattle.lent_tables.specs.Lengths.{AllLong, are_long}
use Rattle.lent_tables.specs.laws.LengthLaws.{test_long, long_passes}
use Rattle.opener.specs.Opening.{sheet, refusal, outcome, loaded_as, loading_of}
use Rattle.opener.specs.laws.GoodSheet.{GoodSheet}
use Rattle.opener.specs.laws.Cases.{opening_bad, opening_short, opening_good}
use Rattle.lent_tables.specs.declared.FurtherLengths.{FurtherLengths}

-- ---- the judging

-- a sheet that is judged good, or not
judged_good : (v : Verdict) (n k m : ℕ) → Ok (counts n k m) ≡ judged_of v → GoodSheet v n k m
judged_good (good n' k' records) n k m e =
    let same : counts n' k' (length (arcs records)) ≡ counts n k m = cc e in
    record { records = records; good_sheet = ap (λ (c : Counts). good c.n c.k records) same; count = ap (λ (c : Counts). c.arcs) same }
judged_good (bad f) n k m e = let z : ◌≡◌ {A = ℕ} 0 1 = cc in absurd (omega arith)

judged_bad : (v : Verdict) (f : SheetFault) → Err f ≡ judged_of v → v ≡ bad f
judged_bad (good n k records) f e = let z : ◌≡◌ {A = ℕ} 0 1 = cc in absurd (omega arith)
judged_bad (bad g) f e = let same : f ≡ g = cc in ap bad (sym same)

module _ (s : List ℕ) (t : SheetTables) (f : FurtherLengths) where
  -- 1 to 10
  pub sheet_refused : (fault : SheetFault) → Err fault ≡ judged_of (verdict s) → outcome (refusal (stated_sheet fault)) t ≡ loading_of s t f
  sheet_refused fault e = sym (ap (loaded_as t) (opening_bad s t f fault (judged_bad (verdict s) fault e)))

  module _ (n k m : ℕ) (e : Ok (counts n k m) ≡ judged_of (verdict s)) where
    judged : GoodSheet (verdict s) n k m
    judged = judged_good (verdict s) n k m e

    is_sheet : Bytes s → IsSheet s n k judged.records
    is_sheet bytes = good_is_sheet s bytes n k judged.records judged.good_sheet

    pub few_terminals : Bytes s → k ≤ max_terminals
    few_terminals bytes = (is_sheet bytes).terminals.1

    -- 11
    pub tables_short : are_long n k m t f ≡ false → outcome (refusal (refused of_tables short_tables 0)) t ≡ loading_of s t f
    tables_short h =
        sym (ap (loaded_as t) (opening_short s t f n k judged.records judged.good_sheet
        (λ long. true≢false (sym (long_passes n k m t f (subst (λ (i : ℕ). AllLong n k i t f) judged.count long)) ∙ h))))

    module _ (h : are_long n k m t f ≡ true) where
      long : AllLong n k (length (arcs judged.records)) t f
      long = subst (λ (i : ℕ). AllLong n k i t f) (sym judged.count) (test_long n k m t f h)

      pub loadable : Bytes s → Loadable s n t
      loadable bytes = record { k = k; records = judged.records; sheet = is_sheet bytes; long = long.tables }

      -- the sheet
      pub sheet_loaded : (t' : SheetTables) → t' ≡ loaded_by (verdict s) t → outcome (sheet n k m) t' ≡ loading_of s t f
      sheet_loaded t' written =
          ap₂ (λ (i : ℕ) (x : SheetTables). outcome (sheet n k i) x) (sym judged.count)
          (written ∙ ap (λ (v : Verdict). loaded_by v t) judged.good_sheet)
          ∙ sym (ap (loaded_as t) (opening_good s t f n k judged.records judged.good_sheet long))
