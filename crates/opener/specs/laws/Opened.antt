-- What is known where a sheet is opened or refused: by what the opener returned, and the tables afterwards.
-- Assumes nothing.
use Rattle.std.specs.Prelude.{ℕ, ◌≡◌, refl, List, Result, Ok, Err}
use Rattle.std.proofs.Common.{sym, ap, ◌∙◌, subst}
use Rattle.answer.specs.Stated.{stated_refusal}
use Rattle.answer.specs.declared.Refusal.{Refusal}
use Rattle.lent_tables.specs.SheetTables.{SheetTables, Long, long_same}
use Rattle.sheet.specs.Verdict.{verdict}
use Rattle.record_tables.specs.Loaded.{loaded}
use Rattle.record_tables.specs.laws.Writing.{loaded_lengths}
use Rattle.lent_tables.specs.Lengths.{AllLong}
use Rattle.opener.specs.Opening.{SheetOpening, refuses, opens, sheet_opening, Returned, sheet, refusal, returned, Outcome, outcome, loaded_as, loading_of}
use Rattle.opener.specs.laws.GoodSheet.{GoodSheet}
use Rattle.opener.specs.laws.Cases.{by_opening_cases}
use Rattle.lent_tables.specs.declared.FurtherLengths.{FurtherLengths}
use Rattle.limits.specs.declared.Counts.{Counts}
use Rattle.limits.specs.Counts.{counts}

-- a sheet that is opened, with n sites, k stations and m legs: it is good, all needed tables are long enough, and the tables hold it
pub record OpenedSheet (s : List ℕ) (before after : SheetTables) (f : FurtherLengths) (n k m : ℕ) : Type 0 where
  pub judged : GoodSheet (verdict s) n k m
  pub opening : sheet_opening s before f ≡ opens n k judged.records
  pub long : AllLong n k m before f
  pub holds : after ≡ loaded n judged.records before

-- after the loading the tables are still long enough
pub still_long : {s : List ℕ} {before after : SheetTables} {f : FurtherLengths} {n k m : ℕ} → OpenedSheet s before after f n k m → AllLong n k m after f
still_long {s} {before} {after} {f} {n} {k} {m} o = record {
  tables =
      subst (Long n m) (sym o.holds)
      (long_same (loaded_lengths n o.judged.records before (subst (λ (i : ℕ). Long n i before) (sym o.judged.count) o.long.tables)) o.long.tables);
  further = o.long.further;
}

-- ---- what the opener returned

module _ (s : List ℕ) (before after : SheetTables) (f : FurtherLengths) where
  -- what is known by what was returned
  abbrev Known : Returned → Type 0
  Known (sheet n k m) = OpenedSheet s before after f n k m
  Known (refusal r) = (sheet_opening s before f ≡ refuses r) × (after ≡ before)

  module _ (result : Returned) where
    -- where the opening is this one, and its outcome is that of the opener, that is known
    record Tells (o : SheetOpening) : Type 0 where
      pub to : sheet_opening s before f ≡ o → outcome result after ≡ loaded_as before o → Known result

    -- what is known of an outcome is known of one that is the same
    told : (other : Returned) (t : SheetTables) → outcome result after ≡ outcome other t → (after ≡ t → Known other) → Known result
    told other t same h = subst Known (sym (ap (λ (o : Outcome). o.result) same)) (h (ap (λ (o : Outcome). o.after) same))

    known : outcome result after ≡ loading_of s before f → Known result
    known e =
        (by_opening_cases s before f Tells
        (record {
          spoilt = λ fault bad_sheet. record { to = λ opening same. told _ _ same (λ kept. (opening, kept)) };
          short = λ n k records good_sheet too_short. record { to = λ opening same. told _ _ same (λ kept. (opening, kept)) };
          long = λ n k records good_sheet long. record {
            to = λ opening same.
                told _ _ same
                (λ held. record {
                  judged = record { records = records; good_sheet = good_sheet; count = refl };
                  opening = opening;
                  long = long;
                  holds = held;
                });
          };
        })
        ).to refl e

  -- as code has it: by the result of a call with lengths that are these
  module _ (result : Result Counts Refusal) (lengths : FurtherLengths) (same : lengths ≡ f) (e : outcome (returned result) after ≡ loading_of s before lengths) where
    gave : (r : Result Counts Refusal) → result ≡ r → Known (returned r)
    gave r is = known (returned r) (ap (λ (x : Result Counts Refusal). outcome (returned x) after) (sym is) ∙ e ∙ ap (loading_of s before) same)

    pub opened_sheet : (n k m : ℕ) → result ≡ Ok (counts n k m) → OpenedSheet s before after f n k m
    opened_sheet n k m is = gave (Ok (counts n k m)) is

    pub opened_refusal : (r : Refusal) → result ≡ Err r → (sheet_opening s before f ≡ refuses (stated_refusal r)) × (after ≡ before)
    opened_refusal r is = gave (Err r) is
