-- When all records of a sheet have been read, the flags are those of the named sites; where there is none, each site gets one. Then the tables hold
-- the sheet.
-- Assumes nothing.
use Rattle.std.specs.Prelude.{ℕ, ◌≤◌, ◌<◌, ◌≡◌, true, false, get_or}
use Rattle.std.proofs.Math.Path.{sym, ap}
use Rattle.std.proofs.Common.{◌∙◌, arith}
use mathlib.Core.List.{List}
use Rattle.limits.specs.Limits.{max_terminals, sender_flag}
use Rattle.lists.specs.Every.{Every}
use Rattle.lists.specs.Find.{any_of, any_same}
use Rattle.lists.specs.Numbers.{length_values, get_d_values, same_values}
use Rattle.lists.specs.Over.{over, over_over, get_d_over}
use Rattle.lists.specs.Tests.{by_test}
use Rattle.subset.specs.Sets.{union}
use Rattle.landing_entries.specs.Entries.{entry_of, sender_in, is_sender_at}
use Rattle.landing_entries.proofs.laws.EntryLaws.{sender_said, flag_joins}
use Rattle.landing_entries.specs.laws.Flags.{some_sender, all_flagged, flagged_unless_some}
use Rattle.landing_entries.proofs.laws.Flags.{none_flagged, some_flagged}
use Rattle.records.specs.Arcs.{arcs}
use Rattle.records.specs.Landings.{terminals_at}
use Rattle.records.specs.Records.{RecordOk}
use Rattle.records.specs.Senders.{is_licence, is_named, landing_entry, landing_entries}
use Rattle.records.proofs.laws.Entries.{joined_at, joined_entries, few_terminals, joined_entry}
use Rattle.records.proofs.laws.Senders.{some_named, sender_named, sender_any}
use Rattle.records.specs.declared.record.Record.{Record}
use Rattle.lent_tables.specs.SheetTables.{SheetTables, with_landings}
use Rattle.record_tables.specs.Loaded.{filled, loaded}
use Rattle.record_tables.specs.laws.Writing.{read_in}

module _ (n k : ℕ) (low : k ≤ max_terminals) (records : List Record) (each : Every (RecordOk n k) records) (old : List ℕ) where
  entries : List ℕ
  entries = over (joined_entries n records) old

  -- the entry of a site says its stations, and whether it is named
  entry_is : (v : ℕ) → v < n → get_or entries v 0 ≡ entry_of (terminals_at records v) (is_named records v)
  unfolding entries
  entry_is v h =
      get_d_over (joined_entries n records) old v 0 (omega (arith, length_values (joined_at records) 0 n))
      ∙ get_d_values (joined_at records) 0 n v 0 h ∙ ap (joined_at records) (omega arith) ∙ joined_entry n k low v records each

  -- some site has the flag exactly where some `SR` stands
  flags_are : some_sender n entries ≡ any_of is_licence records
  flags_are =
      any_same (is_sender_at entries) (is_named records) n
      (λ v h. ap sender_in (entry_is v h) ∙ sender_said (terminals_at records v) (few_terminals n k low v records each) (is_named records v))
      ∙ some_named n k records each

  -- with an `SR` the entries are those of the sheet
  entries_named : any_of is_licence records ≡ true → entries ≡ over (landing_entries n records) old
  unfolding entries
  entries_named e =
      ap (λ (l : List ℕ). over l old)
      (same_values (joined_at records) (landing_entry records) n
      (λ v h. joined_entry n k low v records each ∙ ap (entry_of (terminals_at records v)) (sym (sender_named records v e))))

  anew : over (landing_entries n records) entries ≡ over (landing_entries n records) old
  unfolding entries
  anew =
      over_over (landing_entries n records) (joined_entries n records) old
      (length_values (joined_at records) 0 n ∙ sym (length_values (landing_entry records) 0 n))

  -- without one they are where each site gets the flag
  entries_flagged : any_of is_licence records ≡ false → all_flagged n entries ≡ over (landing_entries n records) old
  entries_flagged e =
      ap (λ (l : List ℕ). over l entries)
      (same_values (λ v. union (get_or entries v 0) sender_flag) (landing_entry records) n
      (λ v h.
      ap (λ (x : ℕ). union x sender_flag) (entry_is v h)
      ∙ flag_joins (terminals_at records v) (is_named records v) (few_terminals n k low v records each)
      ∙ ap (entry_of (terminals_at records v)) (sym (sender_any records v e))))
      ∙ anew

  pub entries_loaded : flagged_unless_some n (over (joined_entries n records) old) ≡ over (landing_entries n records) old
  unfolding entries
  entries_loaded =
      by_test (any_of is_licence records) (λ _. flagged_unless_some n entries ≡ over (landing_entries n records) old)
      (λ e. some_flagged n entries (flags_are ∙ e) ∙ entries_named e)
      (λ e. none_flagged n entries (flags_are ∙ e) ∙ entries_flagged e)

-- the tables
pub flagged_loaded : (n k : ℕ) (records : List Record) (t : SheetTables) → k ≤ max_terminals → Every (RecordOk n k) records
    → with_landings (flagged_unless_some n (read_in n records t).landings) (read_in n records t) ≡ loaded n records t
unfolding read_in loaded
flagged_loaded n k records t low each =
    ap (λ (l : List ℕ). with_landings l (filled (arcs records) (joined_entries n records) t)) (entries_loaded n k low records each t.landings)
