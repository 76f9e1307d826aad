-- What loaded tables say, entry by entry: the legs in order, each site's stations and whether it is a sender, and past them what stood there before.
-- Assumes nothing.
use Rattle.std.specs.Prelude.{ℕ, ◌≤◌, ◌<◌, ◌≡◌, List, map, length, get_or}
use Rattle.std.proofs.Math.Path.{ap}
use Rattle.std.proofs.Common.{◌∙◌, arith}
use Rattle.std.proofs.lemmas.List.{length-map}
use Rattle.std.proofs.Math.ListN.{get_or-map}
use Rattle.limits.specs.Limits.{max_terminals}
use Rattle.lists.specs.Every.{Every}
use Rattle.lists.specs.Numbers.{length_values, get_d_values}
use Rattle.lists.specs.Over.{over, get_d_over, get_d_later}
use Rattle.landing_entries.specs.Entries.{terminals_in, sender_in}
use Rattle.landing_entries.proofs.laws.EntryLaws.{terminals_said, sender_said}
use Rattle.records.specs.Arcs.{Arc, arc, arcs, arc_at}
use Rattle.records.specs.Landings.{terminals_at}
use Rattle.records.specs.Senders.{is_sender, landing_entry, landing_entries}
use Rattle.records.specs.Records.{RecordOk}
use Rattle.records.proofs.laws.Entries.{few_terminals}
use Rattle.records.specs.declared.record.Record.{Record}
use Rattle.lent_tables.specs.SheetTables.{SheetTables}
use Rattle.record_tables.specs.Loaded.{loaded}

module _ (n : ℕ) (records : List Record) (t : SheetTables) where
  column_held : (f : Arc → ℕ) (old : List ℕ) (i : ℕ) → i < length (arcs records)
      → get_or (over (map f (arcs records)) old) i (f (arc 0 0 0)) ≡ f (arc_at records i)
  column_held f old i h =
      get_d_over (map f (arcs records)) old i (f (arc 0 0 0)) (omega (arith, length-map (arcs records) f)) ∙ get_or-map f (arcs records) i (arc 0 0 0)

  column_later : (f : Arc → ℕ) (old : List ℕ) (i : ℕ) → length (arcs records) ≤ i → get_or (over (map f (arcs records)) old) i 0 ≡ get_or old i 0
  column_later f old i h = get_d_later (map f (arcs records)) old i 0 (omega (arith, length-map (arcs records) f))

  -- the first entries
  module _ (i : ℕ) (h : i < length (arcs records)) where
    pub start_held : get_or (loaded n records t).starts i 0 ≡ (arc_at records i).start
    unfolding loaded
    start_held = column_held (λ a. a.start) t.starts i h

    pub end_held : get_or (loaded n records t).ends i 0 ≡ (arc_at records i).end
    unfolding loaded
    end_held = column_held (λ a. a.end) t.ends i h

    pub weight_held : get_or (loaded n records t).weights i 0 ≡ (arc_at records i).weight
    unfolding loaded
    weight_held = column_held (λ a. a.weight) t.weights i h

  pub landing_held : (v : ℕ) → v < n → get_or (loaded n records t).landings v 0 ≡ landing_entry records v
  unfolding loaded
  landing_held v h =
      get_d_over (landing_entries n records) t.landings v 0 (omega (arith, length_values (landing_entry records) 0 n))
      ∙ get_d_values (landing_entry records) 0 n v 0 h ∙ ap (landing_entry records) (omega arith)

  -- the entry of a site says its set of stations, and whether it is a sender
  module _ (k : ℕ) (b : k ≤ max_terminals) (each : Every (RecordOk n k) records) (v : ℕ) (h : v < n) where
    pub terminals_held : terminals_in (get_or (loaded n records t).landings v 0) ≡ terminals_at records v
    terminals_held =
        ap terminals_in (landing_held v h) ∙ terminals_said (terminals_at records v) (few_terminals n k b v records each) (is_sender records v)

    pub sender_held : sender_in (get_or (loaded n records t).landings v 0) ≡ is_sender records v
    sender_held = ap sender_in (landing_held v h) ∙ sender_said (terminals_at records v) (few_terminals n k b v records each) (is_sender records v)

  -- later entries are untouched
  module _ (i : ℕ) (h : length (arcs records) ≤ i) where
    pub start_later : get_or (loaded n records t).starts i 0 ≡ get_or t.starts i 0
    unfolding loaded
    start_later = column_later (λ a. a.start) t.starts i h

    pub end_later : get_or (loaded n records t).ends i 0 ≡ get_or t.ends i 0
    unfolding loaded
    end_later = column_later (λ a. a.end) t.ends i h

    pub weight_later : get_or (loaded n records t).weights i 0 ≡ get_or t.weights i 0
    unfolding loaded
    weight_later = column_later (λ a. a.weight) t.weights i h

  pub landing_later : (v : ℕ) → n ≤ v → get_or (loaded n records t).landings v 0 ≡ get_or t.landings v 0
  unfolding loaded
  landing_later v h = get_d_later (landing_entries n records) t.landings v 0 (omega (arith, length_values (landing_entry records) 0 n))
