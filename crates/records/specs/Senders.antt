-- The senders of a sheet (document 02, W-201): "A record `SR`, site (2 bytes), marks one; a sheet with none makes every site a sender, flagged alike.
-- The flag joins the site's landing entry as the value 1,024." A repeat counts once.
-- Assumes nothing.
use Rattle.std.specs.Prelude.{ℕ, Bool, true, false, not, ◌||◌, List, map, eqb}
use Rattle.lists.specs.Find.{any_of}
use Rattle.lists.specs.Numbers.{numbers}
use Rattle.landing_entries.specs.Entries.{entry_of}
use Rattle.records.specs.Landings.{terminals_at}
use Rattle.records.specs.declared.record.Record.{Record}
use Rattle.records.specs.declared.record.Record.TheVariants.{OneWay, BothWays, Landing, Sender}

-- a record is `SR`
abbrev pub is_licence : Record → Bool
is_licence (OneWay start end weight) = false
is_licence (BothWays start end weight) = false
is_licence (Landing terminal node) = false
is_licence (Sender node) = true

-- a record is `SR` with site v
abbrev pub names : ℕ → Record → Bool
names v (OneWay start end weight) = false
names v (BothWays start end weight) = false
names v (Landing terminal node) = false
names v (Sender node) = eqb node v

-- some `SR` names the site
abbrev pub is_named : List Record → ℕ → Bool
is_named records v = any_of (names v) records

-- a site is a sender: some `SR` names it, or there is none at all
abbrev pub is_sender : List Record → ℕ → Bool
is_sender records v = is_named records v || not (any_of is_licence records)

-- the landing entry of a site, and those of the sheet by site
abbrev pub landing_entry : List Record → ℕ → ℕ
landing_entry records v = entry_of (terminals_at records v) (is_sender records v)

abbrev pub landing_entries : ℕ → List Record → List ℕ
landing_entries n records = map (landing_entry records) (numbers 0 n)
