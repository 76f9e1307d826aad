-- The landings of a sheet: each site's set of stations, and the stations that have a landing at all. A repeat counts once.
-- Assumes nothing.
use Rattle.std.specs.Prelude.{ℕ, ◌<◌, cond, eqb}
use mathlib.Core.List.{List, Memᴰ}
use Rattle.limits.specs.Limits.{max_terminals}
use Rattle.subset.specs.Sets.{empty, single}
use Rattle.subset.specs.Unions.{unions}
use Rattle.records.specs.declared.record.Record.{Record}
use Rattle.records.specs.declared.record.Record.TheVariants.{OneWay, BothWays, Landing, Sender}

-- a station has a landing among the records
abbrev pub Heard : ℕ → List Record → Type 0
Heard i records = (v : ℕ) × Memᴰ (Landing i v) records

-- the stations that have a landing at a site by one record
abbrev pub terminals_of : Record → ℕ → ℕ
terminals_of (OneWay start end weight) v = empty
terminals_of (BothWays start end weight) v = empty
terminals_of (Landing terminal node) v = cond (eqb node v) (single terminal) empty
terminals_of (Sender node) v = empty

-- a site's set of stations: those of all records, put together
abbrev pub terminals_at : List Record → ℕ → ℕ
terminals_at records v = unions (λ x. terminals_of x v) records

-- the stations that have a landing anywhere by one record
abbrev pub heard_by : Record → ℕ
heard_by (OneWay start end weight) = empty
heard_by (BothWays start end weight) = empty
heard_by (Landing terminal node) = single terminal
heard_by (Sender node) = empty

-- the stations that have a landing
abbrev pub heard : List Record → ℕ
heard records = unions heard_by records

-- the station of a landing is one of ten
abbrev pub LandsOne : Record → Type 0
LandsOne (OneWay start end weight) = Unit {0}
LandsOne (BothWays start end weight) = Unit {0}
LandsOne (Landing terminal node) = terminal < max_terminals
LandsOne (Sender node) = Unit {0}
