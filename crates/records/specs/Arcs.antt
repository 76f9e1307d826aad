-- The legs of a sheet, in sheet order.
-- Assumes nothing.
use Rattle.std.specs.Prelude.{ℕ, List, [], ◌∷◌, get_or}
use Rattle.lists.specs.Joined.{joined}
use Rattle.records.specs.declared.record.Record.{Record}
use Rattle.records.specs.declared.record.Record.TheVariants.{OneWay, BothWays, Landing, Sender}

-- a leg: a one-way link from its start to its end, with a price in cents
pub record Arc : Type 0 where
  pub start : ℕ
  pub end : ℕ
  pub weight : ℕ

abbrev pub arc : ℕ → ℕ → ℕ → Arc
arc start end weight = record { start = start; end = end; weight = weight }

-- the legs of one record: `BK` gives two
abbrev pub arcs_of : Record → List Arc
arcs_of (OneWay start end weight) = arc start end weight ∷ []
arcs_of (BothWays start end weight) = arc start end weight ∷ arc end start weight ∷ []
arcs_of (Landing terminal node) = []
arcs_of (Sender node) = []

-- the legs of a list of records; a leg's number is its place in this list
abbrev pub arcs : List Record → List Arc
arcs records = joined arcs_of records

-- leg e of the records; past the legs a leg of zeros
abbrev pub arc_at : List Record → ℕ → Arc
arc_at records e = get_or (arcs records) e (arc 0 0 0)
