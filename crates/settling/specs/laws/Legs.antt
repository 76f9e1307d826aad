-- The legs that a search looks up, as a struct holds them: what is asked of them, and what they do to the cells, in the words of the laws.
-- Assumes nothing.
use Rattle.std.specs.Prelude.{ℕ, List}
use Rattle.lent_tables.specs.SheetTables.{SheetTables, arcs_alone}
use Rattle.lanes.specs.declared.Four.{Four}
use Rattle.working_none.specs.laws.Low.{entry}
use Rattle.settling.specs.declared.Legs.{Legs}
use Rattle.settling.specs.laws.Arcs.{start_of, end_of, weight_of}
use Rattle.settling.specs.laws.Lowered.{PassedTo, Settled}
use Rattle.settling.specs.laws.ByIndex.{Entries, NoneFalling, NextFalling, SomeArcs, OpenByIndex}
use Rattle.settling.specs.laws.Settling.{SettleAsked}

-- the tables of the legs alone
abbrev pub tables_of : Legs → SheetTables
tables_of l = arcs_alone l.starts.now l.ends.now l.weights.now

abbrev pub SomeLegs : Legs → (lanes : List ℕ) → Type 0
SomeLegs l = SomeArcs l.n l.starts.now l.weights.now l.index.now l.places.now

abbrev pub EntriesOf : Legs → (lanes : List ℕ) → (from end : ℕ) → Type 0
EntriesOf l = Entries l.starts.now l.weights.now l.index.now

-- none of the legs at the entries from `from` up to `end` gives its start less; or that at entry i is the first
abbrev pub NoLegFalls : Legs → (lanes : List ℕ) → (here : Four ℕ) → (from end : ℕ) → Type 0
NoLegFalls l = NoneFalling l.starts.now l.weights.now l.index.now

abbrev pub LegFalls : Legs → (lanes : List ℕ) → (here : Four ℕ) → (from end i : ℕ) → Type 0
LegFalls l = NextFalling l.starts.now l.weights.now l.index.now

abbrev pub OpenLeg : Legs → (lanes : List ℕ) → (i : ℕ) → Type 0
OpenLeg l = OpenByIndex l.n l.starts.now l.weights.now l.index.now l.places.now

abbrev pub PassedLegs : Legs → (count from : ℕ) → (before after : List ℕ) → Type 0
PassedLegs l count from =
    PassedTo count (start_of (tables_of l) l.index.now) (end_of (tables_of l) l.index.now) (weight_of (tables_of l) l.index.now) from count

abbrev pub LegsAsked : Legs → (lanes : List ℕ) → Type 0
LegsAsked l = SettleAsked l.n (tables_of l) l.index.now l.places.now

abbrev pub SettledLegs : Legs → (before after : List ℕ) → Type 0
SettledLegs l =
    Settled (entry l.places.now l.n) (start_of (tables_of l) l.index.now) (end_of (tables_of l) l.index.now) (weight_of (tables_of l) l.index.now)
