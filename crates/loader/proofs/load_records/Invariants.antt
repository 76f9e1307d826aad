-- `loader::load_records` meets its contract. The loop's invariant: the tables hold the records that have been read. The measure is the number of bytes left.
-- Assumes nothing.
use Rattle.std.proofs.Common.{◌+◌, ◌-◌, ◌≡◌, length}
use Rattle.lent_tables.specs.SheetTables.{sheet_tables}
use Rattle.records.specs.Records.{end_bytes}
use Rattle.loader.specs.laws.Loading.{Loading}
use Rattle.loader.proofs.load_records.Given as goal

abbrev pub invariant-loop-at : goal.invariant-loop-at
invariant-loop-at l =
    (l.end + length end_bytes ≡ length l.sheet) × Loading l.sheet (sheet_tables l.initial.starts l.initial.ends l.initial.weights l.initial.landings) l.at l.arcs (sheet_tables l.starts l.ends l.weights l.landings)
    × (length l.starts ≡ length l.initial.starts) × (length l.ends ≡ length l.initial.ends) × (length l.weights ≡ length l.initial.weights) × (length l.landings ≡ length l.initial.landings)

abbrev pub decreases-loop-at : goal.decreases-loop-at
decreases-loop-at l = length l.sheet - l.at
