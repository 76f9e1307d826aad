-- The bytes and legs of two lists of records, one after the other, and of one record more.
-- Assumes nothing.
use Rattle.std.specs.Prelude.{◌+◌, ◌≤◌, ◌≡◌, List, [], ◌∷◌, ◌++◌, length}
use Rattle.std.proofs.Common.{ap, ◌∙◌, append-nil, arith, length-append}
use Rattle.lists.specs.Joined.{joined_append}
use Rattle.records.specs.Records.{record_bytes, records_bytes, sizes, size}
use Rattle.records.specs.Arcs.{Arc, arcs_of, arcs}
use Rattle.records.specs.declared.record.Record.{Record}
use Rattle.records.specs.declared.record.Record.TheVariants.{OneWay, BothWays, Landing, Sender}

-- a record's size is 4 or more
pub size_low : (x : Record) → 4 ≤ size x
size_low (OneWay start end weight) = omega arith
size_low (BothWays start end weight) = omega arith
size_low (Landing terminal node) = omega arith
size_low (Sender node) = omega arith

-- ---- two lists of records, one after the other

pub arcs_append : (a b : List Record) → arcs (a ++ b) ≡ arcs a ++ arcs b
arcs_append a b = joined_append arcs_of a b

pub sizes_append : (a b : List Record) → sizes (a ++ b) ≡ sizes a + sizes b
sizes_append a b = ap length (joined_append record_bytes a b) ∙ length-append (records_bytes a) (records_bytes b)

-- ---- one record more

pub arcs_more : (records : List Record) (x : Record) → arcs (records ++ (x ∷ [])) ≡ arcs records ++ arcs_of x
arcs_more records x = arcs_append records (x ∷ []) ∙ ap (λ (l : List Arc). arcs records ++ l) (append-nil (arcs_of x))

pub count_more : (records : List Record) (x : Record) → length (arcs (records ++ (x ∷ []))) ≡ length (arcs records) + length (arcs_of x)
count_more records x = ap length (arcs_more records x) ∙ length-append (arcs records) (arcs_of x)
