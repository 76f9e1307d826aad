-- The records of a sheet: the fields of each, read from the bytes after its mark, the bytes that it takes, and its own tests.
-- Assumes nothing.
use Rattle.std.specs.Prelude.{ℕ, ◌≤◌, ◌<◌, ◌≡◌, cond, Option, Some, None, List, [], ◌∷◌, ◌++◌, length, ltb}
use Rattle.limits.specs.Limits.{min_weight, max_weight}
use Rattle.limits.specs.Marks.{mark_hd, mark_lk, mark_bk, mark_st, mark_sr, mark_ed}
use Rattle.lists.specs.Joined.{joined}
use Rattle.number_fields.specs.Fields.{number8, number16, number32, bytes16, bytes32}
use Rattle.records.specs.declared.fields.Head.{Head}
use Rattle.records.specs.declared.fields.Link.{Link}
use Rattle.records.specs.declared.fields.Landing.{Landing as LandingAt}
use Rattle.records.specs.declared.record.Record.{Record}
use Rattle.records.specs.declared.record.Record.TheVariants.{OneWay, BothWays, Landing, Sender}

-- `HD`: sites n (2 bytes), stations k (1)
abbrev pub head_in : List ℕ → Head
head_in bytes = record { n = number16 bytes 0; k = number8 bytes 2 }

abbrev pub head_fields : List ℕ → Option Head
head_fields bytes = cond (ltb (length bytes) 3) None (Some (head_in bytes))

-- `LK` and `BK`: from (2), to (2), price (4)
abbrev pub link_in : List ℕ → Link
link_in bytes = record { start = number16 bytes 0; end = number16 bytes 2; weight = number32 bytes 4 }

abbrev pub link_fields : List ℕ → Option Link
link_fields bytes = cond (ltb (length bytes) 8) None (Some (link_in bytes))

-- `ST`: station (1), site (2)
abbrev pub landing_in : List ℕ → LandingAt
landing_in bytes = record { terminal = number8 bytes 0; node = number16 bytes 1 }

abbrev pub landing_fields : List ℕ → Option LandingAt
landing_fields bytes = cond (ltb (length bytes) 3) None (Some (landing_in bytes))

-- `SR`: site (2)
abbrev pub sender_fields : List ℕ → Option ℕ
sender_fields bytes = cond (ltb (length bytes) 2) None (Some (number16 bytes 0))

-- the bytes of the head, of a record and of the end
abbrev pub head_bytes : ℕ → ℕ → List ℕ
head_bytes n k = bytes16 mark_hd ++ bytes16 n ++ (k ∷ [])

abbrev pub record_bytes : Record → List ℕ
record_bytes (OneWay start end weight) = bytes16 mark_lk ++ bytes16 start ++ bytes16 end ++ bytes32 weight
record_bytes (BothWays start end weight) = bytes16 mark_bk ++ bytes16 start ++ bytes16 end ++ bytes32 weight
record_bytes (Landing terminal node) = bytes16 mark_st ++ (terminal ∷ []) ++ bytes16 node
record_bytes (Sender node) = bytes16 mark_sr ++ bytes16 node

abbrev pub end_bytes : List ℕ
end_bytes = bytes16 mark_ed

-- how many bytes the head and a record take
abbrev pub head_size : ℕ
head_size = 5

abbrev pub size : Record → ℕ
size x = length (record_bytes x)

-- the bytes of several records, one after the other
abbrev pub records_bytes : List Record → List ℕ
records_bytes records = joined record_bytes records

-- and how many they are
abbrev pub sizes : List Record → ℕ
sizes records = length (records_bytes records)

-- ---- a record passes its own tests

-- the sites of a link are on the sheet and differ, and its price is in range
pub record LinkOk (n start end weight : ℕ) : Type 0 where
  pub start_below : start < n
  pub end_below : end < n
  pub apart : start ≡ end → ⊥
  pub low : min_weight ≤ weight
  pub high : weight ≤ max_weight

abbrev pub RecordOk : ℕ → ℕ → Record → Type 0
RecordOk n k (OneWay start end weight) = LinkOk n start end weight
RecordOk n k (BothWays start end weight) = LinkOk n start end weight
RecordOk n k (Landing terminal node) = (terminal < k) × (node < n)
RecordOk n k (Sender node) = node < n
