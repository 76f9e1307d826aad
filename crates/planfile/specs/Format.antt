-- The plan file (document 01, "The plan file"): "`PN`, root (2), total (4), leg count (2); then per leg `LG`, leg number (2). Length: 10 + 4
-- times the count." The encoding of a root, a total and a list of legs, and the fields of a file.
-- Assumes nothing.
use Rattle.std.specs.Prelude.{ℕ, ◌+◌, ◌*◌, ◌^◌, Bool, cond, ◌&&◌, List, ◌++◌, map, length, ltb}
use Rattle.std.proofs.Math.Option.{Option, none, some}
use Rattle.limits.specs.Marks.{mark_pn, mark_lg}
use Rattle.lists.specs.Find.{all_of}
use Rattle.lists.specs.Joined.{joined}
use Rattle.lists.specs.Numbers.{numbers}
use Rattle.number_fields.specs.Fields.{number16, number32, bytes16, bytes32}

-- ---- the encoding

-- `PN`, root, total, leg count
abbrev pub head_bytes : (root total count : ℕ) → List ℕ
head_bytes root total count = bytes16 mark_pn ++ (bytes16 root ++ (bytes32 total ++ bytes16 count))

-- `LG`, leg number
abbrev pub arc_bytes : ℕ → List ℕ
arc_bytes e = bytes16 mark_lg ++ bytes16 e

-- the head, then a record for each leg
abbrev pub file_bytes : (root total : ℕ) → List ℕ → List ℕ
file_bytes root total arcs = head_bytes root total (length arcs) ++ joined arc_bytes arcs

-- whether a number fits two bytes, or four
abbrev pub two_bytes : ℕ → Bool
two_bytes x = ltb x (2 ^ 16)

abbrev pub four_bytes : ℕ → Bool
four_bytes x = ltb x (2 ^ 32)

-- each number fits its bytes: two for the root, the leg count and a leg number, four for the total
abbrev pub fits : (root total : ℕ) → List ℕ → Bool
fits root total arcs = two_bytes root && (four_bytes total && (two_bytes (length arcs) && all_of two_bytes arcs))

-- the file of a root, a total and a list of legs; there is none where a number does not fit
abbrev pub encoding : (root total : ℕ) → List ℕ → Option (List ℕ)
encoding root total arcs = cond (fits root total arcs) (some (file_bytes root total arcs)) none

-- ---- the fields of a file

-- how many bytes a file with so many legs has; record i starts where a file with i legs would end
abbrev pub file_size : ℕ → ℕ
file_size count = 10 + 4 * count

-- the root, the total and the leg count that stand in a file
abbrev pub root_in : List ℕ → ℕ
root_in file = number16 file 2

abbrev pub total_in : List ℕ → ℕ
total_in file = number32 file 4

abbrev pub count_in : List ℕ → ℕ
count_in file = number16 file 8

-- the mark and the leg number of record i
abbrev pub mark_at : List ℕ → ℕ → ℕ
mark_at file i = number16 file (file_size i)

abbrev pub listed_arc : List ℕ → ℕ → ℕ
listed_arc file i = number16 file (file_size i + 2)

-- the leg numbers of the first m records
abbrev pub arcs_to : List ℕ → ℕ → List ℕ
arcs_to file m = map (listed_arc file) (numbers 0 m)

-- the legs that the file lists
abbrev pub arcs_in : List ℕ → List ℕ
arcs_in file = arcs_to file (count_in file)
