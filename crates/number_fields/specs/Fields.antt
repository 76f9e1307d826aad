-- The fields of a record, of a sheet or of a plan file: unsigned numbers, highest byte first.
-- Assumes nothing.
use Rattle.std.specs.Prelude.{ℕ, ◌+◌, ◌*◌, ◌/◌, ◌%◌, ◌<◌, List, [], ◌∷◌, ◌++◌, get_or}
use Rattle.lists.specs.Every.{Every}

-- every entry is a byte
abbrev pub Bytes : List ℕ → Type 0
Bytes = Every (λ (b : ℕ). b < 256)

-- the number of one, two or four bytes that starts at a place
abbrev pub number8 : List ℕ → ℕ → ℕ
number8 bytes at = get_or bytes at 0

abbrev pub number16 : List ℕ → ℕ → ℕ
number16 bytes at = get_or bytes at 0 * 256 + get_or bytes (at + 1) 0

abbrev pub number32 : List ℕ → ℕ → ℕ
number32 bytes at = number16 bytes at * 65536 + number16 bytes (at + 2)

-- the two or four bytes of a number
abbrev pub bytes16 : ℕ → List ℕ
bytes16 x = x / 256 % 256 ∷ x % 256 ∷ []

abbrev pub bytes32 : ℕ → List ℕ
bytes32 x = bytes16 (x / 65536) ++ bytes16 (x % 65536)
