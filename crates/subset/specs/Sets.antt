-- Sets of stations as numbers (document 01, "Subsets"): a set is a number below 2^k, and station i is worth 2^i. The size of a set is its
-- number of ones, `ones` of lib.Count.
-- Assumes nothing.
use Rattle.std.specs.Prelude.{ℕ, ◌-◌, ◌/◌, ◌%◌, ◌^◌, ◌≡◌, Bool, eqb}
use Rattle.std.specs.Int.Bits.{bit_and, bit_or}

-- the empty set
abbrev pub empty : ℕ
empty = 0

-- the full set for k stations
abbrev pub full : ℕ → ℕ
full k = 2 ^ k - 1

-- a single station's set
abbrev pub single : ℕ → ℕ
single i = 2 ^ i

-- station i is in w
abbrev pub has : ℕ → ℕ → Bool
has w i = eqb (w / 2 ^ i % 2) 1

-- y is a part of w ("Y within W"), and the test of it
abbrev pub Part : ℕ → ℕ → Type 0
Part y w = bit_and y w ≡ y

abbrev pub is_part : ℕ → ℕ → Bool
is_part y w = eqb (bit_and y w) y

-- the rest ("W without Y")
abbrev pub rest : ℕ → ℕ → ℕ
rest w y = w - bit_and w y

-- the stations of either set
abbrev pub union : ℕ → ℕ → ℕ
union a b = bit_or a b
