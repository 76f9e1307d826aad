-- The bytes of a text: words by the codes of their characters, and numbers in decimal.
-- Assumes nothing.
use Rattle.std.specs.Prelude.{ℕ, zero, suc, ◌+◌, ◌/◌, ◌%◌, true, false, List, [], ◌∷◌, ◌++◌, ltb}
use Prim.Native.Char.{code}
use Prim.Native.String.{String}
use Prim.Native.String.{[] as end-of-text, ◌∷◌ as ◌then◌}

-- the code of each character
abbrev pub ascii : String → List ℕ
ascii end-of-text = []
ascii (c then s) = code c ∷ ascii s

-- the digit d, below 10
abbrev pub digit : ℕ → List ℕ
digit d = (48 + d) ∷ []

-- a number in decimal: its last digit, after the digits of a tenth of it; more turns than the number change nothing
abbrev pub decimal_in : (turns : ℕ) → ℕ → List ℕ
decimal_in zero n = []
decimal_in (suc m) n = elim (ltb n 10) [ true ↦ digit n | false ↦ decimal_in m (n / 10) ++ digit (n % 10) ]

unfoldable pub decimal : ℕ → List ℕ
decimal n = decimal_in (suc n) n
