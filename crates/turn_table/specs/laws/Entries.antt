-- The entries of a table of turns, and the keys of turns.
-- Assumes nothing.
use Rattle.std.specs.Prelude.{ℕ, ◌^◌}

-- one for each of 1,024 nodes, for each 8 of them, for each 64, and for each 256
abbrev pub turn_entries : ℕ
turn_entries = 1172

-- above every sum of four costs
abbrev pub key_limit : ℕ
key_limit = 2 ^ 34
