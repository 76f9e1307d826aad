-- The number of the interface: include/uldhvamm.h, the Rust wrapper and the Python package have the same number, and call a library only where
-- it gives that number.
-- Assumes nothing.
use Rattle.std.specs.Prelude.{ℕ}

abbrev pub interface : ℕ
interface = 3
