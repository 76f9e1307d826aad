-- `arc_rows::mark_rows` meets its contract: whatever the rows are, the walk along them carries every marking.
-- Assumes nothing.
use Rattle.std.proofs.Common.{arith}
use Rattle.arc_rows.specs.laws.RowLaws.{zeros_below}
use Rattle.arc_rows.proofs.mark_rows.Goals as goal

pub walk-requires : goal.walk-requires
walk-requires c = (
  record { within = c.requires.2; linked = λ e t. omega (arith, c.requires.3 e t) },
  zeros_below _ 1024 (omega (arith, c.requires.0)),
  c.requires.0,
  omega (arith, c.requires.1),
)
