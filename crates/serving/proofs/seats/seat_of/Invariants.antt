-- `serving::seats::seat_of` meets its contract. The loop's invariant: no site before v may be the seat.
-- Assumes nothing.
use Rattle.std.proofs.Common.{ℕ, ◌<◌, ◌≡◌, false}
use Rattle.serving.specs.Seats.{may_seat}
use Rattle.serving.proofs.seats.seat_of.Given as goal

abbrev pub invariant-loop-v : goal.invariant-loop-v
invariant-loop-v l = (j : ℕ) → j < l.v → may_seat l.marks l.landings l.i j ≡ false
