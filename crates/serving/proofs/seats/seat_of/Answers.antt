-- `serving::seats::seat_of` meets its contract.
-- Assumes nothing.
use Rattle.std.proofs.Common.{sym, ◌∙◌, arith, length}
use Rattle.serving.specs.Seats.{may_seat}
use Rattle.serving.specs.laws.Serving.{found_first, found_none}
use Rattle.serving.proofs.seats.seat_of.Goals as goal

pub returns-then-may_seat-clause-lowest : goal.returns-then-may_seat-clause-lowest
returns-then-may_seat-clause-lowest c =
    found_first _ _ c.loop-v.v c.loop-v-test.true (sym c.may_seat.ensures ∙ c.if-may_seat.true) c.loop-v.invariant

pub returns-clause-lowest : goal.returns-clause-lowest
returns-clause-lowest c =
    let a = c.args in
    found_none (may_seat a.marks.now a.landings.now a.i) (length a.marks.now) (λ j s. c.loop-v.invariant j (omega arith))
