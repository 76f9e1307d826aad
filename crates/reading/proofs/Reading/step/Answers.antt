-- `reading::Reading::step` meets its contract. What stands next is found in the part from the offset on, and a record that is found has room.
-- Assumes nothing.
use Rattle.std.proofs.Common.{arith, ◌≡◌, sym, ap, ◌∙◌, drop, Ok}
use Rattle.lists.specs.Rest.{take_rest}
use Rattle.reading.specs.Steps.{found_in}
use Rattle.reading.specs.laws.Found.{found_item}
use Rattle.reading.specs.laws.Room.{room_found}
use Rattle.reading.proofs.Reading.step.Goals as goal

pub after-requires : goal.after-requires
after-requires c =
    let is_found : c.found.result ≡ found_in c.args.self (drop c.args.self.offset c.args.sheet.now) = c.found.ensures ∙ ap (found_in c.args.self) (take_rest c.args.self.offset c.args.sheet.now) in
    room_found c.args.self c.args.sheet.now _ c.requires.0 c.requires.1 c.requires.2 (omega arith)
    (found_item c.args.self (drop c.args.self.offset c.args.sheet.now) _ (sym is_found ∙ c.in_ok-record.was ∙ ap Ok c.in-Some.is))
