-- `desk::desk_text` meets its contract: too many bytes have their own text, and any other input is a sheet.
-- Assumes nothing.
use Rattle.desk.proofs.laws.Input.{too_long, short_enough}
use Rattle.desk.proofs.desk_text.Goals as goal

pub returns-then-input-gt-MAX_BYTES : goal.returns-then-input-gt-MAX_BYTES
returns-then-input-gt-MAX_BYTES c = too_long c.args.input.now c.if-input-gt-MAX_BYTES.true c.put_word.ensures

pub returns : goal.returns
returns c = short_enough c.args.input.now c.if-input-gt-MAX_BYTES.false c.put_sheet.ensures.stored c.put_sheet.ensures.upper_bound
