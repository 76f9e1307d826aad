-- `desk::put_sheet` meets its contract: the text of the engine's answer, with the desk's tables, is the text of the sheet.
-- Assumes nothing.
use Rattle.std.proofs.Common.{arith}
use Rattle.number_fields.specs.laws.FieldLaws.{known_bytes}
use Rattle.desk_words.proofs.laws.Storing.{stored_same}
use Rattle.desk.proofs.laws.Answered.{zeros, zeros_desk, answered}
use Rattle.desk.proofs.put_sheet.Goals as goal

pub put_answer-requires : goal.put_answer-requires
put_answer-requires c =
    (answered _ (known_bytes c.args.sheet.now (λ i. omega (arith, c.type_inv.sheet i))) zeros zeros_desk _ _ c.plan_sheet-sent.ensures.0).listable

pub returns : goal.returns
returns c =
    let told = answered _ (known_bytes c.args.sheet.now (λ i. omega (arith, c.type_inv.sheet i))) zeros zeros_desk _ _ c.plan_sheet-sent.ensures.0 in
    record { stored = stored_same told.same c.put_answer.ensures.stored; upper_bound = omega (arith, c.put_answer.ensures.upper_bound, told.few) }
