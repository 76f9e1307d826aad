-- `plan_reader::read::read_plan` meets its contract. The sheet is opened, and the file is read against the tables that hold it.
-- Assumes nothing.
use Rattle.std.proofs.Common.{arith, length}
use Rattle.std.proofs.lemmas.Result.{err_from_is_err_and}
use Rattle.number_fields.specs.laws.FieldLaws.{known_bytes}
use Rattle.lent_tables.specs.SheetTables.{sheet_tables}
use Rattle.lent_tables.specs.Lengths.{marks_only}
use Rattle.opener.specs.laws.Opened.{opened_sheet, opened_refusal}
use Rattle.network.proofs.HeldSheet.{opened_held}
use Rattle.mission.specs.Runs.{reader_tables}
use Rattle.plan_reader.specs.laws.Whole.{refusal_read, whole_read}
use Rattle.plan_reader.specs.laws.PointOne.{cites_points}
use Rattle.plan_reader.proofs.read.read_plan.Goals as goal

pub read_file-requires : goal.read_file-requires
read_file-requires c =
    let a = c.args in
    let t = sheet_tables a.starts.now a.ends.now a.weights.now a.landings.now in
    let f = marks_only (length a.marks.now) in
    let bytes = known_bytes a.sheet.now (λ i. omega (arith, c.type_inv.sheet i)) in
    opened_held a.sheet.now bytes t _ f _ _ _ (opened_sheet a.sheet.now t _ f _ _ c.of_marks-further.ensures c.open_sheet.ensures _ _ _ c.in_ok-counts.was)

pub returns-in_err-counts : goal.returns-in_err-counts
returns-in_err-counts c =
    let a = c.args in
    let t = sheet_tables a.starts.now a.ends.now a.weights.now a.landings.now in
    let f = marks_only (length a.marks.now) in
    let file_bytes_lem = known_bytes a.file.now (λ i. omega (arith, c.type_inv.file i)) in
    let p = err_from_is_err_and c.from_residual.result c.from_residual.ensures.1 in
    rw (p.1, p.2)
    (cites_points a.sheet.now a.file.now file_bytes_lem (reader_tables t a.marks.now) _ _
    (refusal_read a.sheet.now a.file.now (reader_tables t a.marks.now) (opened_refusal a.sheet.now t _ f _ _ c.of_marks-further.ensures c.open_sheet.ensures _ c.in_err-counts.was)))

pub returns : goal.returns
returns c =
    let a = c.args in
    let t = sheet_tables a.starts.now a.ends.now a.weights.now a.landings.now in
    let f = marks_only (length a.marks.now) in
    let bytes = known_bytes a.sheet.now (λ i. omega (arith, c.type_inv.sheet i)) in
    let file_bytes_lem = known_bytes a.file.now (λ i. omega (arith, c.type_inv.file i)) in
    cites_points a.sheet.now a.file.now file_bytes_lem (reader_tables t a.marks.now) _ _
    (whole_read a.sheet.now a.file.now (reader_tables t a.marks.now) bytes (opened_sheet a.sheet.now t _ f _ _ c.of_marks-further.ensures c.open_sheet.ensures _ _ _ c.in_ok-counts.was) _ _ c.read_file.ensures.0 c.read_file.ensures.1)
