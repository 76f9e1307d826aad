-- `shares::share_plan` meets its contract. The sheet is opened, and the file is read against the tables that hold it and divided.
-- Assumes nothing.
use Rattle.std.proofs.Common.{arith, length}
use Rattle.std.proofs.lemmas.Result.{err_from_is_err_and}
use Rattle.number_fields.specs.laws.FieldLaws.{known_bytes}
use Rattle.lent_tables.specs.SheetTables.{sheet_tables}
use Rattle.lent_tables.specs.Lengths.{share_lengths}
use Rattle.opener.specs.laws.Opened.{opened_sheet, opened_refusal}
use Rattle.network.proofs.HeldSheet.{opened_held}
use Rattle.mission.specs.Runs.{reader_tables}
use Rattle.shares.specs.SharesOf.{share_tables}
use Rattle.shares.specs.laws.Whole.{refusal_shared, whole_shared}
use Rattle.shares.proofs.share_plan.Goals as goal

pub share_file-requires : goal.share_file-requires
share_file-requires c =
    let a = c.args in
    let t = sheet_tables a.starts.now a.ends.now a.weights.now a.landings.now in
    let f = share_lengths (length a.marks.now) (length a.shares.now) in
    let bytes = known_bytes a.sheet.now (λ i. omega (arith, c.type_inv.sheet i)) in
    opened_held a.sheet.now bytes t _ f _ _ _ (opened_sheet a.sheet.now t _ f _ _ c.of_shares-further.ensures c.open_sheet.ensures _ _ _ c.in_ok-counts.was)

pub returns-in_err-counts : goal.returns-in_err-counts
returns-in_err-counts c =
    let a = c.args in
    let t = sheet_tables a.starts.now a.ends.now a.weights.now a.landings.now in
    let f = share_lengths (length a.marks.now) (length a.shares.now) in
    let p = err_from_is_err_and c.from_residual.result c.from_residual.ensures.1 in
    rw (p.1, p.2)
    (refusal_shared a.sheet.now a.file.now (share_tables (reader_tables t a.marks.now) a.shares.now)
    (opened_refusal a.sheet.now t _ f _ _ c.of_shares-further.ensures c.open_sheet.ensures _ c.in_err-counts.was))

pub returns : goal.returns
returns c =
    let a = c.args in
    let t = sheet_tables a.starts.now a.ends.now a.weights.now a.landings.now in
    let f = share_lengths (length a.marks.now) (length a.shares.now) in
    let bytes = known_bytes a.sheet.now (λ i. omega (arith, c.type_inv.sheet i)) in
    whole_shared a.sheet.now a.file.now (share_tables (reader_tables t a.marks.now) a.shares.now) bytes
    (opened_sheet a.sheet.now t _ f _ _ c.of_shares-further.ensures c.open_sheet.ensures _ _ _ c.in_ok-counts.was) _ _ _
    c.share_file.ensures.0 c.share_file.ensures.1.0 c.share_file.ensures.1.1
