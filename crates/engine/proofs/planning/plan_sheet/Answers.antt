-- `engine::planning::plan_sheet` meets its contract. The sheet is opened, and the plan is made over the tables that hold it.
-- Assumes nothing.
use Rattle.std.proofs.Common.{arith}
use Rattle.std.proofs.lemmas.Result.{err_from_is_err_and}
use Rattle.number_fields.specs.laws.FieldLaws.{known_bytes}
use Rattle.lent_tables.specs.SheetTables.{sheet_tables}
use Rattle.lent_tables.specs.IndexTables.{index_tables}
use Rattle.opener.specs.laws.Opened.{opened_sheet, opened_refusal}
use Rattle.network.proofs.HeldSheet.{opened_held}
use Rattle.mission.specs.Runs.{engine_tables, engine_further}
use Rattle.engine.specs.laws.Whole.{refusal_sent, whole_sent}
use Rattle.engine.specs.laws.PointThree.{cites_points}
use Rattle.engine.proofs.planning.plan_sheet.Goals as goal

pub plan_held-requires : goal.plan_held-requires
plan_held-requires c =
    let a = c.args in
    let t = sheet_tables a.starts.now a.ends.now a.weights.now a.landings.now in
    let lent = engine_tables t (index_tables a.by_end.now a.places.now) a.cells.now a.marks.now a.buffer.now in
    let bytes = known_bytes a.sheet.now (λ i. omega (arith, c.type_inv.sheet i)) in
    opened_held a.sheet.now bytes t _ (engine_further lent) _ _ _ (opened_sheet a.sheet.now t _ (engine_further lent) _ _ c.of_search-further.ensures c.open_sheet.ensures _ _ _ c.in_ok-counts.was)

pub returns-in_err-counts : goal.returns-in_err-counts
returns-in_err-counts c =
    let a = c.args in
    let t = sheet_tables a.starts.now a.ends.now a.weights.now a.landings.now in
    let lent = engine_tables t (index_tables a.by_end.now a.places.now) a.cells.now a.marks.now a.buffer.now in
    let bytes = known_bytes a.sheet.now (λ i. omega (arith, c.type_inv.sheet i)) in
    let p = err_from_is_err_and c.from_residual.result c.from_residual.ensures.1 in
    rw (p.1, p.2)
    (cites_points a.sheet.now bytes lent _ _ (refusal_sent a.sheet.now lent (opened_refusal a.sheet.now t _ (engine_further lent) _ _ c.of_search-further.ensures c.open_sheet.ensures _ c.in_err-counts.was)))

pub returns : goal.returns
returns c =
    let a = c.args in
    let t = sheet_tables a.starts.now a.ends.now a.weights.now a.landings.now in
    let lent = engine_tables t (index_tables a.by_end.now a.places.now) a.cells.now a.marks.now a.buffer.now in
    let bytes = known_bytes a.sheet.now (λ i. omega (arith, c.type_inv.sheet i)) in
    let filled = c.plan_held.ensures in
    cites_points a.sheet.now bytes lent _ _
    (whole_sent a.sheet.now lent bytes (opened_sheet a.sheet.now t _ (engine_further lent) _ _ c.of_search-further.ensures c.open_sheet.ensures _ _ _ c.in_ok-counts.was) _ _ _ _ _ filled.0 filled.1.0 filled.1.1.0 filled.1.1.1)
