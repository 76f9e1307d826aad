-- `opener::open_sheet` meets its contract. The sheet is judged, the lengths are tested, and the tables are loaded.
-- Assumes nothing.
use Rattle.std.proofs.Common.{sym, ◌∙◌, arith, ap}
use Rattle.number_fields.specs.laws.FieldLaws.{known_bytes}
use Rattle.answer.specs.declared.Refusal.{Refusal}
use Rattle.answer.specs.Stated.{stated_refusal}
use Rattle.lent_tables.specs.SheetTables.{sheet_tables}
use Rattle.opener.specs.Opening.{refusal, outcome}
use Rattle.opener.specs.laws.FromJudging.{few_terminals, loadable, sheet_loaded, tables_short}
use Rattle.opener.proofs.open_sheet.Goals as goal

pub long_enough-requires : goal.long_enough-requires
long_enough-requires c =
    let a = c.args in
    let t = sheet_tables a.starts.now a.ends.now a.weights.now a.landings.now in
    let bytes = known_bytes a.sheet.now (λ i. omega (arith, c.type_inv.sheet i)) in
    few_terminals a.sheet.now t a.further _ _ _ (sym c.in_ok-counts.was ∙ c.judge.ensures) bytes

pub load-requires : goal.load-requires
load-requires c =
    let a = c.args in
    let t = sheet_tables a.starts.now a.ends.now a.weights.now a.landings.now in
    let bytes = known_bytes a.sheet.now (λ i. omega (arith, c.type_inv.sheet i)) in
    loadable a.sheet.now t a.further _ _ _ (sym c.in_ok-counts.was ∙ c.judge.ensures) (sym c.long_enough.ensures ∙ c.if-not-long_enough.false) bytes

pub returns : goal.returns
returns c =
    let a = c.args in
    let t = sheet_tables a.starts.now a.ends.now a.weights.now a.landings.now in
    sheet_loaded a.sheet.now t a.further _ _ _ (sym c.in_ok-counts.was ∙ c.judge.ensures) (sym c.long_enough.ensures ∙ c.if-not-long_enough.false) _ c.load.ensures

pub returns-then-not-long_enough : goal.returns-then-not-long_enough
returns-then-not-long_enough c =
    let a = c.args in
    let t = sheet_tables a.starts.now a.ends.now a.weights.now a.landings.now in
    ap (λ (r : Refusal). outcome (refusal (stated_refusal r)) t) c.from.ensures
    ∙ tables_short a.sheet.now t a.further _ _ _ (sym c.in_ok-counts.was ∙ c.judge.ensures) (sym c.long_enough.ensures ∙ c.if-not-long_enough.true)
