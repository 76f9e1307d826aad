-- `loader::load_records` meets its contract.
-- Assumes nothing.
use Rattle.std.proofs.Common.{arith, rules}
use Rattle.lent_tables.specs.SheetTables.{sheet_tables}
use Rattle.loader.specs.laws.Loading.{loading_whole, loading_fits, loading_next, loading_end}
use Rattle.loader.proofs.load_records.Goals as goal

pub first_record-item-requires : goal.first_record-item-requires
first_record-item-requires c =
    let a = c.args in
    let t = sheet_tables a.starts.now a.ends.now a.weights.now a.landings.now in
    let u = sheet_tables c.loop-at.starts c.loop-at.ends c.loop-at.weights c.loop-at.landings in
    loading_whole a.sheet.now t c.loop-at.at c.loop-at.arcs u c.loop-at.invariant.1 (omega (arith, c.loop-at-test.true, c.loop-at.invariant.0))

pub put_record-requires : goal.put_record-requires
put_record-requires c =
    let a = c.args in
    let t = sheet_tables a.starts.now a.ends.now a.weights.now a.landings.now in
    let u = sheet_tables c.loop-at.starts c.loop-at.ends c.loop-at.weights c.loop-at.landings in
    loading_fits a.sheet.now t c.loop-at.at c.loop-at.arcs u c.loop-at.invariant.1 (omega (arith, c.loop-at-test.true, c.loop-at.invariant.0)) _ c.first_record-item.ensures

pub loop-at-preserved : goal.loop-at-preserved
loop-at-preserved c =
    let a = c.args in
    let t = sheet_tables a.starts.now a.ends.now a.weights.now a.landings.now in
    let u = sheet_tables c.loop-at.starts c.loop-at.ends c.loop-at.weights c.loop-at.landings in (
      c.loop-at.invariant.0,
      loading_next a.sheet.now t c.loop-at.at c.loop-at.arcs u c.loop-at.invariant.1 (omega (arith, c.loop-at-test.true, c.loop-at.invariant.0)) _ c.first_record-item.ensures _ _ c.size-at.ensures c.arc_count-arcs.ensures _ c.put_record.ensures,
      search rules,
      search rules,
      search rules,
      search rules,
    )

pub returns : goal.returns
returns c =
    let a = c.args in
    let t = sheet_tables a.starts.now a.ends.now a.weights.now a.landings.now in
    let u = sheet_tables c.loop-at.starts c.loop-at.ends c.loop-at.weights c.loop-at.landings in
    loading_end a.sheet.now t c.loop-at.at c.loop-at.arcs u c.loop-at.invariant.1 (omega (arith, c.loop-at-test.false, c.loop-at.invariant.0))
