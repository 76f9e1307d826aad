-- `search::fill` meets its contract.
-- Assumes nothing.
use Rattle.std.proofs.Common.{refl, ◌∙◌, arith, length-take-le}
use Rattle.search.specs.laws.Whole.{start_asked, some_set, sets_in, split_asked, close_asked, fill_start, fill_next, fill_end, relent_length}
use Rattle.search.proofs.fill.Goals as goal

pub start_rows-requires : goal.start_rows-requires
start_rows-requires c =
    start_asked c.requires.0 c.sets_of-size.ensures c.args.cells.now c.requires.2

pub loop-first-init : goal.loop-first-init
loop-first-init c =
    let p = c.requires in
    let is = c.sets_of-size.ensures in
    let rows = c.start_rows.ensures in
    let whole = (start_asked p.0 is c.args.cells.now p.2).2 in
    (omega arith, some_set p.0 is p.5, refl, rows.same_length ∙ whole, fill_start p.0 is p.5 whole rows)

pub split_rows-requires : goal.split_rows-requires
split_rows-requires c =
    let p = c.requires in
    let l = c.loop-first.invariant in
    split_asked p.0 c.sets_of-size.ensures p.5 c.end_of_size-last.ensures.range c.loop-first.cells l.3 l.0 l.4 (omega (arith, l.2, p.4))

pub close_sets-requires : goal.close_sets-requires
close_sets-requires c =
    let p = c.requires in
    let is = c.sets_of-size.ensures in
    let range = c.end_of_size-last.ensures.range in
    let lent = c.split_rows.auto.cells in
    (sets_in p.0 is p.5, range, p.6, close_asked p.0 is p.5 range c.loop-first.cells _ _ p.1 p.7 (length-take-le _ _ (omega (arith, lent, c.loop-first.invariant.2, p.3))) c.loop-first.invariant.3 c.loop-first.invariant.4 c.split_rows.ensures)

pub loop-first-preserved : goal.loop-first-preserved
loop-first-preserved c =
    let p = c.requires in
    let end = c.end_of_size-last.ensures in
    let l = c.loop-first.invariant in
    let next = fill_next p.0 c.sets_of-size.ensures p.5 end.range l.3 l.4 c.split_rows.ensures c.close_sets.ensures in
    let lent = c.split_rows.auto.by_set in
    let after = c.close_sets.new.lanes in
    let given = c.close_sets.auto.lanes in
    (omega (arith, end.rising), end.range.bound, relent_length _ _ after given (lent ∙ l.2) p.3, next.0, next.1)

pub returns : goal.returns
returns c =
    let p = c.requires in
    let l = c.loop-first.invariant in
    fill_end p.0 c.sets_of-size.ensures c.loop-first.cells p.5 c.loop-first-test.false l.1 l.3 l.4 c.finish.ensures
