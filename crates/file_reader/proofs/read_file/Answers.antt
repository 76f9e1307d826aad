-- `file_reader::read_file` meets its contract. The first n marks go to the reading of the listed legs.
-- Assumes nothing.
use Rattle.loaded_sheet.specs.Held.{tables_of}
use Rattle.file_reader.proofs.laws.Against.{arcs_ready, arcs_judged}
use Rattle.file_reader.proofs.read_file.Goals as goal

pub invariant_of-listed : goal.invariant_of-listed
invariant_of-listed c =
    let a = c.args in
    let m = a.sheet.counts in
    let t = tables_of a.sheet in
    record { whole = (arcs_ready m.n m.k m.arcs t a.marks.now a.file.now c.requires _ c.in_ok-head.ensures).whole }

pub read_arcs-requires : goal.read_arcs-requires
read_arcs-requires c =
    let a = c.args in
    let m = a.sheet.counts in
    let t = tables_of a.sheet in
    arcs_ready m.n m.k m.arcs t a.marks.now a.file.now c.requires _ c.in_ok-head.ensures

pub returns : goal.returns
returns c =
    let a = c.args in
    let m = a.sheet.counts in
    let t = tables_of a.sheet in
    arcs_judged m.n m.k m.arcs t a.marks.now a.file.now c.requires _ c.in_ok-head.ensures _ _ c.read_arcs.ensures.0 c.read_arcs.ensures.1
