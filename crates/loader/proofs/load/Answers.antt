-- `loader::load` meets its contract. The entries are cleared, the records are read, and the flags are those of the senders.
-- Assumes nothing.
use Rattle.std.proofs.Common.{ℕ, sym, ap, ◌∙◌, subst, List}
use Rattle.lent_tables.specs.SheetTables.{sheet_tables, with_landings}
use Rattle.records.specs.Records.{head_size}
use Rattle.sheet.specs.Verdict.{verdict}
use Rattle.loader.specs.laws.Loading.{Loading, read_by, loading_opened, loaded_flagged}
use Rattle.loader.proofs.load.Goals as goal

pub load_records-requires : goal.load_records-requires
load_records-requires c =
    let a = c.args in
    let t = sheet_tables a.starts.now a.ends.now a.weights.now a.landings.now in
    subst (λ (l : List ℕ). Loading a.sheet.now (with_landings l t) head_size 0 (with_landings l t)) (sym c.clear_landings.ensures)
    (loading_opened a.sheet.now a.n t c.requires)

pub returns : goal.returns
returns c =
    let a = c.args in
    let t = sheet_tables a.starts.now a.ends.now a.weights.now a.landings.now in
    let loaded = c.load_records.ensures in
    let clear = c.clear_landings.ensures in
    loaded_flagged a.sheet.now a.n t c.requires _ _
    (loaded ∙ ap (λ (l : List ℕ). read_by (verdict a.sheet.now) (with_landings l t)) clear) c.flag_unless_some.ensures
