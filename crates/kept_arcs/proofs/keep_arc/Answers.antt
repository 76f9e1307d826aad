-- `kept_arcs::keep_arc` meets its contract.
-- Assumes nothing.
use Rattle.std.proofs.Common.{arith}
use Rattle.kept_arcs.specs.laws.Kept.{kept_cheaper}
use Rattle.kept_arcs.proofs.keep_arc.Goals as goal

pub returns-then-is_parallel : goal.returns-then-is_parallel
returns-then-is_parallel c =
    let a = c.args in
    let found = c.is_parallel.ensures c.if-is_parallel.true in
    kept_cheaper a.starts.now a.weights.now a.kept.now a.e a.first a.count _ _ found.0 found.1 (omega (arith, found.1, c.requires.4)) found.2 c.cheaper.ensures
