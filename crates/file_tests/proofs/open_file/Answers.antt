-- `file_tests::open_file` meets its contract. The head's fault is the file's, and so is that of a record where the head has none.
-- Assumes nothing.
use Rattle.std.proofs.lemmas.Result.{err_from_is_err_and}
use Rattle.file_tests.proofs.laws.Returned.{head_fault_opened, arcs_fault_opened, file_opened}
use Rattle.file_tests.proofs.open_file.Goals as goal

pub returns-in_err-head : goal.returns-in_err-head
returns-in_err-head c =
    let p = err_from_is_err_and c.from_residual.result c.from_residual.ensures.1 in
    let a = c.args in
    rw (p.1, p.2) (head_fault_opened a.n a.arcs a.file.now _ c.in_err-head.ensures)

pub returns-in_err-test_arcs : goal.returns-in_err-test_arcs
returns-in_err-test_arcs c =
    let p = err_from_is_err_and c.from_residual-in_err-test_arcs.result c.from_residual-in_err-test_arcs.ensures.1 in
    let a = c.args in
    rw (p.1, p.2) (arcs_fault_opened a.n a.arcs a.file.now _ c.in_ok-head.ensures _ c.in_err-test_arcs.ensures)

pub returns : goal.returns
returns c =
    let a = c.args in
    file_opened a.n a.arcs a.file.now _ c.in_ok-head.ensures c.in_ok-test_arcs.ensures
