-- `file_tests::test_arcs` meets its contract.
-- Assumes nothing.
use Rattle.std.proofs.Common.{ℕ, ◌<◌, ◌≡◌, sym, ap, subst, arith}
use Rattle.std.proofs.lemmas.Result.{err_from_is_err_and}
use Rattle.planfile.specs.Format.{count_in}
use Rattle.file_tests.specs.Tested.{tested_as}
use Rattle.file_tests.proofs.laws.Faults.{arc_passed, arcs_passes, arcs_fault_lem}
use Rattle.file_tests.proofs.laws.Returned.{tested_failed}
use Rattle.file_tests.proofs.test_arcs.Goals as goal

pub returns-in_err-test_arc : goal.returns-in_err-test_arc
returns-in_err-test_arc c =
    let p = err_from_is_err_and c.from_residual.result c.from_residual.ensures.1 in
    let a = c.args in
    let i = c.loop-i.i in
    rw (p.1, p.2) (sym (ap tested_as (arcs_fault_lem a.arcs a.file.now i _ (subst (λ (m : ℕ). i < m) c.requires.0 c.loop-i-test.true)
    c.loop-i.invariant (tested_failed _ _ c.in_err-test_arc.ensures))))

pub returns : goal.returns
returns c =
    let a = c.args in
    let done : c.loop-i.i ≡ count_in a.file.now = omega (arith, c.requires.0) in
    sym (ap tested_as (arcs_passes a.arcs a.file.now (λ j l. arc_passed a.arcs a.file.now j (c.loop-i.invariant j (omega arith)))))
