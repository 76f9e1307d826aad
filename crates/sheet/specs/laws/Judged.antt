-- What a whole-sheet reading returns: of a good sheet its sites, stations and number of legs, or the first refusal.
-- Assumes nothing.
use Rattle.std.specs.Prelude.{ℕ, ◌≡◌, List, length, Result, Ok, Err, None}
use Rattle.std.proofs.Common.{sym, ap, ◌∙◌}
use Rattle.limits.specs.Counts.{counts}
use Rattle.limits.specs.declared.Counts.{Counts}
use Rattle.answer.specs.declared.SheetFault.{SheetFault}
use Rattle.records.specs.Arcs.{arcs}
use Rattle.reading.specs.Steps.{step_of}
use Rattle.sheet.specs.Verdict.{Verdict, good, bad, verdict}
use Rattle.sheet.specs.laws.Underway.{Underway, ended, stopped}
use Rattle.reading.specs.declared.Reading.{Reading}

abbrev pub judged_of : Verdict → Result Counts SheetFault
judged_of (good n k records) = Ok (counts n k (length (arcs records)))
judged_of (bad fault) = Err fault

module _ (s : List ℕ) (r : Reading) (u : Underway s r) where
  -- the state at the end has what is returned of a good sheet
  pub judged_end : step_of r s ≡ Ok None → Ok (counts r.n r.k r.arcs) ≡ judged_of (verdict s)
  judged_end e = ap (λ (q : Reading). Ok (counts q.n q.k q.arcs)) u.state ∙ ap judged_of (sym (ended s r u e))

  pub judged_fault_lem : (f : SheetFault) → step_of r s ≡ Err f → Err f ≡ judged_of (verdict s)
  judged_fault_lem f e = ap judged_of (sym (stopped s r u f e))
