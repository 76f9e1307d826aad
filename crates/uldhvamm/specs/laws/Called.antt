-- A call, from the run behind it.
-- Assumes nothing.
use Rattle.std.specs.Prelude.{ℕ, ◌≡◌, List}
use Rattle.std.proofs.Common.{ap, ◌∙◌}
use Rattle.answer.specs.Stated.{Stated}
use Rattle.c_values.specs.Values.{number_of, Gives}
use Rattle.mission.specs.Runs.{Run, run}
use Rattle.uldhvamm.specs.Returned.{call, call_of}

pub called : {Lent : Type 0} {s : Stated} {t : Lent} {R : Run Lent} {number : ℕ} {entries after : List ℕ}
    → run s t ≡ R → Gives s number entries after → call number after t ≡ call_of R entries
called {Lent} {s} {t} {R} {number} {entries} {after} e g =
    ap (λ (x : ℕ). call x after t) g.returned
    ∙ ap (λ (l : List ℕ). call (number_of s) l t) g.values
    ∙ ap (λ (r : Run Lent). call_of r entries) e
