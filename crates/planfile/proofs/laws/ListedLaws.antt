-- The leg of a record that a file has is one of those that it lists.
-- Assumes nothing.
use Rattle.std.specs.Prelude.{ℕ, ◌<◌, ◌≡◌, List, T}
use Rattle.std.proofs.Common.{sym, subst}
use Rattle.lists.specs.Listed.{listed}
use Rattle.lists.specs.Numbers.{value_in}
use Rattle.planfile.specs.Format.{listed_arc, arcs_to}

pub arc_listed : (file : List ℕ) (count i : ℕ) {e : ℕ} → i < count → e ≡ listed_arc file i → T (listed e (arcs_to file count))
arc_listed file count i l same = subst (λ (x : ℕ). T (listed x (arcs_to file count))) (sym same) (value_in (listed_arc file) count i l)
