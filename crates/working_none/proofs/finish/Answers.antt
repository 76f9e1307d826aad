-- `working_none::finish` meets its contract.
-- Assumes nothing.
use Rattle.std.proofs.Common.{ℕ, ◌+◌, ◌<◌, ◌≤◌, ◌≡◌, List, length, set, ap, ◌∙◌, arith, rules}
use Rattle.lists.specs.Values.{ValuesTo, next_value, later_value, all_values}
use Rattle.working_none.specs.laws.WorkingNone.{finished}
use Rattle.working_none.specs.laws.Low.{entry}
use Rattle.working_none.proofs.finish.Goals as goal

next : {old l : List ℕ} {i x : ℕ} → i < length l → x ≡ finished (entry l i) → ValuesTo (λ j. finished (entry old j)) i old l
    → ValuesTo (λ j. finished (entry old j)) (i + 1) old (set l i x)
next {i = i} on is so_far = let here : i ≤ i = omega arith in next_value on (is ∙ ap finished (later_value here so_far)) so_far

pub loop-cost-preserved : goal.loop-cost-preserved
loop-cost-preserved c = next (omega arith) (search rules) c.loop-cost.invariant

pub returns : goal.returns
returns c = all_values {v = c.loop-cost.cost-index} (omega arith) (omega arith) c.loop-cost.invariant
