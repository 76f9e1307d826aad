-- `landing_entries::flags::flag_all` meets its contract.
-- Assumes nothing.
use Rattle.std.proofs.Common.{ℕ, ap, arith}
use Rattle.limits.specs.Limits.{sender_flag}
use Rattle.lists.specs.Values.{no_values, next_value, later_value}
use Rattle.subset.specs.Sets.{union}
use Rattle.landing_entries.proofs.flags.flag_all.Goals as goal

pub loop-v-init : goal.loop-v-init
loop-v-init c = no_values

pub loop-v-preserved : goal.loop-v-preserved
loop-v-preserved c = next_value (omega (arith, c.loop-v.invariant.same_length)) (ap (λ (x : ℕ). union x sender_flag) (later_value (omega arith) c.loop-v.invariant)) c.loop-v.invariant
