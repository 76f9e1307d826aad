-- `landing_entries::flags::flag_all` meets its contract. The loop's invariant: the first v sites are senders.
-- Assumes nothing.
use Rattle.std.proofs.Common.{get_or}
use Rattle.limits.specs.Limits.{sender_flag}
use Rattle.lists.specs.Values.{ValuesTo}
use Rattle.subset.specs.Sets.{union}
use Rattle.landing_entries.proofs.flags.flag_all.Given as goal

abbrev pub invariant-loop-v : goal.invariant-loop-v
invariant-loop-v l = ValuesTo (λ u. union (get_or l.initial.landings u 0) sender_flag) l.v l.initial.landings l.landings
