-- `landing_entries::flags::flag_unless_some` meets its contract. The test of the flags decides.
-- Assumes nothing.
use Rattle.std.proofs.Common.{sym, ◌∙◌}
use Rattle.landing_entries.proofs.laws.Flags.{none_flagged, some_flagged, some_among}
use Rattle.landing_entries.proofs.flags.flag_unless_some.Goals as goal

pub returns : goal.returns
returns c =
    let a = c.args in
    c.flag_all.ensures
    ∙ sym (none_flagged a.n a.landings.now (some_among a.n a.landings.now c.requires _ c.has_sender.ensures ∙ c.if-has_sender.false))

pub returns-then-has_sender : goal.returns-then-has_sender
returns-then-has_sender c =
    let a = c.args in
    sym (some_flagged a.n a.landings.now (some_among a.n a.landings.now c.requires _ c.has_sender.ensures ∙ c.if-has_sender.true))
