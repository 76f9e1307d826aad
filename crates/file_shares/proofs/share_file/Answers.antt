-- `file_shares::share_file` meets its contract: a refusal of the plan reader stays; an accepted file is divided.
-- Assumes nothing.
use Rattle.std.proofs.Common.{sym, ap, ◌∙◌}
use Rattle.answer.specs.Stated.{shared}
use Rattle.loaded_sheet.specs.Held.{tables_of}
use Rattle.file_shares.proofs.laws.Shared.{shares_part, plan_ready, some_plan, share_accepted}
use Rattle.file_shares.proofs.share_file.Goals as goal

pub invariant_of-listed : goal.invariant_of-listed
invariant_of-listed c =
    let a = c.args in
    let m = a.sheet.counts in
    let t = tables_of a.sheet in
    let (told, marks) = c.in_ok-plan.ensures in
    record { whole = (plan_ready m.n m.k m.arcs t a.marks.now a.shares.now a.file.now c.requires _ _ _ told _ c.read_file.auto.marks marks).whole }

pub divide-unassigned-requires : goal.divide-unassigned-requires
divide-unassigned-requires c =
    let a = c.args in
    let m = a.sheet.counts in
    let t = tables_of a.sheet in
    let (told, marks) = c.in_ok-plan.ensures in (
      some_plan m.n m.k m.arcs t a.marks.now a.shares.now a.file.now c.requires _ _ _ told _ c.read_file.auto.marks marks,
      sym (shares_part m.n m.k m.arcs t a.marks.now a.shares.now a.file.now c.requires),
    )

pub returns : goal.returns
returns c =
    let a = c.args in
    let m = a.sheet.counts in
    let t = tables_of a.sheet in
    let plan = c.in_ok-plan.plan in
    let (told, marks) = c.in_ok-plan.ensures in
    let (answer, shares) = share_accepted m.n m.k m.arcs t a.marks.now a.shares.now a.file.now c.requires _ _ _ told _ _
    (c.divide-unassigned.ensures _ _
    (plan_ready m.n m.k m.arcs t a.marks.now a.shares.now a.file.now c.requires _ _ _ told _ c.read_file.auto.marks marks)) in
    (ap (shared plan.root plan.total plan.arcs) c.from.ensures ∙ answer, (marks, shares))
