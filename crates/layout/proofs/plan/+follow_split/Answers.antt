-- `layout::plan::follow` and `split` meet their contracts.
-- Assumes nothing.
use Rattle.layout_walk.specs.laws.Walking.{walked_stored, done_stored, stuck_falls}
use Rattle.layout.specs.laws.Splitting.{first_placed, first_falls, others_placed, others_falls, both_stored}
use Rattle.layout.proofs.plan.+follow_split.Goals as goal

pub follow-split-requires : goal.follow-split-requires
follow-split-requires t c =
    let (walked, unfollowed) = c.in-Stuck.ensures in
    (stuck_falls _ _ _ _ _ _ _ _ _ walked t c.decreases, (c.requires.0, walked.placed, unfollowed))

pub follow-returns-in-Done : goal.follow-returns-in-Done
follow-returns-in-Done t c =
    let (walked, done) = c.in-Done.ensures in
    done_stored _ _ _ _ _ _ _ _ _ walked c.requires.0.finished done

pub follow-returns-in-Stuck : goal.follow-returns-in-Stuck
follow-returns-in-Stuck t c = walked_stored _ _ _ _ _ _ _ _ _ c.in-Stuck.ensures.0 _ _ c.split.ensures

pub split-follow-mid-requires : goal.split-follow-mid-requires
split-follow-mid-requires t c =
    let out = c.args.out.now in
    let (ready, placed, unfollowed) = c.requires in
    let part = c.in-Some.ensures in
    (first_falls ready out placed unfollowed part t c.decreases, (ready, first_placed ready out placed unfollowed part))

pub split-follow-requires : goal.split-follow-requires
split-follow-requires t c =
    let out = c.args.out.now in
    let (ready, placed, unfollowed) = c.requires in
    let part = c.in-Some.ensures in
    let others = c.without-rest.ensures in (
      others_falls ready out placed unfollowed part others t c.decreases,
      (ready, others_placed ready out placed unfollowed part others c.follow-mid.ensures),
    )

pub split-returns-in-Some : goal.split-returns-in-Some
split-returns-in-Some t c =
    let (ready, placed, unfollowed) = c.requires in
    both_stored ready c.args.out.now placed unfollowed c.in-Some.ensures c.without-rest.ensures c.follow-mid.ensures c.follow.ensures
