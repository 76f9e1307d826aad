-- `Choice::next` meets its contract: the ways without the highest station stand before those with it.
-- Assumes nothing.
use Rattle.std.proofs.Common.{arith}
use Rattle.subset_at.specs.laws.Choices.{product_le, with_le, ways_without, same_without, same_with, ways_with}
use Rattle.subset_at.proofs.Choice.next.Goals as goal

pub overflow_mul-with : goal.overflow_mul-with
overflow_mul-with c = omega (arith, product_le c.requires.0)

pub overflow_sub-without : goal.overflow_sub-without
overflow_sub-without c = let p = c.requires in with_le p.0 p.2

pub returns-then-self-without : goal.returns-then-self-without
returns-then-self-without c =
    let p = c.requires in
    let first = c.if-self-without.true in
    (ways_without p.0 p.2 first, omega (arith, same_without p.0 p.2 first), omega (arith, p.2))

pub returns : goal.returns
returns c =
    let p = c.requires in
    let later = c.if-self-without.false in
    (ways_with p.0 p.2 later, omega (arith, same_with p.0 p.2 later, c.single.ensures), omega (arith, p.2))
