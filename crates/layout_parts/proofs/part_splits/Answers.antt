-- `layout_parts::part_splits` meets its contract. Each return has the tests that led to it.
-- Assumes nothing.
use Rattle.std.proofs.Common.{ℕ, ◌+◌, ◌^◌, ◌≡◌, sym, ap, ap₂, ◌∙◌, inr, true, eqb}
use Rattle.lists.specs.Tests.{and_passes}
use Rattle.subset.specs.Sets.{is_part}
use Rattle.cost_table.specs.Cells.{cell_in}
use Rattle.layout_parts.specs.laws.PartTests.{none_no_split, rest_of}
use Rattle.layout_parts.proofs.part_splits.Goals as goal

pub returns-then-rest : goal.returns-then-rest
returns-then-rest c =
    let a = c.args in
    let part : is_part a.y.0 a.w.0 ≡ true = sym c.is_part_of.ensures ∙ c.if-not-is_part_of.false in
    let other = ap (cell_in a.cells.now (2 ^ a.k) a.v) (rest_of a.y.0 a.w.0 _ part c.without.ensures) in
    sym (none_no_split a.y.0 a.w.0 _ _ a.cost part c.requires.2
    (inr (sym (c.cell-rest.ensures ∙ other) ∙ c.if-rest.true)))

pub returns : goal.returns
returns c =
    let a = c.args in
    let part : is_part a.y.0 a.w.0 ≡ true = sym c.is_part_of.ensures ∙ c.if-not-is_part_of.false in
    let other = ap (cell_in a.cells.now (2 ^ a.k) a.v) (rest_of a.y.0 a.w.0 _ part c.without.ensures) in
    ap₂ (λ (x y : ℕ). eqb (x + y) a.cost) c.cell-part.ensures (c.cell-rest.ensures ∙ other) ∙ sym (and_passes _ _ part)
