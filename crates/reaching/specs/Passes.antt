-- What a pass over the listed arcs gives, and what the passes come to.
-- Assumes nothing.
use Rattle.std.specs.Prelude.{ℕ, ◌<◌, ◌≡◌, Bool, true, false, not, List, T, eqb, get_or}
use Rattle.lists.specs.Count.{bit}
use Rattle.lists.specs.Listed.{listed}
use Rattle.lists.specs.Sums.{sum_to}
use Rattle.graph.specs.Graph.{Graph}
use Rattle.marking.specs.Marking.{Marked, Marking, Carried}
use Rattle.reaching.specs.Marks.{marks_of}

-- no listed arc leads from a marked node to one that is not marked
abbrev pub Settled : Graph → List ℕ → List ℕ → Type 0
Settled G L marks = (e : ℕ) → T (listed e L) → Marked marks (G.start e) → Marked marks (G.end e)

-- how many of the first n nodes are not marked
abbrev pub unmarked : ℕ → List ℕ → ℕ
unmarked n marks = sum_to n (λ v. bit (not (eqb (get_or marks v 0) 1)))

-- what a pass over the listed arcs gives: fewer unmarked nodes, or nothing left to mark
abbrev pub Progress : Graph → List ℕ → List ℕ → List ℕ → Bool → Type 0
Progress G L before after true = unmarked G.nodes after < unmarked G.nodes before
Progress G L before after false = (after ≡ before) × Settled G L after

-- a pass over the listed arcs that has gone over `seen`, with the answer so far whether it marked a node
pub record Passing (G : Graph) (L seen before after : List ℕ) (marked : Bool) : Type 0 where
  pub carried : Carried G L before after
  pub progress : Progress G seen before after marked

-- a pass over all of them
abbrev pub Passed : Graph → List ℕ → List ℕ → List ℕ → Bool → Type 0
Passed G L before after marked = Passing G L L before after marked

-- pass after pass, from a marking of any root: the marks are those of the definition
abbrev pub Completed : Graph → List ℕ → List ℕ → List ℕ → Type 0
Completed G L before after = (r : ℕ) → Marking G L r before → after ≡ marks_of G L r
