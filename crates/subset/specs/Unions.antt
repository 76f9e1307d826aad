-- The sets of several things put together, as one set: of the entries of a list, and of the numbers below n. Which stations it has, of two
-- lists one after the other, and with one entry more.
-- Assumes nothing.
use Rattle.std.specs.Prelude.{ℕ}
use mathlib.Core.List.{List, [], ◌∷◌}
use Rattle.lists.specs.Numbers.{numbers}
use Rattle.subset.specs.Sets.{empty, union}

module _ {A : Type 0} (set : A → ℕ) where
  -- the sets of the entries
  abbrev pub unions : List A → ℕ
  unions [] = empty
  unions (x ∷ l) = union (set x) (unions l)

-- ---- the numbers below n

abbrev pub union_to : ℕ → (ℕ → ℕ) → ℕ
union_to n f = unions f (numbers 0 n)
