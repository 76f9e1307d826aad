-- The sublists of a list: what is left of it when some entries, or none, are taken out, in the list's order. Which lists are among them
-- is in Members.
-- Assumes nothing.
use Rattle.std.specs.Prelude.{List, [], ◌∷◌, ◌++◌, map}

module _ {A : Type 0} where
  -- all of them: with the first entry, and without it
  abbrev pub sublists : List A → List (List A)
  sublists [] = [] ∷ []
  sublists (x ∷ l) = map (λ s. x ∷ s) (sublists l) ++ sublists l
