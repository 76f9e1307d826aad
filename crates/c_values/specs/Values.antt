-- What a C function returns and writes of an answer: a number, and values in the table `answer`.
-- Assumes nothing.
use Rattle.std.specs.Prelude.{ℕ, ◌≡◌, List, [], ◌∷◌}
use Rattle.lists.specs.Over.{fit_over}
use Rattle.answer.specs.Stated.{Stated, plan, shared, cell, sender, no_sender, refused}

-- the number that is returned: 0 for a plan, an acceptance, shares or an answer of the enquirer, else the refusal's number
abbrev pub number_of : Stated → ℕ
number_of (plan root cost count) = 0
number_of (shared root cost count rest) = 0
number_of (cell cost) = 0
number_of (sender node) = 0
number_of no_sender = 0
number_of (refused family number place) = number

-- the values: root, total and leg count, and with shares the unassigned sum; a cell as it stands in the table; a sender's site, or 2^64 − 1 for
-- "none"; the place of a refusal
abbrev pub values_of : Stated → List ℕ
values_of (plan root cost count) = root ∷ cost ∷ count ∷ []
values_of (shared root cost count rest) = root ∷ cost ∷ count ∷ rest ∷ []
values_of (cell cost) = cost ∷ []
values_of (sender node) = node ∷ []
values_of no_sender = 18446744073709551615 ∷ []
values_of (refused family number place) = place ∷ []

-- a C function that returns this number gives this answer to a caller with the table `answer`, which it leaves as `after`: as many of the values
-- as the table has entries for stand in its first entries, and its other entries are untouched
pub record Gives (s : Stated) (number : ℕ) (answer after : List ℕ) : Type 0 where
  pub returned : number ≡ number_of s
  pub values : after ≡ fit_over (values_of s) answer
