-- What the tables and the plan buffer must have, so that the legs of a plan can be listed.
-- Assumes nothing.
use Rattle.std.specs.Prelude.{ℕ, ◌≤◌, ◌<◌, ◌≡◌, List, length}
use Rattle.answer.specs.Stated.{Stated, plan}
use Rattle.planfile.specs.Format.{file_size, listed_arc}

-- the file has so many records, and the tables have an entry for each leg that it lists
pub record ArcsHeld (file : List ℕ) (count : ℕ) (starts ends weights : List ℕ) : Type 0 where
  pub size : file_size count ≤ length file
  pub start_held : (i : ℕ) → i < count → listed_arc file i < length starts
  pub end_held : (i : ℕ) → i < count → listed_arc file i < length ends
  pub weight_held : (i : ℕ) → i < count → listed_arc file i < length weights

-- the legs of a plan are held
pub record Listable (s : Stated) (starts ends weights buffer : List ℕ) : Type 0 where
  pub held : (root cost count : ℕ) → s ≡ plan root cost count → ArcsHeld buffer count starts ends weights
