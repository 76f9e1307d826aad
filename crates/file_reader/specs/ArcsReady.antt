-- What the reading of a file's legs asks of the file, the tables and the marks.
-- Assumes nothing.
use Rattle.std.specs.Prelude.{ℕ, ◌≤◌, ◌<◌, List, length}
use Rattle.limits.specs.Limits.{max_nodes, max_terminals, max_arcs}
use Rattle.lent_tables.specs.SheetTables.{SheetTables}
use Rattle.planfile.specs.Format.{file_size, arcs_to}
use Rattle.marking.specs.Links.{Within, Below}
use Rattle.plan_tests.specs.ByMarks.{ArcsBelow}

pub record ArcsReady (file : List ℕ) (root count k : ℕ) (t : SheetTables) (marks : List ℕ) : Type 0 where
  pub root_on : root < length marks
  pub few_nodes : length marks ≤ max_nodes
  pub whole : file_size count ≤ length file
  pub within : Within (length marks) (arcs_to file count) t.starts t.ends
  pub few_arcs : Below max_arcs (arcs_to file count)
  pub below : ArcsBelow file count (length t.weights)
  pub landed : length marks ≤ length t.landings
  pub terminals : k ≤ max_terminals
