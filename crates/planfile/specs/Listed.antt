-- The legs that a file lists, as a program holds them.
-- Assumes nothing.
use Rattle.std.specs.Prelude.{ℕ, List}
use Rattle.planfile.specs.Format.{arcs_to}
use Rattle.planfile.specs.declared.fields.Listing.{Listing}

abbrev pub arcs_of : Listing → List ℕ
arcs_of l = arcs_to l.file.now l.count
