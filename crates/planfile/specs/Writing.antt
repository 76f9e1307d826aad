-- The writing of a plan file into a lent buffer: what is returned, and the buffer afterwards.
-- Assumes nothing.
use Rattle.std.specs.Prelude.{Result, Ok, Err, ℕ, cond, List, length, leb}
use Rattle.std.proofs.Math.Option.{Option, none, some}
use Rattle.lists.specs.Over.{over}
use Rattle.planfile.specs.Format.{encoding}
use Rattle.planfile.specs.declared.write.WriteFault.{WriteFault}
use Rattle.planfile.specs.declared.write.WriteFault.TheVariants.{ShortBuffer, NoFile}

-- what is returned, and the buffer afterwards
pub data Writing : Type 0 where
  writing : Result ℕ WriteFault → List ℕ → Writing

-- the file stands at the start of a buffer that is long enough, and bytes beyond it are untouched; a buffer that is too short is untouched,
-- and so is every buffer where there is no file
abbrev pub written_over : Option (List ℕ) → List ℕ → Writing
written_over none buffer = writing (Err NoFile) buffer
written_over (some file) buffer =
    cond (leb (length file) (length buffer)) (writing (Ok (length file)) (over file buffer)) (writing (Err ShortBuffer) buffer)

abbrev pub writing_of : (root total : ℕ) → List ℕ → List ℕ → Writing
writing_of root total arcs buffer = written_over (encoding root total arcs) buffer
