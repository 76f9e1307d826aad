-- What a C function returns and leaves of a run: the number and the table `answer` of its answer, and everything else that was lent.
-- Assumes nothing.
use Rattle.std.specs.Prelude.{ℕ, List}
use Rattle.lists.specs.Over.{fit_over}
use Rattle.c_values.specs.Values.{number_of, values_of}
use Rattle.mission.specs.Runs.{Run}

-- what a call gives: the number that is returned, the table `answer`, and what else was lent, afterwards
pub record Call (Lent : Type 0) : Type 0 where
  pub number : ℕ
  pub answer : List ℕ
  pub after : Lent

abbrev pub call : {Lent : Type 0} → (number : ℕ) → (answer : List ℕ) → Lent → Call Lent
call number answer after = record { number = number; answer = answer; after = after }

-- a run, as a C function gives it to a caller with this table `answer`: the number and the values as in `Gives` of crate c_values
abbrev pub call_of : {Lent : Type 0} → Run Lent → (answer : List ℕ) → Call Lent
call_of r answer = call (number_of r.answer) (fit_over (values_of r.answer) answer) r.after
