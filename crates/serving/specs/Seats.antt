-- The seat of a terminal by the marks and the landing entries: the lowest marked node where it is heard. The terminals that sit at or below each node,
-- as a table of sets.
-- Assumes nothing.
use Rattle.std.specs.Prelude.{Some, None, ℕ, ◌<◌, ◌≡◌, Bool, false, ◌&&◌, ◌||◌, List, eqb, ltb, length, get_or}
use Rattle.std.proofs.Math.Option.{Option, none, some}
use Rattle.lists.specs.Find.{first}
use Rattle.subset.specs.Sets.{has}
use Rattle.landing_entries.specs.Entries.{terminals_in}
use Rattle.serving.specs.Parents.{Ways}

-- a number that was found in code, or none
abbrev pub found_at : Rattle.std.specs.Prelude.Option ℕ → Option ℕ
found_at (Some v) = some v
found_at None = none

-- node v is marked, and terminal i is heard there
abbrev pub may_seat : (marks landings : List ℕ) (i v : ℕ) → Bool
may_seat marks landings i v = eqb (get_or marks v 0) 1 && has (terminals_in (get_or landings v 0)) i

abbrev pub seat_in : (marks landings : List ℕ) (i : ℕ) → Option ℕ
seat_in marks landings i = first (may_seat marks landings i) (length marks)

-- node u is above a seat
abbrev pub is_above_seat : {parents : List ℕ} → Ways parents → ℕ → Option ℕ → Bool
is_above_seat ways u none = false
is_above_seat ways u (some seat) = ways.is_above u seat

-- terminal i is entered at each node above its seat
pub record TerminalEnteredBy (parents : List ℕ) (ways : Ways parents) (marks landings : List ℕ) (i : ℕ) (before after : List ℕ) : Type 0 where
  pub size : length after ≡ length before
  pub at : (u : ℕ) → u < length before → (j : ℕ)
      → has (get_or after u 0) j ≡ (has (get_or before u 0) j || (eqb i j && is_above_seat ways u (seat_in marks landings i)))

abbrev pub TerminalEntered : (parents marks landings : List ℕ) (i : ℕ) (before after : List ℕ) → Type 0
TerminalEntered parents marks landings i before after = (ways : Ways parents) → TerminalEnteredBy parents ways marks landings i before after

-- no terminal is entered
abbrev pub NoneServed : List ℕ → Type 0
NoneServed served = (u : ℕ) → u < length served → get_or served u 0 ≡ 0

-- the table has for each node those of the first k terminals whose seat is at or below it
pub record ServedBy (parents : List ℕ) (ways : Ways parents) (marks landings : List ℕ) (k : ℕ) (served : List ℕ) : Type 0 where
  pub at : (u : ℕ) → u < length served → (i : ℕ) → has (get_or served u 0) i ≡ (ltb i k && is_above_seat ways u (seat_in marks landings i))

abbrev pub Served : (parents marks landings : List ℕ) (k : ℕ) (served : List ℕ) → Type 0
Served parents marks landings k served = (ways : Ways parents) → ServedBy parents ways marks landings k served
