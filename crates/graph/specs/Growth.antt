-- Growth of a list of arcs from a root: the first listed arc that leads from a held node to one that is not held is kept, again and
-- again. The nodes held at first are the root alone.
-- Assumes nothing.
use Rattle.std.specs.Prelude.{ℕ, zero, suc, Bool, true, false, not, ◌&&◌, List, [], ◌∷◌, length}
use Rattle.std.proofs.Math.Option.{Option, none, some}
use Rattle.lists.specs.Listed.{listed}
use Rattle.graph.specs.Graph.{Graph}

-- arc e leads from a held node to one that is not held
abbrev pub extends : Graph → List ℕ → ℕ → Bool
extends G H e = listed (G.start e) H && not (listed (G.end e) H)

-- the first listed arc that does: arc e at the front where the test passes, else the one found later
abbrev pub or_later : Bool → ℕ → Option ℕ → Option ℕ
or_later true e later = some e
or_later false e later = later

abbrev pub first_extending : Graph → List ℕ → List ℕ → Option ℕ
first_extending G H [] = none
first_extending G H (e ∷ L) = or_later (extends G H e) e (first_extending G H L)

-- one turn: the arc found, if any, and what is kept after it
abbrev pub kept_then : Option ℕ → (ℕ → List ℕ) → List ℕ
kept_then none later = []
kept_then (some e) later = e ∷ later e

-- the arcs kept from the held nodes H, in the order in which they are kept, in at most m turns; the end of an arc that is kept is held from
-- then on, so the arc never extends again
abbrev pub grow_in : ℕ → Graph → List ℕ → List ℕ → List ℕ
grow_in zero G H L = []
grow_in (suc m) G H L = kept_then (first_extending G H L) (λ e. grow_in m G (G.end e ∷ H) L)

-- each turn keeps an arc of the list that was not kept before, so there are no more turns than arcs
abbrev pub grow : Graph → List ℕ → List ℕ → List ℕ
grow G H L = grow_in (length L) G H L

-- what is kept of a list grown from the root r alone
abbrev pub kept : Graph → ℕ → List ℕ → List ℕ
kept G r L = grow G (r ∷ []) L
