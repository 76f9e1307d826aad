-- The parents of the nodes, as a table: the start of the listed arc that ends at a node, or no parent. The nodes above a node are the node itself and
-- those above its parent. A terminal is entered at each node above a seat.
-- Assumes nothing.
use Rattle.std.specs.Prelude.{ℕ, ◌<◌, ◌≡◌, ◌≢◌, Bool, ◌&&◌, ◌||◌, List, T, eqb, length, get_or}
use Rattle.lists.specs.Listed.{listed}
use Rattle.subset.specs.Sets.{has}

-- an entry that says that the node has no parent
abbrev pub no_parent : ℕ
no_parent = 65535

abbrev pub NoParents : List ℕ → Type 0
NoParents parents = (v : ℕ) → v < length parents → get_or parents v 0 ≡ no_parent

-- some listed arc leads from u to v
pub record ArcBetween (start end : ℕ → ℕ) (L : List ℕ) (u v : ℕ) : Type 0 where
  pub arc : ℕ
  pub is_listed : T (listed arc L)
  pub from : start arc ≡ u
  pub to : end arc ≡ v

-- the table has the parents by the arcs L with these starts and ends
pub record Parents (start end : ℕ → ℕ) (L parents : List ℕ) : Type 0 where
  pub none : (v : ℕ) → v < length parents → get_or parents v 0 ≡ no_parent → (e : ℕ) → T (listed e L) → end e ≢ v
  pub some : (v : ℕ) → v < length parents → get_or parents v 0 ≢ no_parent → ArcBetween start end L (get_or parents v 0) v

-- which nodes are above a node; and no way up goes on without end: `depth` falls with each step
pub record Ways (parents : List ℕ) : Type 0 where
  -- u is above v
  pub is_above : (u v : ℕ) → Bool
  pub depth : ℕ → ℕ
  pub low : (v : ℕ) → v < length parents → depth v < length parents
  pub top : (v : ℕ) → v < length parents → get_or parents v 0 ≡ no_parent → (u : ℕ) → is_above u v ≡ eqb u v
  pub up : (v : ℕ) → v < length parents → get_or parents v 0 ≢ no_parent → (u : ℕ) → is_above u v ≡ (eqb u v || is_above u (get_or parents v 0))
  pub falls : (v : ℕ) → v < length parents → get_or parents v 0 ≢ no_parent → (get_or parents v 0 < length parents) × (depth (get_or parents v 0) < depth v)

-- the terminals of a set are entered at each node above a seat
pub record EnteredBy (parents : List ℕ) (ways : Ways parents) (seat set : ℕ) (before after : List ℕ) : Type 0 where
  pub size : length after ≡ length before
  pub at : (u : ℕ) → u < length before → (i : ℕ) → has (get_or after u 0) i ≡ (has (get_or before u 0) i || (has set i && ways.is_above u seat))

abbrev pub Entered : (parents : List ℕ) (seat set : ℕ) (before after : List ℕ) → Type 0
Entered parents seat set before after = (ways : Ways parents) → EnteredBy parents ways seat set before after
