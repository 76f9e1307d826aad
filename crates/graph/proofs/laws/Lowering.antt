-- A table of which cells change: the cells of a table with one cell replaced, and that a cost keeps its support where no cell that the support
-- may name rises.
-- Assumes nothing.
use Rattle.std.specs.Prelude.{ℕ, ◌≤◌, ◌<◌, ◌≡◌, ◌&&◌, cond, eqb}
use Rattle.std.proofs.Common.{arith, eqb→eq}
use Rattle.std.proofs.Math.Dec.{eqb_refl}
use Rattle.lists.specs.Tests.{by_fact, and_left, and_right, and_both, choice_first}
use Rattle.graph.specs.Graph.{Graph}
use Rattle.graph.specs.ClosedSupported.{Support, by_landing, by_arc, by_split, put}

-- ---- one cell replaced

-- to prove P of a cell after x was put at v and w, prove it of x where the cell is that of v and w, and of the old cell
pub by_put : (c : ℕ → ℕ → ℕ) (v w x u y : ℕ) (P : ℕ → Type 0) → (u ≡ v → y ≡ w → P x) → P (c u y) → P (put c v w x u y)
by_put c v w x u y P f g = by_fact (eqb u v && eqb y w) (λ b. P (cond b x (c u y)))
    (λ t. f (eqb→eq u v (and_left (eqb u v) (eqb y w) t)) (eqb→eq y w (and_right (eqb u v) (eqb y w) t))) (λ _. g)

-- the cell of v and w is x
pub put_at : (c : ℕ → ℕ → ℕ) (v w x : ℕ) → put c v w x v w ≡ x
put_at c v w x = choice_first (eqb v v && eqb w w) x (c v w) (and_both (eqb v v) (eqb w w) (eqb_refl v) (eqb_refl w))

-- ---- supports

-- a cost at v and w that has a support in a table has one in each table in which the cells of w at the arcs' ends, and those of smaller sets
-- at v, are not above the former ones
pub support_lower : (G : Graph) (c d : ℕ → ℕ → ℕ) (top v w x : ℕ)
    → ((e : ℕ) → e < G.arcs → d (G.end e) w ≤ c (G.end e) w) → ((y : ℕ) → y < w → d v y ≤ c v y)
    → Support G c top v w x → Support G d top v w x
support_lower G c d top v w x ends parts (by_landing i l q t h) = by_landing i l q t h
support_lower G c d top v w x ends parts (by_arc e l q f h) = let le = ends e l in by_arc e l q (omega arith) (omega arith)
support_lower G c d top v w x ends parts (by_split y z ny nz p q fy fz h) =
    let ly = parts y (omega arith) in
    let lz = parts z (omega arith) in
    by_split y z ny nz p q (omega arith) (omega arith) (omega arith)
