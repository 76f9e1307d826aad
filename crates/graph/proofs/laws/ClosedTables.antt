-- A closed table, cell by cell: what a landing, an arc and a split give, and that a table of which this holds is closed.
-- Assumes nothing.
use Rattle.std.specs.Prelude.{ℕ, ◌+◌, ◌^◌, ◌≤◌, ◌<◌, ◌≡◌, refl, ◌≢◌}
use Rattle.std.proofs.Common.{ap, arith}
use Rattle.std.specs.Int.Bits.{bit_and}
use Rattle.std.proofs.Math.Pow.{pow-lt}
use Rattle.subset.specs.Sets.{single}
use Rattle.subset.specs.laws.Parts.{single_ne}
use Rattle.graph.specs.Graph.{Graph, Landing}
use Rattle.graph.specs.ClosedSupported.{Closed}

module _ {G : Graph} {c : ℕ → ℕ → ℕ} where
  module _ (C : Closed G c) where
    pub closed_landing : (v i : ℕ) → v < G.nodes → i < G.terminals → Landing G i v → c v (single i) ≤ G.charge v
    closed_landing v i on l t = (C.sets (single i) (single_ne i) (pow-lt l)).started.landing v i on l refl t

    pub closed_arc : (e w : ℕ) → e < G.arcs → w ≢ 0 → w < 2 ^ G.terminals → c (G.start e) w ≤ G.weight e + G.charge (G.start e) + c (G.end e) w
    closed_arc e w l ne small = (C.sets w ne small).arc e l

    pub closed_split : (v y z : ℕ) → v < G.nodes → y ≢ 0 → z ≢ 0 → bit_and y z ≡ 0 → y + z < 2 ^ G.terminals
        → c v (y + z) + G.charge v ≤ c v y + c v z
    closed_split v y z on ny nz d small = (C.sets (y + z) (omega arith) small).started.split v y z on ny nz d refl

  pub make_closed : ((v : ℕ) → v < G.nodes → c v 0 ≡ 0)
      → ((v i : ℕ) → v < G.nodes → i < G.terminals → Landing G i v → c v (single i) ≤ G.charge v)
      → ((e w : ℕ) → e < G.arcs → w ≢ 0 → w < 2 ^ G.terminals → c (G.start e) w ≤ G.weight e + G.charge (G.start e) + c (G.end e) w)
      → ((v y z : ℕ) → v < G.nodes → y ≢ 0 → z ≢ 0 → bit_and y z ≡ 0 → y + z < 2 ^ G.terminals → c v (y + z) + G.charge v ≤ c v y + c v z)
      → Closed G c
  make_closed nothing landing arc split = record {
    nothing = nothing;
    sets = λ w ne small. record {
      started = record {
        landing = λ v i on l q t. omega (arith, ap (c v) q, landing v i on l t);
        split = λ v y z on ny nz d q. omega (arith, ap (c v) q, split v y z on ny nz d (omega arith));
      };
      arc = λ e l. arc e w l ne small;
    };
  }
