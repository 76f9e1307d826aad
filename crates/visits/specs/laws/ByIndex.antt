-- Cells of four sets, lowered along the arcs of an index by their end, whatever arcs they are; and one arc of the group of a node.
-- Assumes nothing.
use Rattle.std.specs.Prelude.{ℕ, ◌+◌, ◌≤◌, ◌<◌, ◌≡◌, refl, List, length}
use Rattle.std.proofs.Common.{ap, arith}
use Rattle.cost_table.specs.Cells.{cell_in}
use Rattle.lanes.specs.declared.Four.{Four}
use Rattle.lanes.specs.laws.Four.{nth, four_of}
use Rattle.working_none.specs.laws.Low.{entry}
use Rattle.settling.specs.declared.Legs.{Legs}
use Rattle.settling.specs.laws.LowerFour.{along_four, along_nth, cell_nth, LoweredAt}
use Rattle.settling.specs.laws.ByIndex.{ArcsByEnd, SomeArcs, same_arcs, InGroup, Entries, entry_known, known_from}
use Rattle.settling.specs.laws.Lowered.{Lowered, lowered_none, lowered_more, lowered_by_arc, still_low}

-- whatever arcs they are, the cells are lowered along them
pub record LoweredByIndex (n : ℕ) (starts weights by_end places before after : List ℕ) : Type 0 where
  pub lowered : (m : ℕ) (end : ℕ → ℕ) → ArcsByEnd n m end starts weights by_end places before → Lowered m (entry starts) end (entry weights) before after

-- along the legs of a struct
abbrev pub LoweredByLegs : Legs → (before after : List ℕ) → Type 0
LoweredByLegs l = LoweredByIndex l.n l.starts.now l.weights.now l.index.now l.places.now

module _ {n : ℕ} {starts weights by_end places : List ℕ} where
  still_arcs : {m : ℕ} {end : ℕ → ℕ} {before after : List ℕ} → Lowered m (entry starts) end (entry weights) before after
      → ArcsByEnd n m end starts weights by_end places before → ArcsByEnd n m end starts weights by_end places after
  still_arcs L T = same_arcs L.same_length (still_low L T.low) T

  module _ {before mid : List ℕ} (L : LoweredByIndex n starts weights by_end places before mid) where
    pub still_some : SomeArcs n starts weights by_end places before → SomeArcs n starts weights by_end places mid
    still_some S = record { m = S.m; end = S.end; indexed = still_arcs (L.lowered S.m S.end S.indexed) S.indexed }

    pub index_more : {after : List ℕ} → LoweredByIndex n starts weights by_end places mid after → LoweredByIndex n starts weights by_end places before after
    index_more P = record {
      lowered = λ m end T. let l = L.lowered m end T in lowered_more l (P.lowered m end (still_arcs l T));
    }

    pub index_length : SomeArcs n starts weights by_end places before → length mid ≡ length before
    index_length S = (L.lowered S.m S.end S.indexed).same_length

  pub index_none : {before : List ℕ} → LoweredByIndex n starts weights by_end places before before
  index_none = record { lowered = λ m end T. lowered_none }

-- ---- the group of node v

module _ {n v : ℕ} {starts weights by_end places before mid : List ℕ} (S : SomeArcs n starts weights by_end places before) (on : v < n)
    (L : LoweredByIndex n starts weights by_end places before mid) where
  pub in_group : {i : ℕ} → entry places v ≤ i → i < entry places (v + 1) → InGroup starts weights by_end mid i
  in_group from to = entry_known (still_some L S) on from to

  pub group_from : {first : ℕ} → entry places v ≤ first → Entries starts weights by_end mid first (entry places (v + 1))
  group_from low = known_from (still_some L S) on low

-- one arc of the group, with the cells that node v had
pub group_arc : {n v i : ℕ} {here by : Four ℕ} {starts weights by_end places before mid after : List ℕ} → LoweredByIndex n starts weights by_end places before mid
    → v < n → entry places v ≤ i → i < entry places (v + 1) → here ≡ four_of before v → by ≡ along_four here (entry weights (entry by_end i))
    → LoweredAt (entry starts (entry by_end i)) by mid after → LoweredByIndex n starts weights by_end places before after
group_arc {n} {v} {i} {here} {by} {starts} {weights} {by_end} {places} {before} {mid} {after} L on from to was is A = record {
  lowered = λ m end T.
      let l = L.lowered m end T in
      let (arc, ends) = T.index.group v i on from to in
      lowered_more l (lowered_by_arc arc refl
      (λ j s.
      omega (
        arith,
        l.low v j s,
        ap (λ (x : ℕ). cell_in mid 4 x j) ends,
        ap (λ (f : Four ℕ). nth f j) is,
        along_nth here (entry weights (entry by_end i)) j s,
        ap (λ (f : Four ℕ). nth f j) was,
        cell_nth before v j s,
      )) A);
}
