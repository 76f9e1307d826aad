-- The stated rule gives one plan: the root, the cost and the legs are determined by it.
-- Assumes nothing.
use Rattle.std.specs.Prelude.{ℕ, ◌-◌, ◌≡◌, refl, List, [], ◌∷◌, ◌++◌}
use Rattle.std.proofs.Common.{sym, ap, ap₂, ◌∙◌, subst}
use Rattle.subset.specs.Sets.{full}
use Rattle.graph.specs.Graph.{Graph}
use Rattle.mission.specs.Rule.{Lowest, Nothing, ArcFits, PartSplits, Added, nothing, follow, split, ByRule}
use Rattle.mission.proofs.laws.Roots.{lowest_one, one_root}

-- what is added at a node with a set, by the way in which another list was added there
module _ (G : Graph) where
  after_nothing : {v w : ℕ} {M : List ℕ} → Nothing G v w → Added G v w M → M ≡ []
  after_nothing n (nothing _) = refl
  after_nothing n (follow e more _ _) = absurd (more n)
  after_nothing n (split y more _ _ _ _) = absurd (more n)

  after_follow : {v w : ℕ} {M : List ℕ} (e : ℕ) → (Nothing G v w → ⊥) → Lowest (ArcFits G v w) e → Added G v w M
      → (N : List ℕ) × Added G (G.end e) w N × (M ≡ e ∷ N)
  after_follow e more low (nothing n) = absurd (more n)
  after_follow {v} {w} e more low (follow {L = N} d _ low' rest) =
      let same : d ≡ e = lowest_one (ArcFits G v w) d e low' low in
      (N, subst (λ (x : ℕ). Added G (G.end x) w N) same rest, ap (λ (x : ℕ). x ∷ N) same)
  after_follow e more low (split y _ none-fits _ _ _) = absurd (none-fits e low.holds)

  after_split : {v w : ℕ} {M : List ℕ} (y : ℕ) → (Nothing G v w → ⊥) → ((e : ℕ) → ArcFits G v w e → ⊥) → Lowest (PartSplits G v w) y → Added G v w M
      → (N O : List ℕ) × Added G v y N × Added G v (w - y) O × (M ≡ N ++ O)
  after_split y more none-fits low (nothing n) = absurd (more n)
  after_split y more none-fits low (follow e _ low' _) = absurd (none-fits e low'.holds)
  after_split {v} {w} y more none-fits low (split {L = N} {M = O} z _ _ low' one other) =
      let same : z ≡ y = lowest_one (PartSplits G v w) z y low' low in (
        N,
        O,
        subst (λ (x : ℕ). Added G v x N) same one,
        subst (λ (x : ℕ). Added G v (w - x) O) same other,
        refl,
      )

  -- one list is added
  added_one : {v w : ℕ} {L M : List ℕ} → Added G v w L → Added G v w M → L ≡ M
  added_one (nothing n) b = sym (after_nothing n b)
  added_one (follow {L = L} e more low rest) b =
      let (N, rest', same) = after_follow e more low b in
      ap (λ (x : List ℕ). e ∷ x) (added_one rest rest') ∙ sym same
  added_one (split y more none-fits low one other) b =
      let (N, O, one', other', same) = after_split y more none-fits low b in
      ap₂ ◌++◌ (added_one one one') (added_one other other') ∙ sym same

  pub one_plan : (root root' cost cost' : ℕ) (L L' : List ℕ) → ByRule G root cost L → ByRule G root' cost' L'
      → (root ≡ root') × (cost ≡ cost') × (L ≡ L')
  one_plan root root' cost cost' L L' a b =
      let w : ℕ = full G.terminals in
      let (roots, costs) = one_root G w root root' cost cost' a.root_is b.root_is in
      (roots, costs, added_one (subst (λ (z : ℕ). Added G z w L) roots a.laid) b.laid)
