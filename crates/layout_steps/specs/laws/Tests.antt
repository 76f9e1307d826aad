-- The tests of one step: what they come to where the tables hold the values, and what the searches find.
-- Assumes nothing.
use Rattle.std.specs.Prelude.{Some, None, ℕ, ◌+◌, ◌^◌, ◌<◌, ◌≡◌, refl, ◌≢◌, ◌⊎◌, Bool, true, false, not, ◌&&◌, ◌||◌, List, T, eqb, ltb, get_or, take}
use Rattle.std.proofs.Common.{sym, ap, ap₂, ◌∙◌, subst, inl, inr, arith, add-zero, eq-eqb, ne_eqb, lt-ltb, le-ltb, eqb→eq, get_or-take}
use Rattle.std.proofs.Math.Option.{Option, none, some}
use Rattle.std.specs.Int.Count.{ones}
use Rattle.limits.specs.Limits.{no_cost}
use Rattle.lists.specs.Tests.{true_fact, false_not_fact, same_tests, eq_fact, and_left, and_right, and_both, or_cases, or_right, and_fails, and_passes}
use Rattle.lists.specs.Find.{first}
use Rattle.lists.proofs.First.{first_found, first_none}
use Rattle.lists.specs.Below.{below_more}
use Rattle.subset.specs.Sets.{single, has, Part, is_part}
use Rattle.landing_entries.specs.Entries.{terminals_in}
use Rattle.subset.specs.laws.Parts.{part_has, single_part}
use Rattle.subset.specs.laws.Terminals.{has_lt}
use Rattle.subset.specs.laws.Sizes.{ones_single, one_terminal}
use Rattle.lent_tables.specs.SheetTables.{SheetTables}
use Rattle.graph.specs.HeldGraph.{graph_in, landings_in}
use Rattle.graph.specs.Layout.{is_done}
use Rattle.graph.proofs.laws.LayoutRule.{done_facts, facts_done}
use Rattle.cost_table.specs.Cells.{cell_in}
use Rattle.layout_steps.specs.Steps.{done_at, values_fit, fits_in, found_as}

-- ---- nothing is added

module _ (entry w : ℕ) where
  pub done_empty : w ≡ 0 → done_at entry w ≡ true
  done_empty e = ap (λ (b : Bool). b || (eqb (ones w) 1 && is_part w (terminals_in entry))) (eq-eqb w 0 e)

  done_filled : w ≢ 0 → done_at entry w ≡ (eqb (ones w) 1 && is_part w (terminals_in entry))
  done_filled n = ap (λ (b : Bool). b || (eqb (ones w) 1 && is_part w (terminals_in entry))) (ne_eqb w 0 n)

  pub done_many : w ≢ 0 → ones w ≢ 1 → done_at entry w ≡ false
  done_many n m = done_filled n ∙ and_fails (eqb (ones w) 1) (is_part w (terminals_in entry)) (ne_eqb (ones w) 1 m)

  pub done_one : w ≢ 0 → ones w ≡ 1 → done_at entry w ≡ is_part w (terminals_in entry)
  done_one n e = done_filled n ∙ and_passes (eqb (ones w) 1) (is_part w (terminals_in entry)) (eq-eqb (ones w) 1 e)

-- the test of the graph that the tables hold is the test of the node's landing entry
module _ (n k m : ℕ) (t : SheetTables) (v w : ℕ) (on : v < n) (small : w < 2 ^ k) where
  pub done_in : is_done (graph_in n k m t) v w ≡ done_at (get_or t.landings v 0) w
  done_in = same_tests (is_done (graph_in n k m t) v w) (done_at (get_or t.landings v 0) w)
      (λ done. there (done_facts (graph_in n k m t) v w done))
      (λ done. facts_done (graph_in n k m t) v w (back (or_cases (eqb w 0) (eqb (ones w) 1 && is_part w here) done)))
    where
      here : ℕ
      here = terminals_in (get_or t.landings v 0)

      same : terminals_in (get_or (take n t.landings) v 0) ≡ here
      same = landings_in n k m t v on

      there : (w ≡ 0) ⊎ ((i : ℕ) × (i < k) × (w ≡ single i) × T (has (terminals_in (get_or (take n t.landings) v 0)) i))
          → T (done_at (get_or t.landings v 0) w)
      there (inl e) = true_fact (done_empty (get_or t.landings v 0) w e)
      there (inr (i, l, e, h)) =
          let part : Part (single i) here = single_part i here (subst (λ (x : ℕ). T (has x i)) same h) in
          or_right (eqb w 0) (eqb (ones w) 1 && is_part w here) (and_both (eqb (ones w) 1) (is_part w here)
          (eq_fact (ap ones e ∙ ones_single i)) (eq_fact (subst (λ (x : ℕ). Part x here) (sym e) part)))

      back : T (eqb w 0) ⊎ T (eqb (ones w) 1 && is_part w here)
          → (w ≡ 0) ⊎ ((i : ℕ) × (i < k) × (w ≡ single i) × T (has (terminals_in (get_or (take n t.landings) v 0)) i))
      back (inl empty) = inl (eqb→eq w 0 empty)
      back (inr one) =
          let (i, e, h) = one_terminal w (eqb→eq (ones w) 1 (and_left (eqb (ones w) 1) (is_part w here) one)) in
          let part : Part w here = eqb→eq _ w (and_right (eqb (ones w) 1) (is_part w here) one) in
          inr (i, has_lt k w i small h, e, subst (λ (x : ℕ). T (has x i)) (sym same) (part_has w here part i h))

-- ---- an arc fits

module _ (start weight far v cost : ℕ) where
  pub starts_elsewhere : start ≢ v → values_fit start weight far v cost ≡ false
  starts_elsewhere n = and_fails (eqb start v) (ltb far no_cost && eqb (weight + far) cost) (ne_eqb start v n)

  pub leads_nowhere : start ≡ v → far ≡ no_cost → values_fit start weight far v cost ≡ false
  leads_nowhere e none-there = and_passes (eqb start v) (ltb far no_cost && eqb (weight + far) cost) (eq-eqb start v e)
      ∙ and_fails (ltb far no_cost) (eqb (weight + far) cost) (le-ltb far no_cost (omega arith))

  pub makes_cost : start ≡ v → far < no_cost → values_fit start weight far v cost ≡ eqb (weight + far) cost
  makes_cost e finite = and_passes (eqb start v) (ltb far no_cost && eqb (weight + far) cost) (eq-eqb start v e)
      ∙ and_passes (ltb far no_cost) (eqb (weight + far) cost) (lt-ltb far no_cost finite)

-- the values that the tables hold of an arc
module _ (k m : ℕ) (t : SheetTables) (cells : List ℕ) (v w : ℕ) where
  fits_in_lem : (e cost far : ℕ) → e < m → cost ≡ cell_in cells (2 ^ k) v w → far ≡ cell_in cells (2 ^ k) (get_or t.ends e 0) w
      → fits_in k m t cells v w e ≡ values_fit (get_or t.starts e 0) (get_or t.weights e 0) far v cost
  fits_in_lem e cost far l here there =
      ap₂ (λ (s x : ℕ). eqb s v && (ltb x no_cost && eqb (get_or (take m t.weights) e 0 + 0 + x) (cell_in cells (2 ^ k) v w))) (get_or-take m t.starts e 0 l)
      (ap (λ (u : ℕ). cell_in cells (2 ^ k) u w) (get_or-take m t.ends e 0 l) ∙ sym there)
      ∙ ap₂ (λ (x c : ℕ). eqb (get_or t.starts e 0) v && (ltb far no_cost && eqb (x + far) c)) (add-zero _ ∙ get_or-take m t.weights e 0 l) (sym here)

  -- r is the test of them, and b its answer
  pub fits_at : (e cost far : ℕ) (r b : Bool) → e < m → cost ≡ cell_in cells (2 ^ k) v w → far ≡ cell_in cells (2 ^ k) (get_or t.ends e 0) w
      → r ≡ values_fit (get_or t.starts e 0) (get_or t.weights e 0) far v cost → r ≡ b → fits_in k m t cells v w e ≡ b
  fits_at e cost far r b l here there test answer = fits_in_lem e cost far l here there ∙ sym test ∙ answer

-- ---- what a search finds

module _ (f : ℕ → Bool) where
  -- the number at which it stops is the lowest that passes
  pub found_at : (n i : ℕ) → i < n → f i ≡ true → ((j : ℕ) → j < i → T (not (f j))) → Some i ≡ found_as (first f n)
  found_at n i l t before = sym (ap found_as (first_found f n i l (true_fact t) before))

  pub found_nothing : (n : ℕ) → ((j : ℕ) → j < n → T (not (f j))) → None ≡ found_as (first f n)
  found_nothing n before = sym (ap found_as (first_none f n before))

  pub not_yet : (i : ℕ) → f i ≡ false → ((j : ℕ) → j < i → T (not (f j))) → (j : ℕ) → j < i + 1 → T (not (f j))
  not_yet i t before = below_more (λ j. T (not (f j))) i before (false_not_fact t)

-- what was found, by the search's answer
pub found_some : (o : Option ℕ) (x : ℕ) → Some x ≡ found_as o → o ≡ some x
found_some none x e = let z : ◌≡◌ {A = ℕ} 0 1 = cc e in absurd (omega arith)
found_some (some y) x e = cc e

pub found_none : (o : Option ℕ) → None ≡ found_as o → o ≡ none
found_none none e = refl
found_none (some y) e = let z : ◌≡◌ {A = ℕ} 0 1 = cc e in absurd (omega arith)
