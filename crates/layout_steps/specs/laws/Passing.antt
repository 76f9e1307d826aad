-- The arcs that a search for an arc from v passes over: none of them starts at v, so none of them fits. They are passed over one by one, or in
-- blocks.
-- Assumes nothing.
use Rattle.std.specs.Prelude.{ℕ, ◌+◌, ◌^◌, ◌≤◌, ◌<◌, ◌≡◌, refl, ◌≢◌, Bool, true, false, not, ◌||◌, List, T, eqb, get_or}
use Rattle.std.proofs.Common.{subst, arith}
use Rattle.std.proofs.Math.Decide.{dec_lt}
use Rattle.lists.specs.Tests.{false_not_fact, fact_ne}
use Rattle.lent_tables.specs.SheetTables.{SheetTables}
use Rattle.cost_table.specs.Cells.{cell_in}
use Rattle.layout_steps.specs.Steps.{fits_in}
use Rattle.layout_steps.specs.laws.Tests.{fits_at, starts_elsewhere}

-- the number of arcs of a block
abbrev pub block_arcs : ℕ
block_arcs = 64

-- of m arcs with these starts, those from `from` up to r do not start at v
pub record PassedOver (starts : List ℕ) (v from m r : ℕ) : Type 0 where
  pub onward : from ≤ r
  pub within : r ≤ m
  pub elsewhere : (j : ℕ) → from ≤ j → j < r → get_or starts j 0 ≢ v

module _ {starts : List ℕ} {v : ℕ} where
  pub passed_none : {from m : ℕ} → from ≤ m → PassedOver starts v from m from
  passed_none l = record { onward = omega arith; within = l; elsewhere = λ j a b. absurd (omega arith) }

  -- and then those from i up to r
  pub passed_on : {from m i e r : ℕ} → PassedOver starts v from m i → PassedOver starts v i e r → r ≤ m → PassedOver starts v from m r
  passed_on {from} {m} {i} {e} {r} p q l = record {
    onward = omega (arith, p.onward, q.onward);
    within = l;
    elsewhere = λ j a b. go j a b (dec_lt j i);
  }
    where
      go : (j : ℕ) → from ≤ j → j < r → Dec (j < i) → get_or starts j 0 ≢ v
      go j a b (yes h) = p.elsewhere j a h
      go j a b (no h) = q.elsewhere j (omega arith) b

  -- and then arc i
  pub passed_one : {from m i : ℕ} → PassedOver starts v from m i → i < m → get_or starts i 0 ≢ v → PassedOver starts v from m (i + 1)
  passed_one {i = i} p l n = passed_on p one (omega arith)
    where
      one : PassedOver starts v i (i + 1) (i + 1)
      one = record { onward = omega arith; within = omega arith; elsewhere = λ j a b. subst (λ (x : ℕ). get_or starts x 0 ≢ v) (omega arith) n }

  -- and so those up to e, where e is not after i
  pub passed_to : {from m i e : ℕ} → PassedOver starts v from m i → from ≤ e → e ≤ i → PassedOver starts v from e e
  passed_to p a b = record { onward = a; within = omega arith; elsewhere = λ j f l. p.elsewhere j f (omega arith) }

  -- where the test of those before i was false, and that of arc i is
  pub passed_tested : {from m i : ℕ} {found : Bool} → (found ≡ false → PassedOver starts v from m i) → i < m
      → (found || eqb (get_or starts i 0) v) ≡ false → PassedOver starts v from m (i + 1)
  passed_tested {i = i} {found = true} before l e = absurd (false_not_fact e)
  passed_tested {i = i} {found = false} before l e = passed_one (before refl) l (fact_ne (get_or starts i 0) v (false_not_fact e))

module _ (k m : ℕ) (t : SheetTables) (cells : List ℕ) (v w : ℕ) where
  -- an arc from elsewhere does not fit
  unfit_elsewhere : (e : ℕ) → e < m → get_or t.starts e 0 ≢ v → T (not (fits_in k m t cells v w e))
  unfit_elsewhere e l n = false_not_fact (fits_at k m t cells v w e _ _ _ _ l refl refl refl
      (starts_elsewhere (get_or t.starts e 0) (get_or t.weights e 0) (cell_in cells (2 ^ k) (get_or t.ends e 0) w) v (cell_in cells (2 ^ k) v w) n))

  -- where none before i fits, and those from i up to r are passed over, none before r fits
  pub passed_unfit : (i r : ℕ) → PassedOver t.starts v i m r → ((j : ℕ) → j < i → T (not (fits_in k m t cells v w j)))
      → (j : ℕ) → j < r → T (not (fits_in k m t cells v w j))
  passed_unfit i r p before j l = go (dec_lt j i)
    where
      go : Dec (j < i) → T (not (fits_in k m t cells v w j))
      go (yes h) = before j h
      go (no h) = unfit_elsewhere j (omega (arith, p.within)) (p.elsewhere j (omega arith) l)
