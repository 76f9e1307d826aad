-- Which test of a plan failed first, and that none did.
-- Assumes nothing.
use Rattle.std.specs.Prelude.{◌≡◌, refl, Bool, true, false}
use Rattle.std.proofs.Common.{sym, ap, subst}
use Rattle.std.proofs.Math.Option.{Option, none, some}
use Rattle.answer.specs.declared.PlanFault.{PlanFault}
use Rattle.answer.specs.declared.PlanFault.TheVariants.{NoTree, NotASender, StationMissed, FalseTotal}
use Rattle.plan_tests.specs.PlanFaults.{first_failed}

module _ (tree may_root_lem held sum : Bool) where
  pub failed_tree : tree ≡ false → first_failed tree may_root_lem held sum ≡ some NoTree
  failed_tree e = ap (λ (b : Bool). first_failed b may_root_lem held sum) e

  pub failed_root : tree ≡ true → may_root_lem ≡ false → first_failed tree may_root_lem held sum ≡ some NotASender
  failed_root e r = (λ i. first_failed (e i) (r i) held sum)

  pub failed_held : tree ≡ true → may_root_lem ≡ true → held ≡ false → first_failed tree may_root_lem held sum ≡ some StationMissed
  failed_held e r f = (λ i. first_failed (e i) (r i) (f i) sum)

  pub failed_sum : tree ≡ true → may_root_lem ≡ true → held ≡ true → sum ≡ false → first_failed tree may_root_lem held sum ≡ some FalseTotal
  failed_sum e r f g = (λ i. first_failed (e i) (r i) (f i) (g i))

  pub failed_none : tree ≡ true → may_root_lem ≡ true → held ≡ true → sum ≡ true → first_failed tree may_root_lem held sum ≡ none
  failed_none e r f g = (λ i. first_failed (e i) (r i) (f i) (g i))

-- no test failed
abbrev Passed : Option PlanFault → Type 0
Passed none = Unit {0}
Passed (some fault) = ⊥

pub none_failed : (tree may_root_lem held sum : Bool) → first_failed tree may_root_lem held sum ≡ none
    → (tree ≡ true) × (may_root_lem ≡ true) × (held ≡ true) × (sum ≡ true)
none_failed true true true true e = (refl, refl, refl, refl)
none_failed true true true false e = absurd (subst Passed (sym e) tt)
none_failed true true false sum e = absurd (subst Passed (sym e) tt)
none_failed true false held sum e = absurd (subst Passed (sym e) tt)
none_failed false may_root_lem held sum e = absurd (subst Passed (sym e) tt)
