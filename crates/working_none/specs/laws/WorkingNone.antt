-- "None" while the table is filled: a number above every total, of which two, when they are added, are below half of what four bytes hold. At the end
-- each such cell becomes the table's "none".
-- Assumes nothing.
use Rattle.std.specs.Prelude.{ℕ, ◌<◌, ◌≡◌, ◌≢◌, ◌⊎◌, Bool, cond, eqb}
use Rattle.std.proofs.Common.{sym, ap, ◌∙◌, inl, inr, arith, eq-eqb, ne_eqb}
use Rattle.limits.specs.Limits.{no_cost}

abbrev pub working_none : ℕ
working_none = 1_073_741_823

-- a cell as it stands in the table at the end
abbrev pub finished : ℕ → ℕ
finished x = cond (eqb x working_none) no_cost x

-- a number below is as it was
pub finished_below : (x : ℕ) → x < working_none → finished x ≡ x
finished_below x l = ap (λ (b : Bool). cond b no_cost x) (ne_eqb x working_none (λ e. omega arith))

-- a cell that was compared with "none"
pub finished_by : {Is Not : Type 0} {x y : ℕ} → (Is → x ≡ working_none) → (Not → x ≢ working_none) → (Is × (y ≡ no_cost)) ⊎ (Not × (y ≡ x)) → y ≡ finished x
finished_by {Is} {Not} {x} is not (inl (t, e)) = e ∙ sym (ap (λ (b : Bool). cond b no_cost x) (eq-eqb x working_none (is t)))
finished_by {Is} {Not} {x} is not (inr (t, e)) = e ∙ sym (ap (λ (b : Bool). cond b no_cost x) (ne_eqb x working_none (not t)))

-- the same of each outcome of the comparison
pub set_finished : {x y : ℕ} → x ≡ working_none → y ≡ no_cost → y ≡ finished x
set_finished {x} is e = e ∙ sym (ap (λ (b : Bool). cond b no_cost x) (eq-eqb x working_none is))

pub kept_finished : {x y : ℕ} → x ≢ working_none → y ≡ x → y ≡ finished x
kept_finished {x} not e = e ∙ sym (ap (λ (b : Bool). cond b no_cost x) (ne_eqb x working_none not))
