-- Writing values one after the other, each where the table has an entry for it, gives the answer.
-- Assumes nothing.
use Rattle.std.specs.Prelude.{ℕ, ◌≡◌, refl, List, [], ◌∷◌, set}
use Rattle.std.proofs.Common.{sym, ap, ◌∙◌, subst}
use Rattle.lists.specs.Over.{fit_over}
use Rattle.lists.specs.Stores.{sets_fit}
use Rattle.answer.specs.Stated.{Stated, Family, plan, shared, refused}
use Rattle.c_values.specs.Values.{number_of, values_of, Gives}

-- a plan: 0, and three values
pub gives_plan : {s : Stated} {root cost count : ℕ} {entries after : List ℕ} → plan root cost count ≡ s
    → after ≡ set (set (set entries 0 root) 1 cost) 2 count → Gives s 0 entries after
gives_plan {s} {root} {cost} {count} {entries} {after} e p =
    subst (λ (x : Stated). Gives x 0 entries after) e (record { returned = refl; values = p ∙ sets_fit (root ∷ cost ∷ count ∷ []) entries })

-- a plan with shares: 0, and four values
pub gives_shared : {s : Stated} {root cost count rest : ℕ} {entries third after : List ℕ} → shared root cost count rest ≡ s
    → third ≡ set (set (set entries 0 root) 1 cost) 2 count → after ≡ set third 3 rest → Gives s 0 entries after
gives_shared {s} {root} {cost} {count} {rest} {entries} {third} {after} e p q =
    subst (λ (x : Stated). Gives x 0 entries after) e
    (record { returned = refl; values = q ∙ ap (λ (l : List ℕ). set l 3 rest) p ∙ sets_fit (root ∷ cost ∷ count ∷ rest ∷ []) entries })

-- one value, with the number: a cell, a sender, no sender, or the place of a refusal
pub gives_value : {s : Stated} {number value : ℕ} {entries after : List ℕ} (t : Stated) → t ≡ s → number ≡ number_of t → values_of t ≡ value ∷ []
    → after ≡ set entries 0 value → Gives s number entries after
gives_value {s} {number} {value} {entries} {after} t e is one p =
    subst (λ (x : Stated). Gives x number entries after) e
    (record { returned = is; values = p ∙ sets_fit (value ∷ []) entries ∙ ap (λ (l : List ℕ). fit_over l entries) (sym one) })

-- a refusal: its number, and its place
pub gives_refusal : {s : Stated} {family : Family} {number place : ℕ} {entries after : List ℕ} → refused family number place ≡ s
    → after ≡ set entries 0 place → Gives s number entries after
gives_refusal {s} {family} {number} {place} {entries} {after} e p =
    gives_value (refused family number place) e refl refl p

-- an answer that is passed on
pub gives_same : {s t : Stated} {number : ℕ} {entries after : List ℕ} → s ≡ t → Gives s number entries after → Gives t number entries after
gives_same {s} {t} {number} {entries} {after} e g = subst (λ (x : Stated). Gives x number entries after) e g
