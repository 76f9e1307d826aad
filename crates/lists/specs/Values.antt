-- A table whose first entries are the values of a function at 0, 1, 2, ..: written one after the other.
-- Assumes nothing.
use Rattle.std.specs.Prelude.{ℕ, ◌+◌, ◌≤◌, ◌<◌, ◌≡◌, refl, List, ◌++◌, map, length, get_or, drop, set}
use Rattle.std.proofs.Common.{sym, ap, ap₂, ◌∙◌, append-nil, add-one, arith, length-set}
use Rattle.std.proofs.Math.Seq.{drop-length}
use Rattle.lists.specs.Numbers.{numbers, length_values, values_more}
use Rattle.lists.specs.Over.{over, over_more, get_d_later}

module _ (f : ℕ → ℕ) where
  -- one value more
  value_more : (v : ℕ) (old : List ℕ) → v < length old → set (over (map f (numbers 0 v)) old) v (f v) ≡ over (map f (numbers 0 (v + 1))) old
  value_more v old l =
      ap (λ (i : ℕ). set (over (map f (numbers 0 v)) old) i (f v)) (sym (length_values f 0 v))
      ∙ over_more (map f (numbers 0 v)) old (f v) (omega (arith, length_values f 0 v))
      ∙ ap (λ (l : List ℕ). over l old) (sym (values_more f v) ∙ ap (λ (n : ℕ). map f (numbers 0 n)) (sym (add-one v)))

  -- all of them
  values_all : (v : ℕ) (old : List ℕ) → v ≡ length old → over (map f (numbers 0 v)) old ≡ map f (numbers 0 (length old))
  values_all v old e =
      ap (λ (n : ℕ). over (map f (numbers 0 n)) old) e
      ∙ ap (λ (n : ℕ). map f (numbers 0 (length old)) ++ drop n old) (length_values f 0 (length old))
      ∙ ap (λ (l : List ℕ). map f (numbers 0 (length old)) ++ l) (drop-length old) ∙ append-nil (map f (numbers 0 (length old)))

-- `old`, with the values of f as its first v entries
pub record ValuesTo (f : ℕ → ℕ) (v : ℕ) (old l : List ℕ) : Type 0 where
  pub same_length : length l ≡ length old
  pub values : l ≡ over (map f (numbers 0 v)) old

module _ {f : ℕ → ℕ} {old : List ℕ} where
  pub no_values : ValuesTo f 0 old old
  no_values = record { same_length = refl; values = refl }

  pub next_value : {v x : ℕ} {l : List ℕ} → v < length l → x ≡ f v → ValuesTo f v old l → ValuesTo f (v + 1) old (set l v x)
  next_value {v} {x} {l} on is so_far = record {
    same_length = length-set l v x ∙ so_far.same_length;
    values = ap₂ (λ (k : List ℕ) (y : ℕ). set k v y) so_far.values is ∙ value_more f v old (omega (arith, so_far.same_length));
  }

  pub all_values : {v : ℕ} {l : List ℕ} → v ≤ length old → length l ≤ v → ValuesTo f v old l → l ≡ map f (numbers 0 (length old))
  all_values {v} {l} low high so_far = so_far.values ∙ values_all f v old (omega (arith, so_far.same_length))

  -- an entry that is not written yet
  pub later_value : {v i : ℕ} {l : List ℕ} → v ≤ i → ValuesTo f v old l → get_or l i 0 ≡ get_or old i 0
  later_value {v} {i} {l} le so_far =
      ap (λ (k : List ℕ). get_or k i 0) so_far.values ∙ get_d_later (map f (numbers 0 v)) old i 0 (omega (arith, length_values f 0 v))
