-- Terminals entered one after the other: a terminal without a seat is entered nowhere, and after terminal i the table has the first i + 1 terminals.
-- Assumes nothing.
use Rattle.std.specs.Prelude.{Some, None, ℕ, suc, ◌+◌, ◌<◌, ◌≡◌, refl, Bool, true, false, ◌&&◌, ◌||◌, List, eqb, ltb, length, get_or, replicate}
use Rattle.std.proofs.Common.{sym, ap, ap₂, ◌∙◌, subst, add-one, arith, eq-eqb, ne_eqb, le-ltb}
use Rattle.std.proofs.Math.Option.{Option, none, some}
use Rattle.std.proofs.Math.Decide.{ℕ_discrete}
use Rattle.std.proofs.lemmas.List.{length-replicate, get_or-replicate}
use Rattle.lists.specs.Find.{first}
use Rattle.lists.proofs.First.{first_found, first_none}
use Rattle.lists.specs.Tests.{ltb_suc, true_fact, false_not_fact}
use Rattle.subset.specs.Sets.{has, single}
use Rattle.subset.specs.laws.Terminals.{has_single, has_empty}
use Rattle.serving.specs.Parents.{no_parent, NoParents, Ways, EnteredBy}
use Rattle.serving.specs.Seats.{found_at, seat_in, is_above_seat, TerminalEnteredBy, NoneServed, ServedBy}

-- ---- the tables before

-- tables filled with one number
pub no_parents : (n : ℕ) → NoParents (replicate n no_parent)
no_parents n v l = get_or-replicate n v no_parent 0 (subst (λ (m : ℕ). v < m) (length-replicate {A = ℕ} n no_parent) l)

pub none_served : (n : ℕ) → NoneServed (replicate n 0)
none_served n u l = get_or-replicate n u 0 0 (subst (λ (m : ℕ). u < m) (length-replicate {A = ℕ} n 0) l)

-- ---- the seat that a search finds

module _ (f : ℕ → Bool) (n : ℕ) where
  -- it stops at the first number that passes
  pub found_first : (v : ℕ) → v < n → f v ≡ true → ((j : ℕ) → j < v → f j ≡ false) → found_at (Some v) ≡ first f n
  found_first v l t before = sym (first_found f n v l (true_fact t) (λ j s. false_not_fact (before j s)))

  -- or no number passes
  pub found_none : ((j : ℕ) → j < n → f j ≡ false) → found_at None ≡ first f n
  found_none before = sym (first_none f n (λ j s. false_not_fact (before j s)))

-- what was found, by whether a number was
module _ {o : Option ℕ} where
  pub found_some : {v : ℕ} → found_at (Some v) ≡ o → some v ≡ o
  found_some e = e

  pub found_nothing : found_at None ≡ o → none ≡ o
  found_nothing e = e

-- where no number below v passes, and v does not, none below v + 1 passes
pub none_before : (f : ℕ → Bool) (v : ℕ) → ((j : ℕ) → j < v → f j ≡ false) → f v ≡ false → (j : ℕ) → j < v + 1 → f j ≡ false
none_before f v before here j l = go (ℕ_discrete j v)
  where
    go : Dec (j ≡ v) → f j ≡ false
    go (yes q) = ap f q ∙ here
    go (no other) = before j (omega arith)

-- ---- one terminal

module _ (parents : List ℕ) (ways : Ways parents) (marks landings : List ℕ) (i : ℕ) (before after : List ℕ) where
  -- a terminal that sits is entered above its seat
  pub seated : (seat set : ℕ) → some seat ≡ seat_in marks landings i → set ≡ single i → EnteredBy parents ways seat set before after
      → TerminalEnteredBy parents ways marks landings i before after
  seated seat set sits alone E = record {
    size = E.size;
    at = λ u l j.
        E.at u l j
        ∙ ap₂ (λ (b : Bool) (o : Option ℕ). has (get_or before u 0) j || (b && is_above_seat ways u o)) (ap (λ (w : ℕ). has w j) alone ∙ has_single i j) sits;
  }

  -- one that sits nowhere is entered nowhere
  pub unseated : none ≡ seat_in marks landings i → after ≡ before → TerminalEnteredBy parents ways marks landings i before after
  unseated sits same = record {
    size = ap length same;
    at = λ u l j.
        ap (λ (t : List ℕ). has (get_or t u 0) j) same ∙ nothing_more (has (get_or before u 0) j) (eqb i j)
        ∙ ap (λ (o : Option ℕ). has (get_or before u 0) j || (eqb i j && is_above_seat ways u o)) sits;
  }
    where
      nothing_more : (h b : Bool) → h ≡ (h || (b && false))
      nothing_more true b = refl
      nothing_more false true = refl
      nothing_more false false = refl

-- ---- all terminals

module _ (parents : List ℕ) (ways : Ways parents) (marks landings : List ℕ) where
  -- no terminal is entered yet
  pub serving_start : (served : List ℕ) → NoneServed served → ServedBy parents ways marks landings 0 served
  serving_start served nobody = record {
    at = λ u l i.
        ap (λ (x : ℕ). has x i) (nobody u l) ∙ has_empty i
        ∙ ap (λ (b : Bool). b && is_above_seat ways u (seat_in marks landings i)) (sym (le-ltb i 0 (omega arith)));
  }

  -- one terminal more
  pub serving_next : (i : ℕ) (before after : List ℕ) → ServedBy parents ways marks landings i before
      → TerminalEnteredBy parents ways marks landings i before after → ServedBy parents ways marks landings (i + 1) after
  serving_next i before after S E = record {
    at = λ u l j.
        let on : u < length before = subst (λ (n : ℕ). u < n) E.size l in
        E.at u on j ∙ ap (λ (b : Bool). b || (eqb i j && is_above_seat ways u (seat_in marks landings i))) (S.at u on j)
        ∙ one_more u j (ℕ_discrete i j)
        ∙ ap (λ (n : ℕ). ltb j n && above u j) (sym (add-one i));
  }
    where
      above : ℕ → ℕ → Bool
      above u j = is_above_seat ways u (seat_in marks landings j)

      told : (a b : Bool) → ((a && b) || (true && b)) ≡ ((a || true) && b)
      told true true = refl
      told true false = refl
      told false true = refl
      told false false = refl

      untold : (a b c : Bool) → ((a && b) || (false && c)) ≡ ((a || false) && b)
      untold true true c = refl
      untold true false c = refl
      untold false b c = refl

      one_more : (u j : ℕ) → Dec (i ≡ j) → ((ltb j i && above u j) || (eqb i j && above u i)) ≡ (ltb j (suc i) && above u j)
      one_more u j (yes q) =
          ap₂ (λ (b : Bool) (x : ℕ). (ltb j i && above u j) || (b && above u x)) (eq-eqb i j q) q
          ∙ told (ltb j i) (above u j)
          ∙ ap (λ (b : Bool). (ltb j i || b) && above u j) (sym (eq-eqb j i (sym q)))
          ∙ ap (λ (b : Bool). b && above u j) (sym (ltb_suc j i))
      one_more u j (no other) =
          ap (λ (b : Bool). (ltb j i && above u j) || (b && above u i)) (ne_eqb i j other)
          ∙ untold (ltb j i) (above u j) (above u i)
          ∙ ap (λ (b : Bool). (ltb j i || b) && above u j) (sym (ne_eqb j i (λ q. other (sym q))))
          ∙ ap (λ (b : Bool). b && above u j) (sym (ltb_suc j i))
