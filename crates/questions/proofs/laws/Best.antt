-- What the best sender is: "a site whose cell is least and finite, or "none"" (document 01, "The cost table"), of the senders the lowest (document
-- 02, W-203). The lowest of the sites that cost least, where a site that is no sender costs "none", is the best sender.
-- Assumes nothing.
use Rattle.std.specs.Prelude.{ℕ, ◌≤◌, ◌<◌, ◌≡◌, refl, ◌⊎◌, ◌↔◌, Bool, cond, T, ltb}
use Rattle.std.proofs.Common.{sym, ap, ◌∙◌, subst, inl, inr, arith, lt-ltb, le-ltb, ltb→lt, nltb→le}
use Rattle.std.proofs.Math.Option.{Option, none, some, none-ne-some, some-injective}
use Rattle.limits.specs.Limits.{no_cost}
use Rattle.lists.specs.Tests.{by_fact, not_both}
use Rattle.lists.specs.Cheapest.{lowest_cheapest, LowestCheapest}
use Rattle.lists.proofs.Cheapest.{found_cheapest, cheapest_found, none_found}
use Rattle.answer.specs.Stated.{Stated, plan, shared, cell, sender, no_sender, refused}
use Rattle.cost_table.specs.Cheapest.{of_senders, LowestTo}
use Rattle.cost_table.proofs.laws.Senders.{finite_sender, lowest_sender, no_sender_lem}
use Rattle.questions.specs.Questions.{named, best_sender}

-- the site that an answer names
abbrev pub site_in : Stated → Option ℕ
site_in (sender v) = some v
site_in no_sender = none
site_in (shared root cost count rest) = none
site_in (plan root cost count) = none
site_in (cell cost) = none
site_in (refused family number place) = none

module _ (is_sender : ℕ → Bool) (c : ℕ → ℕ) (n : ℕ) where
  -- no sender's cell is finite
  abbrev pub NoneFinite : Type 0
  NoneFinite = (u : ℕ) → u < n → T (is_sender u) → no_cost ≤ c u

  -- the cheapest sender is named exactly where its cell is finite
  finite_named : (v : ℕ) → LowestCheapest is_sender c n v → c v < no_cost → best_sender is_sender c n ≡ sender v
  finite_named v cheapest finite =
      ap (named c) (cheapest_found is_sender c n v cheapest) ∙ ap (λ (b : Bool). cond b (sender v) no_sender) (lt-ltb _ _ finite)

  infinite_none : (v : ℕ) → LowestCheapest is_sender c n v → no_cost ≤ c v → best_sender is_sender c n ≡ no_sender
  infinite_none v cheapest infinite =
      ap (named c) (cheapest_found is_sender c n v cheapest) ∙ ap (λ (b : Bool). cond b (sender v) no_sender) (le-ltb _ _ infinite)

  -- the answer is a sender or "none", and what holds then
  abbrev pub Named : Type 0
  Named = (v : ℕ) × LowestCheapest is_sender c n v × (c v < no_cost) × (best_sender is_sender c n ≡ sender v)

  abbrev pub Unnamed : Type 0
  Unnamed = NoneFinite × (best_sender is_sender c n ≡ no_sender)

  pub answers : Named ⊎ Unnamed
  answers = go (lowest_cheapest is_sender c n) refl
    where
      go : (o : Option ℕ) → lowest_cheapest is_sender c n ≡ o → Named ⊎ Unnamed
      go none e = inr ((λ u l s. absurd (not_both (is_sender u) s (none_found is_sender c n e u l))), ap (named c) e)
      go (some v) e =
          let cheapest = found_cheapest is_sender c n v e in
          by_fact (ltb (c v) no_cost) (λ _. Named ⊎ Unnamed)
          (λ t. let finite = ltb→lt (c v) no_cost t in inl (v, cheapest, finite, finite_named v cheapest finite))
          (λ t.
          let infinite = nltb→le (c v) no_cost t in
          inr ((λ u l s. omega (arith, cheapest.cheapest u l s)), infinite_none v cheapest infinite))

  -- "Where several senders have the least cell, the enquirer names the lowest": a site is named exactly where it is the lowest of the senders whose
  -- cell is least, and that cell is finite
  pub named_iff : (v : ℕ) → (best_sender is_sender c n ≡ sender v) ↔ (LowestCheapest is_sender c n v × (c v < no_cost))
  named_iff v = ((λ e. there answers e), (λ (cheapest, finite). finite_named v cheapest finite))
    where
      there : Named ⊎ Unnamed → best_sender is_sender c n ≡ sender v → LowestCheapest is_sender c n v × (c v < no_cost)
      there (inl (u, cheapest, finite, is)) e =
          subst (λ (x : ℕ). LowestCheapest is_sender c n x × (c x < no_cost)) (some-injective u v (ap site_in (sym is ∙ e))) (cheapest, finite)
      there (inr (_, is)) e = absurd (none-ne-some v (ap site_in (sym is ∙ e)))

  -- "none" exactly where no sender's cell is finite
  pub none_iff : (best_sender is_sender c n ≡ no_sender) ↔ NoneFinite
  none_iff = ((λ e. there answers e), (λ none_finite. back answers none_finite))
    where
      there : Named ⊎ Unnamed → best_sender is_sender c n ≡ no_sender → NoneFinite
      there (inl (v, _, _, is)) e = absurd (none-ne-some v (ap site_in (sym e ∙ is)))
      there (inr (none_finite, _)) e = none_finite

      back : Named ⊎ Unnamed → NoneFinite → best_sender is_sender c n ≡ no_sender
      back (inl (v, cheapest, finite, _)) none_finite = absurd (omega (arith, none_finite v cheapest.below cheapest.passes))
      back (inr (_, is)) none_finite = is

  -- by the lowest of the sites that cost least, where a site that is no sender costs "none"; x is its cost
  module _ (v : ℕ) (lowest : LowestTo (of_senders is_sender c) n v) (x : ℕ) (is : x ≡ of_senders is_sender c v) where
    pub best_named : x < no_cost → best_sender is_sender c n ≡ sender v
    best_named low =
        let finite : of_senders is_sender c v < no_cost = subst (λ (y : ℕ). y < no_cost) is low in
        let (_, cost) = finite_sender is_sender c v finite in
        finite_named v (lowest_sender is_sender c n v lowest finite) (subst (λ (y : ℕ). y < no_cost) cost finite)

    pub best_none : no_cost ≤ x → best_sender is_sender c n ≡ no_sender
    best_none high =
        let (_, back) = none_iff in
        back (λ u l s. no_sender_lem is_sender c n v lowest (subst (λ (y : ℕ). no_cost ≤ y) is high) u l s)
