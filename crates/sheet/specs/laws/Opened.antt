-- What is known of a head that is found: which bytes it was read from, and that its numbers are in range.
-- Assumes nothing.
use Rattle.std.specs.Prelude.{ℕ, ◌≤◌, ◌≡◌, refl, Bool, false, cond, not, List, [], length, drop, ltb, eqb, Result, Ok, Err, Option}
use Rattle.std.proofs.Math.Path.{subst}
use Rattle.std.proofs.Common.{ltb-false, eqb-true}
use Rattle.std.proofs.lemmas.Bool.{not-false}
use Rattle.limits.specs.Limits.{min_nodes, min_terminals, max_nodes, max_terminals}
use Rattle.limits.specs.Marks.{mark_hd}
use Rattle.answer.specs.declared.SheetFault.{SheetFault}
use Rattle.number_fields.specs.Fields.{number8, number16}
use Rattle.records.specs.Records.{head_fields, head_size}
use Rattle.record_tests.proofs.laws.Passed.{cond_both, enough}
use Rattle.sheet.specs.Verdict.{state_after, head_found, opening_of}
use Rattle.records.specs.declared.fields.Head.{Head}
use Rattle.reading.specs.declared.Reading.{Reading}

-- the state after a head: n and k are read from the bytes and in range
pub record OpenedOk (s : List ℕ) (r : Reading) : Type 0 where
  pub state : r ≡ state_after r.n r.k []
  pub nodes : (min_nodes ≤ r.n) × (r.n ≤ max_nodes)
  pub terminals : (min_terminals ≤ r.k) × (r.k ≤ max_terminals)
  pub whole : head_size ≤ length s
  pub mark_is : number16 s 0 ≡ mark_hd
  pub n_is : number16 (drop 2 s) 0 ≡ r.n
  pub k_is : number8 (drop 2 s) 2 ≡ r.k

-- what is known where the reading starts so
OpeningKnown : List ℕ → Result Reading SheetFault → Type 0
OpeningKnown s (Ok r) = OpenedOk s r
OpeningKnown s (Err f) = Unit {0}

module _ (s : List ℕ) where
  not_opened_known : (f : SheetFault) → OpeningKnown s (Err f)
  unfolding OpeningKnown
  not_opened_known f = tt

  opened_known : (r : Reading) → OpenedOk s r → OpeningKnown s (Ok r)
  unfolding OpeningKnown
  opened_known r e = e

  head_test : (b : Bool) (f : SheetFault) (y : Result Reading SheetFault) → (b ≡ false → OpeningKnown s y) → OpeningKnown s (cond b (Err f) y)
  head_test b f y g = cond_both (OpeningKnown s) b (Err f) y (λ _. not_opened_known f) g

  head_known : 2 ≤ length s → number16 s 0 ≡ mark_hd → OpeningKnown s (head_found (head_fields (drop 2 s)))
  head_known two mark_is =
      let n = number16 (drop 2 s) 0 in
      let k = number8 (drop 2 s) 2 in
      cond_both (λ (f : Option Head). OpeningKnown s (head_found f)) (ltb (length (drop 2 s)) 3) _ _
      (λ _. not_opened_known _)
      (λ e.
      head_test (ltb n min_nodes) _ _ (λ t1.
      head_test (ltb max_nodes n) _ _ (λ t2.
      head_test (ltb k min_terminals) _ _ (λ t3.
      head_test (ltb max_terminals k) _ _ (λ t4.
      opened_known (state_after n k [])
      (record {
        state = refl;
        nodes = (ltb-false n min_nodes t1, ltb-false max_nodes n t2);
        terminals = (ltb-false k min_terminals t3, ltb-false max_terminals k t4);
        whole = enough s 3 e two;
        mark_is = mark_is;
        n_is = refl;
        k_is = refl;
      }))))))

  opening_known : OpeningKnown s (opening_of s)
  opening_known =
      head_test (ltb (length s) 2) _ _ (λ short.
      head_test (not (eqb (number16 s 0) mark_hd)) _ _ (λ e.
      head_known (ltb-false (length s) 2 short) (eqb-true (number16 s 0) mark_hd (not-false (eqb (number16 s 0) mark_hd) e))))

  pub opening_opened : (r : Reading) → opening_of s ≡ Ok r → OpenedOk s r
  unfolding OpeningKnown
  opening_opened r e = subst (OpeningKnown s) e opening_known
