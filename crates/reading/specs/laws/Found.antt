-- What is known of a reading state and of the bytes that are left where a record or the end is found.
-- Assumes nothing.
use Rattle.std.specs.Prelude.{ℕ, ◌≡◌, Ok, Some, None, List, length, ltb, eqb}
use Rattle.std.proofs.Math.Path.{subst}
use Rattle.std.proofs.Common.{ltb-false, eqb-true}
use Rattle.limits.specs.Marks.{mark_lk, mark_bk, mark_st, mark_sr, mark_ed}
use Rattle.number_fields.specs.Fields.{number16}
use Rattle.record_tests.proofs.laws.Passed.{Passed, ReadFrom, EndOk, Known, cond_both, fault_known, test, one_way_known, both_ways_known, landing_known, sender_known, mark_end_known}
use Rattle.reading.specs.Steps.{found_in}
use Rattle.records.specs.declared.record.Record.{Record}
use Rattle.reading.specs.declared.Reading.{Reading}

module _ (r : Reading) (bytes : List ℕ) where
  found_known : Known r.n r.k r.arcs r.heard.0 bytes (found_in r bytes)
  found_known =
      let mark = number16 bytes 0 in
      let at = r.offset in
      let n = r.n in
      let k = r.k in
      let legs = r.arcs in
      let heard = r.heard.0 in
      let P = Known n k legs heard bytes in
      test at n k legs heard bytes (ltb (length bytes) 2) _ _ (λ short.
      let two = ltb-false (length bytes) 2 short in
      cond_both P (eqb mark mark_lk) _ _ (λ e. one_way_known at n k legs heard bytes two (eqb-true mark mark_lk e)) (λ _.
      cond_both P (eqb mark mark_bk) _ _ (λ e. both_ways_known at n k legs heard bytes two (eqb-true mark mark_bk e)) (λ _.
      cond_both P (eqb mark mark_st) _ _ (λ e. landing_known at n k legs heard bytes two (eqb-true mark mark_st e)) (λ _.
      cond_both P (eqb mark mark_sr) _ _ (λ e. sender_known at n k legs heard bytes two (eqb-true mark mark_sr e)) (λ _.
      cond_both P (eqb mark mark_ed) _ _ (λ e. mark_end_known at n k legs heard bytes two (eqb-true mark mark_ed e)) (λ _.
      fault_known at n k legs heard bytes _))))))

  -- the record passes its tests
  pub found_item : (x : Record) → found_in r bytes ≡ Ok (Some x) → Passed r.n r.k r.arcs bytes x
  unfolding Known
  found_item x e = (subst (Known r.n r.k r.arcs r.heard.0 bytes) e found_known).0

  -- and the bytes that it was read from
  pub found_read : (x : Record) → found_in r bytes ≡ Ok (Some x) → ReadFrom bytes x
  unfolding Known
  found_read x e = (subst (Known r.n r.k r.arcs r.heard.0 bytes) e found_known).1

  pub found_end : found_in r bytes ≡ Ok None → EndOk r.k r.heard.0 bytes
  unfolding Known
  found_end e = subst (Known r.n r.k r.arcs r.heard.0 bytes) e found_known
