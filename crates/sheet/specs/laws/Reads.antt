-- Reading record after record: what one record adds to the reading, and the verdict where some records have been read, without a count
-- of turns.
-- Assumes nothing.
use Prim.Native.Nat.{ℕ, zero, suc, ◌+◌, ◌≤◌}
use Rattle.std.proofs.Math.Path.{◌≡◌, refl, sym}
use Rattle.std.proofs.Common.{◌∙◌, append_assoc, append-nil, arith, length-append, length-drop}
use Rattle.std.specs.Prelude.{List, [], ◌∷◌, ◌++◌, length, drop, Ok, Err, Some, None}
use Rattle.answer.specs.declared.SheetFault.{SheetFault}
use Rattle.subset.proofs.Unions.{unions_more}
use Rattle.records.specs.Records.{record_bytes, sizes, head_size, size}
use Rattle.records.specs.Landings.{heard_by}
use Rattle.records.proofs.laws.Appended.{size_low, sizes_append, count_more}
use Rattle.reading.specs.Steps.{after, found_in}
use Rattle.sheet.specs.Verdict.{good, bad, state_after, read_for, reading}
use Rattle.records.specs.declared.record.Record.{Record}
use Rattle.record_tests.specs.Tests.{Found}

-- ---- one record more

-- the state after one record more
pub state_more : (n k : ℕ) (records : List Record) (x : Record) → state_after n k (records ++ (x ∷ [])) ≡ after (state_after n k records) x
state_more n k records x =
    λ i. record { offset = offset_more i; n = n; k = k; arcs = count_more records x i; heard = record { 0 = unions_more heard_by records x i } }
  where
    offset_more : head_size + sizes (records ++ (x ∷ [])) ≡ head_size + sizes records + size x
    offset_more = omega (arith, sizes_append records (x ∷ []), length-append (record_bytes x) [])

-- ---- turns

-- one turn, by what is found
turn_item : (turns n k : ℕ) (records : List Record) (bytes : List ℕ) (x : Record) → found_in (state_after n k records) bytes ≡ Ok (Some x)
    → read_for (suc turns) n k records bytes ≡ read_for turns n k (records ++ (x ∷ [])) (drop (size x) bytes)
unfolding read_for
turn_item turns n k records bytes x e = rw (e, read_for)

turn_end : (turns n k : ℕ) (records : List Record) (bytes : List ℕ) → found_in (state_after n k records) bytes ≡ Ok None
    → read_for (suc turns) n k records bytes ≡ good n k records
unfolding read_for
turn_end turns n k records bytes e = rw (e, read_for)

turn_fault : (turns n k : ℕ) (records : List Record) (bytes : List ℕ) (f : SheetFault) → found_in (state_after n k records) bytes ≡ Err f
    → read_for (suc turns) n k records bytes ≡ bad f
unfolding read_for
turn_fault turns n k records bytes f e = rw (e, read_for)

-- where no bytes are left, one turn more finds the same
no_bytes : (turns n k : ℕ) (records : List Record) (bytes : List ℕ) → length bytes ≤ 0
    → read_for (suc turns) n k records bytes ≡ read_for zero n k records bytes
unfolding read_for
no_bytes turns n k records [] h = refl
no_bytes turns n k records (b ∷ bytes) h = absurd (omega arith)

-- any two numbers of turns that are enough give the same verdict
same_turns : (a b n k : ℕ) (records : List Record) (bytes : List ℕ) → length bytes ≤ a → length bytes ≤ b
    → read_for a n k records bytes ≡ read_for b n k records bytes
same_turns zero zero n k records bytes g h = refl
same_turns zero (suc b) n k records bytes g h = sym (no_bytes b n k records bytes g)
same_turns (suc a) zero n k records bytes g h = no_bytes a n k records bytes h
same_turns (suc a) (suc b) n k records bytes g h =
    go (λ x. same_turns a b n k (records ++ (x ∷ [])) (drop (size x) bytes) (shorter x a g) (shorter x b h)) (found_in (state_after n k records) bytes) refl
  where
    shorter : (x : Record) (turns : ℕ) → length bytes ≤ suc turns → length (drop (size x) bytes) ≤ turns
    shorter x turns l = omega (arith, length-drop (size x) bytes, size_low x)

    go : ((x : Record) → read_for a n k (records ++ (x ∷ [])) (drop (size x) bytes) ≡ read_for b n k (records ++ (x ∷ [])) (drop (size x) bytes))
        → (f : Found) → found_in (state_after n k records) bytes ≡ f → read_for (suc a) n k records bytes ≡ read_for (suc b) n k records bytes
    go same (Ok (Some x)) e = turn_item a n k records bytes x e ∙ same x ∙ sym (turn_item b n k records bytes x e)
    go same (Ok None) e = turn_end a n k records bytes e ∙ sym (turn_end b n k records bytes e)
    go same (Err f) e = turn_fault a n k records bytes f e ∙ sym (turn_fault b n k records bytes f e)

-- more turns change nothing
pub more_turns : (turns n k : ℕ) (records : List Record) (bytes : List ℕ) → length bytes ≤ turns → read_for turns n k records bytes ≡ reading n k records bytes
more_turns turns n k records bytes h = same_turns turns (length bytes) n k records bytes h (omega arith)

-- ---- the rule of reading, without turns

module _ (n k : ℕ) (records : List Record) (bytes : List ℕ) where
  -- one turn more than there are bytes
  one_more : reading n k records bytes ≡ read_for (suc (length bytes)) n k records bytes
  one_more = sym (more_turns (suc (length bytes)) n k records bytes (omega arith))

  pub reading_item : (x : Record) → found_in (state_after n k records) bytes ≡ Ok (Some x)
      → reading n k records bytes ≡ reading n k (records ++ (x ∷ [])) (drop (size x) bytes)
  reading_item x e =
      one_more ∙ turn_item (length bytes) n k records bytes x e
      ∙ more_turns (length bytes) n k (records ++ (x ∷ [])) (drop (size x) bytes) (omega (arith, length-drop (size x) bytes))

  pub reading_end : found_in (state_after n k records) bytes ≡ Ok None → reading n k records bytes ≡ good n k records
  reading_end e = one_more ∙ turn_end (length bytes) n k records bytes e

  pub reading_fault : (f : SheetFault) → found_in (state_after n k records) bytes ≡ Err f → reading n k records bytes ≡ bad f
  reading_fault f e = one_more ∙ turn_fault (length bytes) n k records bytes f e

-- ---- a good verdict

-- what holds at the end of a good reading, and before each record if it holds after it, holds wherever the rest is read to that verdict
module _ (n k n' k' : ℕ) (all : List Record) (P : List Record → List ℕ → Type 0)
    (at_end : (records : List Record) (bytes : List ℕ) → found_in (state_after n k records) bytes ≡ Ok None → good n k records ≡ good n' k' all
    → P records bytes)
    (at_item : (records : List Record) (bytes : List ℕ) (x : Record) → found_in (state_after n k records) bytes ≡ Ok (Some x)
    → P (records ++ (x ∷ [])) (drop (size x) bytes) → P records bytes)
  where
    in_turns : (turns : ℕ) (records : List Record) (bytes : List ℕ) → read_for turns n k records bytes ≡ good n' k' all → P records bytes
    unfolding read_for
    in_turns zero records bytes e = absurd (let z : ◌≡◌ {A = ℕ} 0 1 = cc in omega arith)
    in_turns (suc turns) records bytes e =
        go (λ x. in_turns turns (records ++ (x ∷ [])) (drop (size x) bytes)) (found_in (state_after n k records) bytes) refl
      where
        go : ((x : Record) → read_for turns n k (records ++ (x ∷ [])) (drop (size x) bytes) ≡ good n' k' all → P (records ++ (x ∷ [])) (drop (size x) bytes))
            → (f : Found) → found_in (state_after n k records) bytes ≡ f → P records bytes
        go later (Ok (Some x)) q = at_item records bytes x q (later x (sym (turn_item turns n k records bytes x q) ∙ e))
        go later (Ok None) q = at_end records bytes q (sym (turn_end turns n k records bytes q) ∙ e)
        go later (Err f) q =
            let b : bad f ≡ good n' k' all = sym (turn_fault turns n k records bytes f q) ∙ e in
            absurd (let z : ◌≡◌ {A = ℕ} 0 1 = cc b in omega arith)

    pub good_reading : (records : List Record) (bytes : List ℕ) → reading n k records bytes ≡ good n' k' all → P records bytes
    good_reading records bytes e = in_turns (length bytes) records bytes e

-- what has been read stays: a good verdict's records begin with those read so far
pub record Extends (n k : ℕ) (records : List Record) (n' k' : ℕ) (all : List Record) : Type 0 where
  pub same_n : n' ≡ n
  pub same_k : k' ≡ k
  pub more : List Record
  pub rest : all ≡ records ++ more

pub reading_extends : (n k : ℕ) (records : List Record) (bytes : List ℕ) (n' k' : ℕ) (all : List Record) → reading n k records bytes ≡ good n' k' all
    → Extends n k records n' k' all
reading_extends n k records bytes n' k' all = good_reading n k n' k' all (λ before left. Extends n k before n' k' all) at_end at_item records bytes
  where
    at_end : (before : List Record) (left : List ℕ) → found_in (state_after n k before) left ≡ Ok None → good n k before ≡ good n' k' all
        → Extends n k before n' k' all
    at_end before left q e =
        let same : all ≡ before = cc e in
        record { same_n = cc e; same_k = cc e; more = []; rest = same ∙ sym (append-nil before) }

    at_item : (before : List Record) (left : List ℕ) (x : Record) → found_in (state_after n k before) left ≡ Ok (Some x)
        → Extends n k (before ++ (x ∷ [])) n' k' all → Extends n k before n' k' all
    at_item before left x q later =
        record {
          same_n = later.same_n;
          same_k = later.same_k;
          more = x ∷ later.more;
          rest = later.rest ∙ append_assoc before (x ∷ []) later.more;
        }
