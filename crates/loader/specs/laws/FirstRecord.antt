-- The record that bytes begin with, by its mark alone: of bytes that begin with the bytes of a record it is that record. What a sheet's bytes are
-- from each of its records on. So a sheet that is known to be good is read again without a test.
-- Assumes nothing.
use Rattle.std.specs.Prelude.{ℕ, ◌+◌, ◌-◌, ◌≤◌, ◌≡◌, refl, ◌≢◌, Bool, true, false, cond, List, ◌++◌, length, take, drop, eqb}
use Rattle.std.proofs.Common.{sym, ap, ◌∙◌, append_assoc, add-zero, arith, length-append, length-drop, eq-eqb, ne_eqb}
use Rattle.std.proofs.Math.Seq.{drop-append-add}
use Rattle.limits.specs.Limits.{max_nodes}
use Rattle.limits.specs.Marks.{mark_bk, mark_st, mark_sr}
use Rattle.lists.specs.Joined.{joined_append}
use Rattle.lists.specs.Rest.{take_rest}
use Rattle.number_fields.specs.Fields.{number16, bytes16, bytes32}
use Rattle.number_fields.specs.laws.FieldLaws.{number16_bytes, number32_bytes}
use Rattle.records.specs.Records.{RecordOk, link_in, landing_in, head_bytes, record_bytes, records_bytes, end_bytes, sizes, head_size}
use Rattle.sheet.specs.laws.Good.{IsSheet}
use Rattle.records.specs.declared.fields.Link.{Link}
use Rattle.records.specs.declared.fields.Landing.{Landing as LandingAt}
use Rattle.records.specs.declared.record.Record.{Record}
use Rattle.records.specs.declared.record.Record.TheVariants.{OneWay, BothWays, Landing, Sender}

-- the bytes are as long as the record whose mark they begin with: 4 bytes for `SR`, 5 for `ST`, 10 for any other
pub record WholeRecord (bytes : List ℕ) : Type 0 where
  pub sender : 4 ≤ length bytes
  pub landing : number16 bytes 0 ≢ mark_sr → 5 ≤ length bytes
  pub link : number16 bytes 0 ≢ mark_sr → number16 bytes 0 ≢ mark_st → 10 ≤ length bytes

-- a link: `BK`, else `LK`
abbrev pub other_record : Bool → List ℕ → Record
other_record both bytes =
    cond both (BothWays (link_in (drop 2 bytes)).start (link_in (drop 2 bytes)).end (link_in (drop 2 bytes)).weight)
    (OneWay (link_in (drop 2 bytes)).start (link_in (drop 2 bytes)).end (link_in (drop 2 bytes)).weight)

-- the record by the mark: `SR`, `ST`, and a link for any other
abbrev pub first_record : List ℕ → Record
first_record bytes =
    cond (eqb (number16 bytes 0) mark_sr) (Sender (number16 (drop 2 bytes) 0))
    (cond (eqb (number16 bytes 0) mark_st) (Landing (landing_in (drop 2 bytes)).terminal (landing_in (drop 2 bytes)).node)
    (other_record (eqb (number16 bytes 0) mark_bk) bytes))

-- as code reads it: the mark, and the fields from the part after it
module _ (bytes : List ℕ) (mark : ℕ) (is : mark ≡ number16 bytes 0) where
  by_marks : (a b c : Bool) → eqb mark mark_sr ≡ a → eqb mark mark_st ≡ b → eqb mark mark_bk ≡ c
      → cond a (Sender (number16 (drop 2 bytes) 0))
      (cond b (Landing (landing_in (drop 2 bytes)).terminal (landing_in (drop 2 bytes)).node) (other_record c bytes))
      ≡ first_record bytes
  by_marks a b c e f g = rw (← is, e, f, g)

  pub first_sender : (v : ℕ) → v ≡ number16 (take (length bytes - 2) (drop 2 bytes)) 0 → mark ≡ mark_sr → Sender v ≡ first_record bytes
  first_sender v read sr =
      ap Sender (read ∙ ap (λ (l : List ℕ). number16 l 0) (take_rest 2 bytes))
      ∙ by_marks true (eqb mark mark_st) (eqb mark mark_bk) (eq-eqb mark mark_sr sr) refl refl

  module _ (unlicensed : mark ≢ mark_sr) where
    -- the part after the mark has the fields of a landing
    pub landing_whole : WholeRecord bytes → 3 ≤ length (take (length bytes - 2) (drop 2 bytes))
    landing_whole whole =
        let long = whole.landing (λ e. unlicensed (is ∙ e)) in
        omega (arith, ap length (take_rest 2 bytes), length-drop 2 bytes)

    pub first_landing : (l : LandingAt) → l ≡ landing_in (take (length bytes - 2) (drop 2 bytes)) → mark ≡ mark_st
        → Landing l.terminal l.node ≡ first_record bytes
    first_landing l read st =
        ap (λ (x : LandingAt). Landing x.terminal x.node) (read ∙ ap landing_in (take_rest 2 bytes))
        ∙ by_marks false true (eqb mark mark_bk) (ne_eqb mark mark_sr unlicensed) (eq-eqb mark mark_st st) refl

    module _ (other : mark ≢ mark_st) where
      -- the part after the mark has the fields of a link
      pub link_whole : WholeRecord bytes → 8 ≤ length (take (length bytes - 2) (drop 2 bytes))
      link_whole whole =
          let long = whole.link (λ e. unlicensed (is ∙ e)) (λ e. other (is ∙ e)) in
          omega (arith, ap length (take_rest 2 bytes), length-drop 2 bytes)

      module _ (l : Link) (read : l ≡ link_in (take (length bytes - 2) (drop 2 bytes))) where
        pub first_both : mark ≡ mark_bk → BothWays l.start l.end l.weight ≡ first_record bytes
        first_both bk =
            ap (λ (x : Link). BothWays x.start x.end x.weight) (read ∙ ap link_in (take_rest 2 bytes))
            ∙ by_marks false false true (ne_eqb mark mark_sr unlicensed) (ne_eqb mark mark_st other) (eq-eqb mark mark_bk bk)

        pub first_one : mark ≢ mark_bk → OneWay l.start l.end l.weight ≡ first_record bytes
        first_one lk =
            ap (λ (x : Link). OneWay x.start x.end x.weight) (read ∙ ap link_in (take_rest 2 bytes))
            ∙ by_marks false false false (ne_eqb mark mark_sr unlicensed) (ne_eqb mark mark_st other) (ne_eqb mark mark_bk lk)

-- ---- bytes that begin with a record

pub whole_record : (x : Record) (rest : List ℕ) → WholeRecord (record_bytes x ++ rest)
whole_record (OneWay start end weight) rest = record { sender = omega arith; landing = λ _. omega arith; link = λ _ _. omega arith }
whole_record (BothWays start end weight) rest = record { sender = omega arith; landing = λ _. omega arith; link = λ _ _. omega arith }
whole_record (Landing terminal node) rest = record { sender = omega arith; landing = λ _. omega arith; link = λ _ other. absurd (other refl) }
whole_record (Sender node) rest =
    record { sender = omega arith; landing = λ unlicensed. absurd (unlicensed refl); link = λ unlicensed _. absurd (unlicensed refl) }

pub first_record_lem : (n k : ℕ) (x : Record) (rest : List ℕ) → n ≤ max_nodes → RecordOk n k x → first_record (record_bytes x ++ rest) ≡ x
first_record_lem n k (OneWay start end weight) rest few ok =
    λ i. OneWay
    (number16_bytes start (bytes16 end ++ bytes32 weight ++ rest) (omega (arith, ok.start_below)) i)
    (number16_bytes end (bytes32 weight ++ rest) (omega (arith, ok.end_below)) i)
    (number32_bytes weight rest (omega (arith, ok.high)) i)
first_record_lem n k (BothWays start end weight) rest few ok =
    λ i. BothWays
    (number16_bytes start (bytes16 end ++ bytes32 weight ++ rest) (omega (arith, ok.start_below)) i)
    (number16_bytes end (bytes32 weight ++ rest) (omega (arith, ok.end_below)) i)
    (number32_bytes weight rest (omega (arith, ok.high)) i)
first_record_lem n k (Landing terminal node) rest few ok = λ i. Landing terminal (number16_bytes node rest (omega (arith, ok.1)) i)
first_record_lem n k (Sender node) rest few ok = λ i. Sender (number16_bytes node rest (omega arith) i)

-- ---- the bytes of a sheet from one of its records on

module _ (s : List ℕ) (n k : ℕ) (records : List Record) (sheet : IsSheet s n k records) where
  -- how long it is
  pub sheet_length : length s ≡ head_size + sizes records + length end_bytes
  sheet_length = ap length sheet.bytes ∙ omega (arith, length-append (records_bytes records) end_bytes)

  module _ (done more : List Record) (whole : records ≡ done ++ more) where
    -- after the head and some records the others stand, and the end
    pub bytes_left : drop (head_size + sizes done) s ≡ records_bytes more ++ end_bytes
    bytes_left =
        ap (drop (head_size + sizes done))
        (sheet.bytes ∙ ap (λ (l : List ℕ). head_bytes n k ++ (l ++ end_bytes)) (ap records_bytes whole ∙ joined_append record_bytes done more)
        ∙ ap (λ (l : List ℕ). head_bytes n k ++ l) (append_assoc (records_bytes done) (records_bytes more) end_bytes))
        ∙ drop-append-add (head_bytes n k) (records_bytes done ++ (records_bytes more ++ end_bytes)) (sizes done)
        ∙ ap (λ (i : ℕ). drop i (records_bytes done ++ (records_bytes more ++ end_bytes))) (sym (add-zero (sizes done)))
        ∙ drop-append-add (records_bytes done) (records_bytes more ++ end_bytes) 0
