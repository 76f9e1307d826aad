-- The law beside the verdict: a byte string is a good sheet exactly where it is the bytes of a head, a list of records and `ED`, the head
-- in range, each record passing its own tests, with at most 8,192 legs and a landing for every station. That head and that list are unique.
-- Assumes nothing.
use Rattle.std.specs.Prelude.{ℕ, ◌+◌, ◌≤◌, ◌<◌, ◌≡◌, refl, List, [], ◌∷◌, ◌++◌, length, drop, Result, Ok, Err, Some, None}
use Rattle.std.proofs.Common.{sym, ap, ◌∙◌, subst, subst₂, append_assoc, append-nil, arith, length-append}
use Rattle.limits.specs.Limits.{min_nodes, max_nodes, min_terminals, max_terminals, max_arcs}
use Rattle.lists.specs.Every.{Every, every_drop}
use Rattle.subset.specs.Sets.{full}
use Rattle.number_fields.specs.Fields.{Bytes}
use Rattle.records.specs.Records.{RecordOk, head_bytes, record_bytes, records_bytes, end_bytes, head_size, size}
use Rattle.sheet.specs.laws.RecordLaws.{read_bytes, end_bytes_lem, head_bytes_lem, found_bytes, found_end_bytes, opening_bytes, drop_record}
use Rattle.records.specs.Arcs.{arcs_of, arcs}
use Rattle.records.specs.Landings.{Heard, heard}
use Rattle.records.proofs.laws.Heard.{all_heard, heard_all}
use Rattle.records.proofs.laws.Appended.{arcs_append}
use Rattle.reading.specs.Steps.{found_in}
use Rattle.reading.specs.laws.Found.{found_item, found_read, found_end}
use Rattle.sheet.specs.Verdict.{good, state_after, opening_of, reading, after_head, verdict}
use Rattle.sheet.specs.laws.Opened.{opening_opened}
use Rattle.sheet.specs.laws.Reads.{reading_item, reading_end, reading_extends, good_reading}
use Rattle.records.specs.declared.record.Record.{Record}
use Rattle.reading.specs.declared.Reading.{Reading}
use Rattle.answer.specs.declared.SheetFault.{SheetFault}

-- the byte string is that sheet
pub record IsSheet (s : List ℕ) (n k : ℕ) (records : List Record) : Type 0 where
  pub bytes : s ≡ head_bytes n k ++ (records_bytes records ++ end_bytes)
  pub nodes : (min_nodes ≤ n) × (n ≤ max_nodes)
  pub terminals : (min_terminals ≤ k) × (k ≤ max_terminals)
  pub each : Every (RecordOk n k) records
  pub few : length (arcs records) ≤ max_arcs
  pub heard : (i : ℕ) → i < k → Heard i records

-- the legs of some records, of one more and of those after it
arcs_split : (records : List Record) (x : Record) (more : List Record)
    → length (arcs (records ++ (x ∷ more))) ≡ length (arcs records) + length (arcs_of x) + length (arcs more)
arcs_split records x more =
    ap length (arcs_append records (x ∷ more))
    ∙ omega (arith, length-append (arcs records) (arcs_of x ++ arcs more), length-append (arcs_of x) (arcs more))

-- ---- a good verdict is of a sheet

-- what is left of a sheet whose records so far are given: the bytes of the other records and of the end
record Left (n k : ℕ) (all records : List Record) (bytes : List ℕ) : Type 0 where
  more : List Record
  whole : all ≡ records ++ more
  left : bytes ≡ records_bytes more ++ end_bytes
  each : Every (RecordOk n k) more
  few : length (arcs records) ≤ max_arcs → length (arcs all) ≤ max_arcs
  heard : heard all ≡ full k

module _ (n k n' k' : ℕ) (all : List Record) where
  left_end : (records : List Record) (bytes : List ℕ) → found_in (state_after n k records) bytes ≡ Ok None → good n k records ≡ good n' k' all
      → Bytes bytes → Left n k all records bytes
  left_end records bytes q e b =
      let end = found_end (state_after n k records) bytes q in
      let same : all ≡ records = cc e in
      record {
        more = [];
        whole = same ∙ sym (append-nil records);
        left = end_bytes_lem bytes b k (heard records) end;
        each = tt;
        few = λ h. subst (λ (l : List Record). length (arcs l) ≤ max_arcs) (sym same) h;
        heard = ap heard same ∙ end.all_heard;
      }

  left_item : (records : List Record) (bytes : List ℕ) (x : Record) → found_in (state_after n k records) bytes ≡ Ok (Some x)
      → (Bytes (drop (size x) bytes) → Left n k all (records ++ (x ∷ [])) (drop (size x) bytes)) → Bytes bytes → Left n k all records bytes
  left_item records bytes x q later b =
      let p = found_item (state_after n k records) bytes x q in
      let l = later (every_drop (λ (y : ℕ). y < 256) (size x) bytes b) in
      record {
        more = x ∷ l.more;
        whole = l.whole ∙ append_assoc records (x ∷ []) l.more;
        left =
            read_bytes bytes b x p.whole (found_read (state_after n k records) bytes x q)
            ∙ ap (λ (y : List ℕ). record_bytes x ++ y) l.left
            ∙ sym (append_assoc (record_bytes x) (records_bytes l.more) end_bytes);
        each = (p.ok, l.each);
        few = λ h. l.few (omega (arith, arcs_split records x [], p.few h));
        heard = l.heard;
      }

  left_reading : (records : List Record) (bytes : List ℕ) → reading n k records bytes ≡ good n' k' all → Bytes bytes → Left n k all records bytes
  left_reading = good_reading n k n' k' all (λ records bytes. Bytes bytes → Left n k all records bytes) left_end left_item

pub good_is_sheet : (s : List ℕ) → Bytes s → (n k : ℕ) (records : List Record) → verdict s ≡ good n k records → IsSheet s n k records
unfolding verdict
good_is_sheet s b n k records e = go (opening_of s) refl e
  where
    go : (o : Result Reading SheetFault) → opening_of s ≡ o → after_head s o ≡ good n k records → IsSheet s n k records
    go (Err f) q g = absurd (let z : ◌≡◌ {A = ℕ} 0 1 = cc g in omega arith)
    go (Ok r) q g =
        let head = opening_opened s r q in
        let same = reading_extends r.n r.k [] (drop head_size s) n k records g in
        let l = left_reading r.n r.k n k records [] (drop head_size s) g (every_drop (λ (y : ℕ). y < 256) head_size s b) in
        let whole = l.whole in
        let sheet : IsSheet s r.n r.k records =
        record {
          bytes =
              head_bytes_lem s b r head
              ∙ ap (λ (y : List ℕ). head_bytes r.n r.k ++ y) (l.left ∙ ap (λ (y : List Record). records_bytes y ++ end_bytes) (sym whole));
          nodes = head.nodes;
          terminals = head.terminals;
          each = subst (Every (RecordOk r.n r.k)) (sym whole) l.each;
          few = l.few (omega arith);
          heard = heard_all r.k records l.heard;
        }
        in
        subst₂ (λ (x y : ℕ). IsSheet s x y records) (sym same.same_n) (sym same.same_k) sheet

-- ---- a sheet has a good verdict

-- the rest of a sheet is read to its end
read_rest : (n k : ℕ) (records more : List Record) → n ≤ max_nodes → Every (RecordOk n k) more → length (arcs (records ++ more)) ≤ max_arcs
    → heard (records ++ more) ≡ full k → reading n k records (records_bytes more ++ end_bytes) ≡ good n k (records ++ more)
read_rest n k records [] small each few all =
    let same = append-nil records in
    reading_end n k records end_bytes (found_end_bytes (state_after n k records) (ap heard (sym same) ∙ all)) ∙ ap (good n k) (sym same)
read_rest n k records (x ∷ more) small each few all =
    let rest = records_bytes more ++ end_bytes in
    let same = append_assoc records (x ∷ []) more in
    ap (reading n k records) (append_assoc (record_bytes x) (records_bytes more) end_bytes)
    ∙ reading_item n k records (record_bytes x ++ rest) x
    (found_bytes (state_after n k records) x rest each.0 small (omega (arith, arcs_split records x more)))
    ∙ ap (reading n k (records ++ (x ∷ []))) (drop_record x rest)
    ∙ read_rest n k (records ++ (x ∷ [])) more small each.1
    (subst (λ (l : List Record). length (arcs l) ≤ max_arcs) (sym same) few) (ap heard same ∙ all)
    ∙ ap (good n k) same

pub sheet_is_good : (s : List ℕ) (n k : ℕ) (records : List Record) → IsSheet s n k records → verdict s ≡ good n k records
unfolding verdict
sheet_is_good s n k records sheet =
    let rest = records_bytes records ++ end_bytes in
    ap verdict sheet.bytes
    ∙ ap (after_head (head_bytes n k ++ rest)) (opening_bytes n k rest sheet.nodes sheet.terminals)
    ∙ read_rest n k [] records sheet.nodes.1 sheet.each sheet.few (all_heard n k records sheet.each sheet.heard)

-- a byte string is at most one sheet
pub one_sheet : (s : List ℕ) (n k : ℕ) (records : List Record) (n' k' : ℕ) (records' : List Record) → IsSheet s n k records → IsSheet s n' k' records'
    → (n ≡ n') × (k ≡ k') × (records ≡ records')
one_sheet s n k records n' k' records' one other =
    let e : good n k records ≡ good n' k' records' = sym (sheet_is_good s n k records one) ∙ sheet_is_good s n' k' records' other in
    (cc e, cc e, cc e)
