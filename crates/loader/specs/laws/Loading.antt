-- Loading a good sheet record after record: the tables hold the records that have been read, at the end all of them, and with the flags of the
-- senders the sheet.
-- Assumes nothing.
use Rattle.std.specs.Prelude.{ℕ, ◌+◌, ◌-◌, ◌≤◌, ◌<◌, ◌≡◌, refl, List, [], ◌∷◌, ◌++◌, length, take, drop, replicate}
use Rattle.std.proofs.Common.{sym, ap, ap₂, ◌∙◌, subst, append_assoc, append-nil, arith, length-append}
use Rattle.limits.specs.Limits.{max_terminals, max_arcs}
use Rattle.lists.specs.Every.{Every, every_right}
use Rattle.lists.specs.Rest.{take_rest}
use Rattle.lent_tables.specs.SheetTables.{SheetTables, with_landings, Long, SameLengths, long_same, long_fewer, long_arcs}
use Rattle.records.specs.Records.{record_bytes, records_bytes, end_bytes, sizes, head_size, size, RecordOk}
use Rattle.records.specs.Arcs.{arcs_of, arcs}
use Rattle.sheet.specs.Verdict.{Verdict, good, bad, verdict}
use Rattle.sheet.specs.laws.Good.{IsSheet, sheet_is_good}
use Rattle.records.proofs.laws.Appended.{size_low, arcs_append, sizes_append, count_more}
use Rattle.loader.specs.laws.FirstRecord.{WholeRecord, first_record, whole_record, first_record_lem, sheet_length, bytes_left}
use Rattle.records.specs.declared.record.Record.{Record}
use Rattle.records.specs.declared.record.Record.TheVariants.{OneWay, BothWays, Landing, Sender}
use Rattle.loader.specs.LoadedBy.{loaded_by}
use Rattle.record_tables.specs.laws.Writing.{with_record, EntryFits, Fits, read_in, read_lengths, read_more, read_none, read_anew}
use Rattle.record_tables.specs.laws.Flagged.{flagged_loaded}
use Rattle.landing_entries.specs.laws.Flags.{flagged_unless_some}

-- a sheet with n sites, and tables that are long enough for it
pub record Loadable (s : List ℕ) (n : ℕ) (t : SheetTables) : Type 0 where
  pub k : ℕ
  pub records : List Record
  pub sheet : IsSheet s n k records
  pub long : Long n (length (arcs records)) t

-- a loading underway: the next record, or the end, stands at the place `at`, so many legs have been read, and the tables, which held t₀ before,
-- hold the records that have been read
pub record Loading (s : List ℕ) (t₀ : SheetTables) (at count : ℕ) (t : SheetTables) : Type 0 where
  pub n : ℕ
  pub loadable : Loadable s n t₀
  pub done : List Record
  pub more : List Record
  pub whole : loadable.records ≡ done ++ more
  pub place : at ≡ head_size + sizes done
  pub counted : count ≡ length (arcs done)
  pub holds : t ≡ read_in n done t₀

-- the tables when the records of a sheet with this verdict have been read
abbrev pub read_by : Verdict → SheetTables → SheetTables
read_by (good n k records) t = read_in n records t
read_by (bad fault) t = t

-- ---- before the first record, and after the last

-- the first n landing entries are empty
abbrev pub cleared : ℕ → SheetTables → SheetTables
cleared n t = with_landings (replicate n 0 ++ drop n t.landings) t

module _ (s : List ℕ) (n : ℕ) (t : SheetTables) (l : Loadable s n t) where
  cleared_is : cleared n t ≡ read_in n [] t
  cleared_is = sym (read_none n [] t)

  pub loading_opened : Loading s (cleared n t) head_size 0 (cleared n t)
  loading_opened =
      let none : Long n 0 t = long_fewer n 0 (length (arcs l.records)) t (omega arith) l.long in
      let same : SameLengths (cleared n t) t = subst (λ (t' : SheetTables). SameLengths t' t) (sym cleared_is) (read_lengths n [] t none) in
      record {
        n = n;
        loadable = record { k = l.k; records = l.records; sheet = l.sheet; long = long_same same l.long };
        done = [];
        more = l.records;
        whole = refl;
        place = refl;
        counted = refl;
        holds = cleared_is ∙ sym (read_anew n [] t) ∙ ap (read_in n []) (sym cleared_is);
      }

  good_is : verdict s ≡ good n l.k l.records
  good_is = sheet_is_good s n l.k l.records l.sheet

  read_all : read_by (verdict s) (cleared n t) ≡ read_in n l.records t
  read_all =
      ap (λ (v : Verdict). read_by v (cleared n t)) good_is
      ∙ ap (read_in n l.records) cleared_is
      ∙ read_anew n l.records t

  -- with the flags the tables hold the sheet
  pub loaded_flagged : (t' : SheetTables) (landings : List ℕ) → t' ≡ read_by (verdict s) (cleared n t) → landings ≡ flagged_unless_some n t'.landings
      → with_landings landings t' ≡ loaded_by (verdict s) t
  loaded_flagged t' landings e flagged =
      ap (λ (l : List ℕ). with_landings l t') flagged
      ∙ ap (λ (u : SheetTables). with_landings (flagged_unless_some n u.landings) u) (e ∙ read_all)
      ∙ flagged_loaded n l.k l.records t l.sheet.terminals.1 l.sheet.each
      ∙ sym (ap (λ (v : Verdict). loaded_by v t) good_is)

-- ---- one record more

entry_fits : (n k nodes : ℕ) (x : Record) → RecordOk n k x → n ≤ nodes → k ≤ max_terminals → EntryFits x nodes
entry_fits n k nodes (OneWay start end weight) ok h b = tt
entry_fits n k nodes (BothWays start end weight) ok h b = tt
entry_fits n k nodes (Landing terminal node) ok h b = (omega (arith, ok.1), omega (arith, ok.0))
entry_fits n k nodes (Sender node) ok h b = omega arith

-- the record that stands next
record NextRecord (n k : ℕ) (more left : List Record) (bytes : List ℕ) (x : Record) : Type 0 where
  pub is : more ≡ x ∷ left
  pub first : first_record bytes ≡ x
  pub whole : WholeRecord bytes
  pub ok : RecordOk n k x

module _ (s : List ℕ) (t₀ : SheetTables) (at count : ℕ) (t : SheetTables) (l : Loading s t₀ at count t) where
  abbrev sheet : IsSheet s l.n l.loadable.k l.loadable.records
  sheet = l.loadable.sheet

  -- the place and the end of the sheet
  places : length s ≡ at + sizes l.more + length end_bytes
  places =
      let all = sheet_length s l.n l.loadable.k l.loadable.records sheet in
      omega (arith, all, ap sizes l.whole, sizes_append l.done l.more, l.place)

  left_is : drop at s ≡ records_bytes l.more ++ end_bytes
  left_is = ap (λ (i : ℕ). drop i s) l.place ∙ bytes_left s l.n l.loadable.k l.loadable.records sheet l.done l.more l.whole

  -- there is room before the end
  pub end_fits : length end_bytes ≤ length s
  end_fits = omega (arith, places)

  -- at the end all records have been read
  pub loading_end : length s ≤ at + length end_bytes → t ≡ read_by (verdict s) t₀
  loading_end ended = go l.more l.whole places
    where
      go : (more : List Record) → l.loadable.records ≡ l.done ++ more → length s ≡ at + sizes more + length end_bytes → t ≡ read_by (verdict s) t₀
      go [] whole p =
          l.holds ∙ ap (λ (records : List Record). read_in l.n records t₀) (sym (whole ∙ append-nil l.done))
          ∙ sym (ap (λ (v : Verdict). read_by v t₀) (sheet_is_good s l.n l.loadable.k l.loadable.records sheet))
      go (x ∷ more) whole p = absurd (omega (arith, p, length-append (record_bytes x) (records_bytes more), size_low x))

  -- before the end another record stands at the place
  module _ (before : at + length end_bytes < length s) where
    next : (x : Record) × (left : List Record) × NextRecord l.n l.loadable.k l.more left (drop at s) x
    next = go l.more refl places left_is
      where
        go : (more : List Record) → l.more ≡ more → length s ≡ at + sizes more + length end_bytes → drop at s ≡ records_bytes more ++ end_bytes
            → (x : Record) × (left : List Record) × NextRecord l.n l.loadable.k l.more left (drop at s) x
        go [] e p bytes = absurd (omega arith)
        go (x ∷ left) e p bytes =
            let rest = records_bytes left ++ end_bytes in
            let here : drop at s ≡ record_bytes x ++ rest = bytes ∙ append_assoc (record_bytes x) (records_bytes left) end_bytes in
            let each = every_right (RecordOk l.n l.loadable.k) l.done l.more (subst (Every (RecordOk l.n l.loadable.k)) l.whole sheet.each) in
            let ok : RecordOk l.n l.loadable.k x = (subst (Every (RecordOk l.n l.loadable.k)) e each).0 in (
              x,
              left,
              record {
                is = e;
                first = ap first_record here ∙ first_record_lem l.n l.loadable.k x rest sheet.nodes.1 ok;
                whole = subst WholeRecord (sym here) (whole_record x rest);
                ok = ok;
              },
            )

    -- the part of the sheet from the place on, as code takes it, begins with a whole record
    pub loading_whole : WholeRecord (take (length s - at) (drop at s))
    loading_whole = let (x, left, r) = next in subst WholeRecord (sym (take_rest at s)) r.whole

    module _ (x : Record) (read : x ≡ first_record (take (length s - at) (drop at s))) where
      -- it is the one that is read from there
      found : (left : List Record) × NextRecord l.n l.loadable.k l.more left (drop at s) x
      found =
          let (y, left, r) = next in
          (left, subst (NextRecord l.n l.loadable.k l.more left (drop at s)) (sym (read ∙ ap first_record (take_rest at s) ∙ r.first)) r)

      whole_more : l.loadable.records ≡ (l.done ++ (x ∷ [])) ++ found.0
      whole_more = l.whole ∙ ap (λ (more : List Record). l.done ++ more) found.1.is ∙ sym (append_assoc l.done (x ∷ []) found.0)

      counts : length (arcs l.loadable.records) ≡ count + length (arcs_of x) + length (arcs found.0)
      counts =
          omega (
            arith,
            ap (λ (records : List Record). length (arcs records)) whole_more,
            ap length (arcs_append (l.done ++ (x ∷ [])) found.0),
            length-append (arcs (l.done ++ (x ∷ []))) (arcs found.0),
            count_more l.done x,
            l.counted,
          )

      -- the tables are long enough for it
      long_next : Long l.n (length (arcs (l.done ++ (x ∷ [])))) t₀
      long_next =
          long_fewer l.n (length (arcs (l.done ++ (x ∷ [])))) (length (arcs l.loadable.records)) t₀
          (omega (arith, counts, count_more l.done x, l.counted)) l.loadable.long

      pub loading_fits : Fits count x t
      loading_fits =
          let more = count_more l.done x in
          let h = long_next in
          let now_long : Long l.n (length (arcs l.done)) t₀ = long_fewer l.n (length (arcs l.done)) (length (arcs (l.done ++ (x ∷ [])))) t₀ (omega (arith, more)) h in
          let same : SameLengths t t₀ = subst (λ (t' : SheetTables). SameLengths t' t₀) (sym l.holds) (read_lengths l.n l.done t₀ now_long) in
          record {
            arcs = subst (λ (i : ℕ). Long 0 i t) (omega (arith, l.counted, more)) (long_arcs (long_same same h));
            landings = entry_fits l.n l.loadable.k (length t.landings) x found.1.ok (omega (arith, same.landings, h.landings)) sheet.terminals.1;
          }

      -- the place after it is within the sheet, and the legs are not too many
      pub place_fits : at + size x ≤ length s
      place_fits = omega (arith, places, ap sizes found.1.is, length-append (record_bytes x) (records_bytes found.0))

      pub count_fits : count + length (arcs_of x) ≤ max_arcs
      count_fits = omega (arith, counts, sheet.few)

      -- less is left
      pub loading_falls : (bytes : ℕ) → bytes ≡ size x → length s - (at + bytes) < length s - at
      loading_falls bytes so-long = omega (arith, place_fits, size_low x)

      pub loading_next : (bytes legs : ℕ) → bytes ≡ size x → legs ≡ length (arcs_of x) → (t' : SheetTables) → t' ≡ with_record count x t
          → Loading s t₀ (at + bytes) (count + legs) t'
      loading_next bytes legs so-long so_many t' written =
          record {
            n = l.n;
            loadable = l.loadable;
            done = l.done ++ (x ∷ []);
            more = found.0;
            whole = whole_more;
            place = omega (arith, l.place, so-long, sizes_append l.done (x ∷ []), length-append (record_bytes x) []);
            counted = omega (arith, l.counted, so_many, count_more l.done x);
            holds =
                written ∙ ap₂ (λ (i : ℕ) (t'' : SheetTables). with_record i x t'') l.counted l.holds
                ∙ read_more l.n l.done t₀ l.loadable.k x found.1.ok long_next;
          }
