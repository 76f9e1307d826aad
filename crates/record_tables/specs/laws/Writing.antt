-- What one record writes into the tables, and that the tables then hold one record more.
-- Assumes nothing.
use Prim.Native.Nat.{ℕ, ◌+◌, ◌≤◌, ◌<◌}
use Rattle.std.specs.Prelude.{◌≡◌, refl, ◌≢◌, replicate}
use Rattle.std.proofs.Math.Path.{sym, ap, ap₂}
use Rattle.std.proofs.Common.{◌∙◌, subst, arith, length-append}
use mathlib.Core.List.{List, [], ◌∷◌, ◌++◌, map, append_assoc, append-nil}
use Rattle.std.proofs.Math.ListN.{length, get_or, drop, set}
use Rattle.std.proofs.lemmas.List.{length-map}
use Rattle.limits.specs.Limits.{max_terminals, sender_flag}
use Rattle.lists.specs.Numbers.{length_values, get_d_values, constant_values}
use Rattle.lists.specs.Over.{over, over_more, over_set, over_over, get_d_over, length_over}
use Rattle.subset.specs.Sets.{single, union}
use Rattle.records.specs.Arcs.{Arc, arcs_of, arcs}
use Rattle.records.specs.Senders.{landing_entry, landing_entries}
use Rattle.records.specs.Records.{RecordOk}
use Rattle.records.proofs.laws.Appended.{arcs_more, count_more}
use Rattle.records.proofs.laws.Entries.{joins, joined_at, joined_entries, joined_none, joined_one, landing_joins, landing_joins_not, sender_joins, sender_joins_not}
use Rattle.lent_tables.specs.SheetTables.{SheetTables, with_arc_tables, with_landings, Long, SameLengths, long_fewer}
use Rattle.record_tables.specs.Loaded.{filled, loaded}
use Rattle.records.specs.declared.record.Record.{Record}
use Rattle.records.specs.declared.record.Record.TheVariants.{OneWay, BothWays, Landing, Sender}

-- ---- what one record writes

-- leg i
abbrev pub with_arc : ℕ → Arc → SheetTables → SheetTables
with_arc i a t = with_arc_tables (set t.starts i a.start) (set t.ends i a.end) (set t.weights i a.weight) t

-- the legs from leg i on
abbrev pub with_arcs : ℕ → List Arc → SheetTables → SheetTables
with_arcs i [] t = t
with_arcs i (a ∷ list) t = with_arcs (i + 1) list (with_arc i a t)

-- something joins the entry of a site: the station of a landing, or the flag of a sender
abbrev pub with_joined : (node more : ℕ) → SheetTables → SheetTables
with_joined node more t = with_landings (set t.landings node (union (get_or t.landings node 0) more)) t

abbrev pub with_entry : Record → SheetTables → SheetTables
with_entry (OneWay start end weight) t = t
with_entry (BothWays start end weight) t = t
with_entry (Landing terminal node) t = with_joined node (single terminal) t
with_entry (Sender node) t = with_joined node sender_flag t

-- a record, where i legs stand in the tables
abbrev pub with_record : ℕ → Record → SheetTables → SheetTables
with_record i x t = with_entry x (with_arcs i (arcs_of x) t)

-- the site of a landing or a sender is in a table of that length, and the station is one of ten
abbrev pub EntryFits : Record → ℕ → Type 0
EntryFits (OneWay start end weight) nodes = Unit {0}
EntryFits (BothWays start end weight) nodes = Unit {0}
EntryFits (Landing terminal node) nodes = (node < nodes) × (terminal < max_terminals)
EntryFits (Sender node) nodes = node < nodes

-- the tables have room for a record after i legs
pub record Fits (i : ℕ) (x : Record) (t : SheetTables) : Type 0 where
  pub arcs : Long 0 (i + length (arcs_of x)) t
  pub landings : EntryFits x (length t.landings)

-- ---- what the code writes, table by table

module _ (i : ℕ) {start end weight : ℕ} (x : Record) (t : SheetTables) (starts ends weights : List ℕ) where
  pub one_way_written : x ≡ OneWay start end weight → starts ≡ set t.starts i start → ends ≡ set t.ends i end → weights ≡ set t.weights i weight
      → with_arc_tables starts ends weights t ≡ with_record i x t
  one_way_written e a b c = (λ j. with_arc_tables (a j) (b j) (c j) t) ∙ ap (λ (y : Record). with_record i y t) (sym e)

  pub both_ways_written : x ≡ BothWays start end weight → starts ≡ set (set t.starts i start) (i + 1) end → ends ≡ set (set t.ends i end) (i + 1) start
      → weights ≡ set (set t.weights i weight) (i + 1) weight → with_arc_tables starts ends weights t ≡ with_record i x t
  both_ways_written e a b c = (λ j. with_arc_tables (a j) (b j) (c j) t) ∙ ap (λ (y : Record). with_record i y t) (sym e)

module _ (i : ℕ) {node : ℕ} (x : Record) (t : SheetTables) (landings : List ℕ) where
  pub landing_written : {terminal more : ℕ} → x ≡ Landing terminal node → more ≡ single terminal
      → landings ≡ set t.landings node (union (get_or t.landings node 0) more) → with_landings landings t ≡ with_record i x t
  landing_written e m a =
      ap (λ (l : List ℕ). with_landings l t) a ∙ ap (λ (y : ℕ). with_joined node y t) m ∙ ap (λ (y : Record). with_record i y t) (sym e)

  pub sender_written : x ≡ Sender node → landings ≡ set t.landings node (union (get_or t.landings node 0) sender_flag)
      → with_landings landings t ≡ with_record i x t
  sender_written e a = ap (λ (l : List ℕ). with_landings l t) a ∙ ap (λ (y : Record). with_record i y t) (sym e)

-- ---- the tables then hold one record more

-- the tables when some records have been read: their legs in order, and what they join to each site's entry; later entries are untouched
unfoldable pub read_in : ℕ → List Record → SheetTables → SheetTables
read_in n records t = filled (arcs records) (joined_entries n records) t

-- one column of the legs
column_more : (f : Arc → ℕ) (list : List Arc) (a : Arc) (old : List ℕ) → length list < length old
    → set (over (map f list) old) (length list) (f a) ≡ over (map f (list ++ (a ∷ []))) old
column_more f list a old h =
    ap (λ (i : ℕ). set (over (map f list) old) i (f a)) (sym (length-map list f))
    ∙ over_more (map f list) old (f a) (omega (arith, length-map list f))
    ∙ ap (λ (l : List ℕ). over l old) (sym (map_more list))
  where
    map_more : (l : List Arc) → map f (l ++ (a ∷ [])) ≡ map f l ++ (f a ∷ [])
    map_more [] = refl
    map_more (b ∷ l) = ap (λ (m : List ℕ). f b ∷ m) (map_more l)

-- one leg
arc_more : (list : List Arc) (a : Arc) (sets : List ℕ) (n : ℕ) (t : SheetTables) → Long n (length list + 1) t
    → with_arc (length list) a (filled list sets t) ≡ filled (list ++ (a ∷ [])) sets t
arc_more list a sets n t l =
    λ i. with_arc_tables
    (column_more (λ b. b.start) list a t.starts (omega (arith, l.starts)) i)
    (column_more (λ b. b.end) list a t.ends (omega (arith, l.ends)) i)
    (column_more (λ b. b.weight) list a t.weights (omega (arith, l.weights)) i)
    (filled list sets t)

-- several legs
arcs_written : (bs list : List Arc) (sets : List ℕ) (n : ℕ) (t : SheetTables) → Long n (length list + length bs) t
    → with_arcs (length list) bs (filled list sets t) ≡ filled (list ++ bs) sets t
arcs_written [] list sets n t l = ap (λ (list' : List Arc). filled list' sets t) (sym (append-nil list))
arcs_written (b ∷ bs) list sets n t l =
    let more : length (list ++ (b ∷ [])) ≡ length list + 1 = length-append list (b ∷ []) in
    ap₂ (λ (i : ℕ) (t' : SheetTables). with_arcs i bs t') (sym more)
    (arc_more list b sets n t (long_fewer n (length list + 1) (length list + length (b ∷ bs)) t (omega arith) l))
    ∙ arcs_written bs (list ++ (b ∷ [])) sets n t
    (long_fewer n (length (list ++ (b ∷ [])) + length bs) (length list + length (b ∷ bs)) t (omega (arith, more)) l)
    ∙ ap (λ (list' : List Arc). filled list' sets t) (append_assoc list (b ∷ []) bs)

module _ (n : ℕ) (records : List Record) (t : SheetTables) where
  link_more : (x : Record) → ((v : ℕ) → joins v x ≡ 0) → Long n (length (arcs (records ++ (x ∷ [])))) t
      → with_arcs (length (arcs records)) (arcs_of x) (read_in n records t) ≡ read_in n (records ++ (x ∷ [])) t
  unfolding read_in
  link_more x e l =
      arcs_written (arcs_of x) (arcs records) (joined_entries n records) n t (subst (λ (m : ℕ). Long n m t) (count_more records x) l)
      ∙ ap₂ (λ (list : List Arc) (entries : List ℕ). filled list entries t) (sym (arcs_more records x)) (sym (joined_none n records x e))

  entry_more : (x : Record) (node more : ℕ) → arcs_of x ≡ [] → node < n → joins node x ≡ more → ((v : ℕ) → v ≢ node → joins v x ≡ 0)
      → with_joined node more (read_in n records t) ≡ read_in n (records ++ (x ∷ [])) t
  unfolding read_in
  entry_more x node more none h here elsewhere =
      let entries : List ℕ = joined_entries n records in
      let b : node < length entries = omega (arith, length_values (joined_at records) 0 n) in
      let w : get_or (over entries t.landings) node 0 ≡ joined_at records node = get_d_over entries t.landings node 0 b ∙ get_d_values (joined_at records) 0 n node 0 h ∙ ap (joined_at records) (omega arith) in
      ap (λ (l : List ℕ). with_landings l (filled (arcs records) entries t))
      (ap (λ (y : ℕ). set (over entries t.landings) node (union y more)) w
      ∙ over_set entries t.landings node (union (joined_at records node) more) b
      ∙ ap (λ (l : List ℕ). over l t.landings) (joined_one n node more records x h here elsewhere))
      ∙ ap (λ (list : List Arc). filled list (joined_entries n (records ++ (x ∷ []))) t) (sym same)
    where
      same : arcs (records ++ (x ∷ [])) ≡ arcs records
      same = arcs_more records x ∙ ap (λ (l : List Arc). arcs records ++ l) none ∙ append-nil (arcs records)

  -- one record more
  pub read_more : (k : ℕ) (x : Record) → RecordOk n k x → Long n (length (arcs (records ++ (x ∷ [])))) t
      → with_record (length (arcs records)) x (read_in n records t) ≡ read_in n (records ++ (x ∷ [])) t
  read_more k (OneWay start end weight) ok l = link_more (OneWay start end weight) (λ v. refl) l
  read_more k (BothWays start end weight) ok l = link_more (BothWays start end weight) (λ v. refl) l
  read_more k (Landing terminal node) ok l =
      entry_more (Landing terminal node) node (single terminal) refl ok.1 (landing_joins terminal node) (landing_joins_not terminal node)
  read_more k (Sender node) ok l = entry_more (Sender node) node sender_flag refl ok (sender_joins node) (sender_joins_not node)

  -- no record yet: the first n entries are empty, and nothing else is written
  pub read_none : read_in n [] t ≡ with_landings (replicate n 0 ++ drop n t.landings) t
  unfolding read_in
  read_none = ap (λ (l : List ℕ). with_landings l t) (ap₂ (λ (l : List ℕ) (m : ℕ). l ++ drop m t.landings) (constant_values n 0) (length_values (λ v. 0) 0 n))

  -- what stood in the first entries before makes no difference
  pub read_anew : read_in n records (read_in n [] t) ≡ read_in n records t
  unfolding read_in
  read_anew =
      ap (λ (l : List ℕ). with_landings l (filled (arcs records) (joined_entries n records) t))
      (over_over (joined_entries n records) (joined_entries n []) t.landings
      (length_values (joined_at []) 0 n ∙ sym (length_values (joined_at records) 0 n)))

-- ---- the tables stay as long as they were

filled_lengths : (n : ℕ) (list : List Arc) (entries : List ℕ) (t : SheetTables) → length entries ≡ n → Long n (length list) t
    → SameLengths (filled list entries t) t
filled_lengths n list entries t e l =
    record {
      starts = column (λ a. a.start) t.starts l.starts;
      ends = column (λ a. a.end) t.ends l.ends;
      weights = column (λ a. a.weight) t.weights l.weights;
      landings = length_over entries t.landings (omega (arith, e, l.landings));
    }
  where
    column : (f : Arc → ℕ) (old : List ℕ) → length list ≤ length old → length (over (map f list) old) ≡ length old
    column f old h = length_over (map f list) old (omega (arith, length-map list f))

module _ (n : ℕ) (records : List Record) (t : SheetTables) (l : Long n (length (arcs records)) t) where
  pub read_lengths : SameLengths (read_in n records t) t
  unfolding read_in
  read_lengths = filled_lengths n (arcs records) (joined_entries n records) t (length_values (joined_at records) 0 n) l

  pub loaded_lengths : SameLengths (loaded n records t) t
  unfolding loaded
  loaded_lengths = filled_lengths n (arcs records) (landing_entries n records) t (length_values (landing_entry records) 0 n) l
