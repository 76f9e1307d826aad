-- The landing entry of a site, record by record: each record joins its station or its flag, and what all of them join are the site's stations, with
-- the flag where some `SR` names the site.
-- Assumes nothing.
use Rattle.std.specs.Prelude.{ℕ, ◌^◌, ◌<◌, ◌≤◌, ◌≡◌, refl, ◌≢◌, List, [], ◌∷◌, ◌++◌, map, set}
use Rattle.std.proofs.Common.{sym, ap, ◌∙◌, subst, add-zero, lt_of_lt_of_le, pow_mono, eq-eqb, ne_eqb}
use Rattle.std.specs.Int.Bits.{or_zero_r}
use Rattle.limits.specs.Limits.{max_terminals, sender_flag}
use Rattle.lists.specs.Every.{Every}
use Rattle.lists.specs.Numbers.{numbers, same_values, set_values}
use Rattle.subset.specs.Sets.{union, single}
use Rattle.subset.specs.Unions.{unions}
use Rattle.subset.proofs.Unions.{unions_more}
use Rattle.landing_entries.specs.Entries.{entry_of}
use Rattle.landing_entries.proofs.laws.EntryLaws.{entries_join}
use Rattle.records.specs.Landings.{terminals_of, terminals_at}
use Rattle.records.specs.Records.{RecordOk}
use Rattle.records.specs.Senders.{names, is_named}
use Rattle.records.proofs.laws.Heard.{terminals_at_lt}
use Rattle.records.specs.declared.record.Record.{Record}
use Rattle.records.specs.declared.record.Record.TheVariants.{Landing, Sender}

-- what a record joins to the entry of site v, and what several do
abbrev pub joins : ℕ → Record → ℕ
joins v x = entry_of (terminals_of x v) (names v x)

abbrev pub joined_at : List Record → ℕ → ℕ
joined_at records v = unions (joins v) records

-- by site
abbrev pub joined_entries : ℕ → List Record → List ℕ
joined_entries n records = map (joined_at records) (numbers 0 n)

-- one record more
pub joined_more : (records : List Record) (x : Record) (v : ℕ) → joined_at (records ++ (x ∷ [])) v ≡ union (joined_at records v) (joins v x)
joined_more records x v = unions_more (joins v) records x

-- a record that joins nothing to any entry
pub joined_none : (n : ℕ) (records : List Record) (x : Record) → ((v : ℕ) → joins v x ≡ 0) → joined_entries n (records ++ (x ∷ [])) ≡ joined_entries n records
joined_none n records x e =
    same_values (joined_at (records ++ (x ∷ []))) (joined_at records) n
    (λ v h. joined_more records x v ∙ ap (union (joined_at records v)) (e v) ∙ or_zero_r (joined_at records v))

-- and one that joins something to one entry
pub joined_one : (n node more : ℕ) (records : List Record) (x : Record) → node < n → joins node x ≡ more → ((v : ℕ) → v ≢ node → joins v x ≡ 0)
    → set (joined_entries n records) node (union (joined_at records node) more) ≡ joined_entries n (records ++ (x ∷ []))
joined_one n node more records x h here elsewhere =
    ap (set (joined_entries n records) node) (sym (joined_more records x node ∙ ap (union (joined_at records node)) here))
    ∙ set_values (joined_at records) (joined_at (records ++ (x ∷ []))) n node h
    (λ v ne. sym (joined_more records x v ∙ ap (union (joined_at records v)) (elsewhere v ne) ∙ or_zero_r (joined_at records v)))

-- a landing joins its station, and `SR` the flag
pub landing_joins : (terminal node : ℕ) → joins node (Landing terminal node) ≡ single terminal
landing_joins terminal node = rw (eq-eqb node node refl) (add-zero (single terminal))

pub landing_joins_not : (terminal node v : ℕ) → v ≢ node → joins v (Landing terminal node) ≡ 0
landing_joins_not terminal node v ne = rw (ne_eqb node v (λ e. ne (sym e))) refl

pub sender_joins : (node : ℕ) → joins node (Sender node) ≡ sender_flag
sender_joins node = rw (eq-eqb node node refl) refl

pub sender_joins_not : (node v : ℕ) → v ≢ node → joins v (Sender node) ≡ 0
sender_joins_not node v ne = rw (ne_eqb node v (λ e. ne (sym e))) refl

-- ---- what they are

module _ (n k : ℕ) (low : k ≤ max_terminals) (v : ℕ) where
  -- a site's stations are ten at most
  pub few_terminals : (records : List Record) → Every (RecordOk n k) records → terminals_at records v < 2 ^ max_terminals
  few_terminals records each = lt_of_lt_of_le (terminals_at_lt n k records v each) (pow_mono low)

  pub joined_entry : (records : List Record) → Every (RecordOk n k) records → joined_at records v ≡ entry_of (terminals_at records v) (is_named records v)
  joined_entry [] each = refl
  joined_entry (x ∷ records) each =
      ap (union (joins v x)) (joined_entry records each.1)
      ∙ entries_join (terminals_of x v) (terminals_at records v) (names v x) (is_named records v)
      (subst (λ (w : ℕ). w < 2 ^ max_terminals) (or_zero_r (terminals_of x v)) (few_terminals (x ∷ []) (each.0, tt)))
      (few_terminals records each.1)
