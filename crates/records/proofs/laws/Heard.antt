-- Which stations are in the sets of a list of records, at a site and anywhere: those that have a landing among the records.
-- Assumes nothing.
use Rattle.std.specs.Prelude.{ℕ, ◌<◌, ◌^◌, ◌≡◌, refl, Bool, true, false, cond, T, eqb}
use Rattle.std.proofs.Common.{sym, ap, ap₂, subst, eqb→eq, eqb-true, eq-eqb}
use mathlib.Core.List.Memᴰ
use mathlib.Core.List.{List, Memᴰ}
use Rattle.std.proofs.Math.Dec.{eqb_refl}
use Rattle.lists.specs.Every.{Every, every_mem}
use Rattle.subset.specs.Sets.{empty, full, single, has}
use Rattle.subset.specs.laws.Terminals.{has_empty, has_single}
use Rattle.subset.proofs.Unions.{unions_has, has_unions}
use Rattle.subset.specs.laws.Parts.{terminals_lt, every_full, full_every}
use Rattle.records.specs.Landings.{Heard, terminals_of, terminals_at, heard_by, heard}
use Rattle.records.specs.Records.{RecordOk}
use Rattle.records.specs.declared.record.Record.{Record}
use Rattle.records.specs.declared.record.Record.TheVariants.{OneWay, BothWays, Landing, Sender}

-- ---- one record

-- a single station's set
single_has : (j i : ℕ) → T (has (single j) i) → i ≡ j
single_has j i t = sym (eqb→eq j i (subst T (has_single j i) t))

has_single_self : (i : ℕ) → T (has (single i) i)
has_single_self i = subst T (sym (has_single i i)) (eqb_refl i)

-- a record with station i in its set is a landing of i
heard_by_has : (x : Record) (i : ℕ) → T (has (heard_by x) i) → (v : ℕ) × (Landing i v ≡ x)
heard_by_has (OneWay start end weight) i t = absurd (subst T (has_empty i) t)
heard_by_has (BothWays start end weight) i t = absurd (subst T (has_empty i) t)
heard_by_has (Landing terminal node) i t = (node, ap (λ (j : ℕ). Landing j node) (single_has terminal i t))
heard_by_has (Sender node) i t = absurd (subst T (has_empty i) t)

-- and with i in its set at site v, a landing of i at v
terminals_of_has : (x : Record) (v i : ℕ) → T (has (terminals_of x v) i) → Landing i v ≡ x
terminals_of_has (OneWay start end weight) v i t = absurd (subst T (has_empty i) t)
terminals_of_has (BothWays start end weight) v i t = absurd (subst T (has_empty i) t)
terminals_of_has (Sender node) v i t = absurd (subst T (has_empty i) t)
terminals_of_has (Landing terminal node) v i t = go (eqb node v) refl t
  where
    go : (b : Bool) → eqb node v ≡ b → T (has (cond b (single terminal) empty) i) → Landing i v ≡ Landing terminal node
    go true e u = ap₂ Landing (single_has terminal i u) (sym (eqb-true node v e))
    go false e u = absurd (subst T (has_empty i) u)

has_terminals_of : (v i : ℕ) → T (has (terminals_of (Landing i v) v) i)
has_terminals_of v i = rw (eq-eqb v v refl) (has_single_self i)

-- ---- a list of records

-- a station is in a site's set exactly where the records have that landing
pub landing_has : (records : List Record) (v i : ℕ) → T (has (terminals_at records v) i) → Memᴰ (Landing i v) records
landing_has records v i t =
    let m = unions_has (λ (x : Record). terminals_of x v) records i t in
    Memᴰ.cast (terminals_of_has m.0 v i m.2) m.1

pub has_landing : (records : List Record) (v i : ℕ) → Memᴰ (Landing i v) records → T (has (terminals_at records v) i)
has_landing records v i m =
    has_unions (λ (x : Record). terminals_of x v) i m (has_terminals_of v i)

-- a station is among the heard ones exactly where the records have a landing of it
pub heard_has : (records : List Record) (i : ℕ) → T (has (heard records) i) → Heard i records
heard_has records i t =
    let m = unions_has heard_by records i t in
    let l = heard_by_has m.0 i m.2 in
    (l.0, Memᴰ.cast l.1 m.1)

pub has_heard : (records : List Record) (i : ℕ) → Heard i records → T (has (heard records) i)
has_heard records i l =
    has_unions heard_by i l.1 (has_single_self i)

-- ---- records that pass their tests

module _ (n k : ℕ) (records : List Record) where
  -- a site's set of stations is a set for k stations
  pub terminals_at_lt : (v : ℕ) → Every (RecordOk n k) records → terminals_at records v < 2 ^ k
  terminals_at_lt v each =
      terminals_lt k (terminals_at records v) (λ i t. (every_mem (RecordOk n k) each (landing_has records v i t)).0)

  -- and so are the stations with a landing
  pub heard_lt : Every (RecordOk n k) records → heard records < 2 ^ k
  heard_lt each = terminals_lt k (heard records) (λ i t. (every_mem (RecordOk n k) each (heard_has records i t).1).0)

  -- they are all of them exactly where each station has a landing
  pub all_heard : Every (RecordOk n k) records → ((i : ℕ) → i < k → Heard i records) → heard records ≡ full k
  all_heard each every = every_full k (heard records) (heard_lt each) (λ i l. has_heard records i (every i l))

pub heard_all : (k : ℕ) (records : List Record) → heard records ≡ full k → (i : ℕ) → i < k → Heard i records
heard_all k records e i l = heard_has records i (full_every k (heard records) e i l)
