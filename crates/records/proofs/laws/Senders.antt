-- The senders of a list of records: a site is named where `SR` with it is among the records. Where the records pass their tests there is an `SR` at
-- all exactly where a site of the sheet is named; then the senders are the named sites, and else every site is one.
-- Assumes nothing.
use Rattle.std.specs.Prelude.{ℕ, ◌≡◌, refl, ◌⊎◌, ◌↔◌, Bool, true, false, not, ◌||◌, T}
use Rattle.std.proofs.Common.{sym, ap, ◌∙◌, inl, inr, ⊎_elim, eqb→eq}
use Rattle.std.proofs.Math.Bool.{or-true, or-false}
use mathlib.Core.List.Memᴰ
use mathlib.Core.List.{List, Memᴰ}
use Rattle.std.proofs.Math.Dec.{eqb_refl}
use Rattle.lists.specs.Every.{Every, every_mem}
use Rattle.lists.specs.Find.{any_of, any_to, any_at, any_of_lem}
use Rattle.lists.specs.Members.{any_member, member_any}
use Rattle.lists.specs.Tests.{same_tests, by_fact, not_both, or_cases, or_left, or_right}
use Rattle.records.specs.Records.{RecordOk}
use Rattle.records.specs.Senders.{is_licence, names, is_named, is_sender}
use Rattle.records.specs.declared.record.Record.{Record}
use Rattle.records.specs.declared.record.Record.TheVariants.{Sender}

-- a record that names v is `SR` with v
names_sender : (v : ℕ) (x : Record) → T (names v x) → Sender v ≡ x
names_sender v (Rattle.records.specs.declared.record.Record.TheVariants.Landing _ _) t = elim t [ ]
names_sender v (Rattle.records.specs.declared.record.Record.TheVariants.BothWays _ _ _) t = elim t [ ]
names_sender v (Rattle.records.specs.declared.record.Record.TheVariants.OneWay _ _ _) t = elim t [ ]
names_sender v (Sender node) t = ap Sender (sym (eqb→eq node v t))

-- a site is named exactly where the records have its `SR`
pub named_member : (records : List Record) (v : ℕ) → T (is_named records v) → Memᴰ (Sender v) records
named_member records v t =
    let m = any_member (names v) records t in
    Memᴰ.cast (names_sender v m.0 m.2) m.1

pub member_named : (records : List Record) (v : ℕ) → Memᴰ (Sender v) records → T (is_named records v)
member_named records v m = member_any (names v) records m (eqb_refl v)

-- a record that is `SR` is one with a site
licence_sender : (x : Record) → T (is_licence x) → (v : ℕ) × (Sender v ≡ x)
licence_sender (Rattle.records.specs.declared.record.Record.TheVariants.Landing _ _) t = elim t [ ]
licence_sender (Rattle.records.specs.declared.record.Record.TheVariants.BothWays _ _ _) t = elim t [ ]
licence_sender (Rattle.records.specs.declared.record.Record.TheVariants.OneWay _ _ _) t = elim t [ ]
licence_sender (Sender node) t = (node, refl)

-- an `SR` names a site of the sheet
pub some_named : (n k : ℕ) (records : List Record) → Every (RecordOk n k) records → any_to (is_named records) n ≡ any_of is_licence records
some_named n k records each = same_tests (any_to (is_named records) n) (any_of is_licence records) there back
  where
    there : T (any_to (is_named records) n) → T (any_of is_licence records)
    there t = let m = any_at (is_named records) n t in member_any is_licence records (named_member records m.0 m.2) tt

    back : T (any_of is_licence records) → T (any_to (is_named records) n)
    back t =
        let m = any_member is_licence records t in
        let s = licence_sender m.0 m.2 in
        let i = Memᴰ.cast s.1 m.1 in
        any_of_lem (is_named records) n s.0 (every_mem (RecordOk n k) each i) (member_named records s.0 i)

-- with an `SR` the senders are the named sites, and without one every site is a sender
pub sender_named : (records : List Record) (v : ℕ) → any_of is_licence records ≡ true → is_sender records v ≡ is_named records v
sender_named records v e = ap (λ (b : Bool). is_named records v || not b) e ∙ or-false (is_named records v)

pub sender_any : (records : List Record) (v : ℕ) → any_of is_licence records ≡ false → is_sender records v ≡ true
sender_any records v e = ap (λ (b : Bool). is_named records v || not b) e ∙ or-true (is_named records v)

-- so a site is a sender exactly where its `SR` is among the records, or none is
pub sender_iff : (records : List Record) (v : ℕ)
    → T (is_sender records v) ↔ (Memᴰ (Sender v) records ⊎ ((u : ℕ) → Memᴰ (Sender u) records → ⊥))
sender_iff records v = (
  (λ t. ⊎_elim (λ (s : T (is_named records v)). inl (named_member records v s))
      (λ (none : T (not (any_of is_licence records))). inr (λ u m. not_both (any_of is_licence records) (member_any is_licence records m tt) none))
      (or_cases (is_named records v) (not (any_of is_licence records)) t)),
  (λ s. ⊎_elim (λ (m : Memᴰ (Sender v) records). or_left (is_named records v) (not (any_of is_licence records)) (member_named records v m))
      (λ (none : (u : ℕ) → Memᴰ (Sender u) records → ⊥). or_right (is_named records v) (not (any_of is_licence records)) (unlicensed none)) s),
)
  where
    unlicensed : ((u : ℕ) → Memᴰ (Sender u) records → ⊥) → T (not (any_of is_licence records))
    unlicensed none = by_fact (any_of is_licence records) (λ b. T (not b))
        (λ t. let m = any_member is_licence records t in let s = licence_sender m.0 m.2 in absurd (none s.0 (Memᴰ.cast s.1 m.1)))
        (λ t. tt)
