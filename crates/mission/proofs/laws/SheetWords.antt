-- No site of a sheet is charged, and the sites that may be a root are its senders. So for the graph of a sheet the definitions that ask for charges
-- and for roots say the sentences of the mission and of document 01, of trees and sites as document 02, W-201, has them: "The best sender, "no
-- plan" and every rival tree are judged among trees whose root is a sender."
-- Assumes nothing.
use Rattle.std.specs.Prelude.{ℕ, ◌+◌, ◌<◌, ◌≤◌, ◌≡◌, ◌↔◌, List, T, ltb}
use Rattle.std.proofs.Common.{sym, ◌∙◌, subst, add-zero, arith, ltb→lt, lt→ltb}
use Rattle.lists.specs.Sums.{sum_by}
use Rattle.lists.specs.Tests.{and_left, and_right, and_both}
use Rattle.graph.specs.Graph.{Graph}
use Rattle.graph.specs.Paths.{ReachesAll}
use Rattle.graph.specs.Subtrees.{Subtree, CoversAll, total}
use Rattle.records.specs.Senders.{is_sender}
use Rattle.records.specs.declared.record.Record.{Record}
use Rattle.network.specs.Network.{graph_of}
use Rattle.network.proofs.laws.OfSheets.{sheet_total}
use Rattle.mission.specs.Rule.{Costs, ArcFits, PartSplits, LeastRoot}
use Rattle.mission.specs.PointTwo.{IsPlan}
use Rattle.mission.specs.PointThree.{NoneCheaper, SomeReachesAll}

module _ (n k : ℕ) (records : List Record) where
  abbrev G : Graph
  G = graph_of n k records

  -- ---- the stated rule

  -- "leg from v whose price plus the finite cell (end, W) equals cell (v, W)"
  pub sheet_arc_fits : (v w e : ℕ) (fits : ArcFits G v w e) → Costs G v w (G.weight e + fits.cost)
  sheet_arc_fits v w e fits = subst (Costs G v w) (omega arith) fits.makes

  -- "with cell (v, Y) + cell (v, W without Y) = cell (v, W)"
  pub sheet_part_splits : (v w y : ℕ) (splits : PartSplits G v w y) → Costs G v w (splits.cost + splits.rest_cost)
  sheet_part_splits v w y splits = subst (Costs G v w) (sym (splits.adds_up ∙ add-zero splits.whole)) splits.makes

  -- ---- the root

  -- a site may be a root exactly where it is a sender
  pub sheet_may_root : (v : ℕ) → T (G.may_root v) ↔ ((v < n) × T (is_sender records v))
  sheet_may_root v = (
    (λ t. (ltb→lt v n (and_left (ltb v n) (is_sender records v) t), and_right (ltb v n) (is_sender records v) t)),
    (λ (on, sender). and_both (ltb v n) (is_sender records v) (lt→ltb v n on) sender),
  )

  abbrev sender_of : (v : ℕ) → T (G.may_root v) → T (is_sender records v)
  sender_of v may = let (there, _) = sheet_may_root v in (there may).1

  abbrev may_of : (v : ℕ) → v < n → T (is_sender records v) → T (G.may_root v)
  may_of v on sender = let (_, back) = sheet_may_root v in back (on, sender)

  -- x is the cost of a sender for the set w, and no sender's is less
  pub sheet_least_root : (w x v : ℕ)
      → LeastRoot G w x v ↔ ((v < n) × T (is_sender records v) × Costs G v w x
      × ((u y : ℕ) → u < n → T (is_sender records u) → Costs G u w y → x ≤ y))
  sheet_least_root w x v = (
    (λ r. (r.node, sender_of v r.may_root_lem, r.costs, λ u y on sender costs. r.least u y on (may_of u on sender) costs)),
    (λ (node, sender, costs, least). record {
      node = node;
      may_root_lem = may_of v node sender;
      costs = costs;
      least = λ u y on may. least u y on (sender_of u may);
    }),
  )

  -- ---- point 2

  -- "a directed subtree ..: its legs are on the sheet, it holds a site of every station, its total is the sum of its prices"; its root is a sender
  pub sheet_is_plan : (root cost : ℕ) (L : List ℕ)
      → IsPlan G root cost L ↔ (T (is_sender records root) × Subtree G root L × CoversAll G root L × (cost ≡ sum_by G.weight L))
  sheet_is_plan root cost L = (
    (λ p. (sender_of root p.may_root_lem, p.subtree, p.covers, p.true_total ∙ sheet_total n k records root L)),
    (λ (sender, subtree, covers, sum). record {
      may_root_lem = may_of root subtree.root sender;
      subtree = subtree;
      covers = covers;
      true_total = sum ∙ sym (sheet_total n k records root L);
    }),
  )

  -- ---- point 3

  -- "every directed subtree of the sheet's legs that holds a site of every station", and whose root is a sender, "has at least" this total
  pub sheet_none_cheaper : (cost : ℕ)
      → NoneCheaper G cost
      ↔ ((root : ℕ) (L : List ℕ) → T (is_sender records root) → Subtree G root L → CoversAll G root L → cost ≤ total G root L)
  sheet_none_cheaper cost = (
    (λ none root L sender tree. none root L (may_of root tree.root sender) tree),
    (λ none root L may. none root L (sender_of root may)),
  )

  -- some sender "has directed paths to a site of every station"
  pub sheet_some_reaches : SomeReachesAll G ↔ ((v : ℕ) × (v < n) × T (is_sender records v) × ReachesAll G v)
  sheet_some_reaches = (
    (λ (v, on, may, reaches). (v, on, sender_of v may, reaches)),
    (λ (v, on, sender, reaches). (v, on, may_of v on sender, reaches)),
  )
