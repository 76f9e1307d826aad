-- What the enquirer's answers mean over a finished cost table (document 01, "The cost table"): "Cell v times 2^k + W holds the least total of a
-- directed subtree with root v that holds a landing of each station in W, or 4,294,967,295 where none exists ("none")"; the best sender is
-- "a site whose cell is least and finite, or "none"", "judged among trees whose root is a sender" (document 02, W-201), and "where several senders
-- have the least cell, the enquirer names the lowest" (W-203). The sites that may be a root are the senders (`sheet-may-root` in SheetWords.antt of
-- crate mission). And after which answers of the engine the table is finished.
-- Assumes nothing.
use Rattle.std.specs.Prelude.{ℕ, ◌^◌, ◌<◌, ◌≡◌, ◌⊎◌, List, T}
use Rattle.limits.specs.Limits.{no_cost}
use Rattle.limits.specs.Refusals.{no_plan, short_buffer}
use Rattle.answer.specs.Stated.{Stated, plan, shared, cell, sender, no_sender, refused}
use Rattle.graph.specs.Graph.{Graph}
use Rattle.graph.specs.LeastTotals.{NoSubtree, Least}
use Rattle.questions.specs.Questions.{cell_answer, sender_answer}
use Rattle.mission.specs.Rule.{Lowest, LeastRoot}

-- the engine has planned the sheet, or answered 12 or 13: the cost table is finished
abbrev pub Finished : Stated → Type 0
Finished (plan root cost count) = Unit {0}
Finished (refused family number place) = (number ≡ no_plan) ⊎ (number ≡ short_buffer)
Finished (cell cost) = ⊥
Finished (sender node) = ⊥
Finished no_sender = ⊥
Finished (shared root cost count rest) = ⊥

-- the answer is the least total of v and w, which is no "none"; or it is "none", and there is no directed subtree with root v that holds a
-- landing of each station of w
pub data CellMeans (G : Graph) (v w : ℕ) : Stated → Type 0 where
  least_total_lem : (x : ℕ) → Least G v w x → x < no_cost → CellMeans G v w (cell x)
  no_total : NoSubtree G v w → CellMeans G v w (cell no_cost)

-- the answer is the lowest of the senders that cost least, a cost being the least total of a directed subtree from that sender that holds a landing of
-- each station of w; for the full set the root of a plan is that sender too (`ByRule` of crate mission). Or it is "none", and no sender is the root
-- of such a subtree
pub data SenderMeans (G : Graph) (w : ℕ) : Stated → Type 0 where
  lowest_best : (v x : ℕ) → Lowest (LeastRoot G w x) v → SenderMeans G w (sender v)
  none_serves : ((u : ℕ) → T (G.may_root u) → NoSubtree G u w) → SenderMeans G w no_sender

-- what the enquirer answers over these cells and landing entries, for n sites and k stations, means that, at every site and every subset
pub record MeansLeast (n k : ℕ) (G : Graph) (cells landings : List ℕ) : Type 0 where
  pub cell_means : (v w : ℕ) → v < n → w < 2 ^ k → CellMeans G v w (cell_answer cells n k v w)
  pub sender_means : (w : ℕ) → w < 2 ^ k → SenderMeans G w (sender_answer cells landings n k w)
