-- Directed paths put together, and paths of arcs of a longer list. What holds at a path's first node, and stays from the start of each
-- listed arc to its end, holds at the path's last node. A path depends on the starts and ends of the listed arcs alone.
-- Assumes nothing.
use Rattle.std.specs.Prelude.{ℕ, ◌≡◌, refl, List, [], ◌∷◌, ◌++◌, T}
use Rattle.std.proofs.Common.{sym, ◌∙◌, subst}
use Rattle.lists.specs.Every.{Every, every_append, every_imp}
use Rattle.lists.specs.Listed.{listed, listed_head, listed_tail}
use Rattle.graph.specs.Graph.{Graph}
use Rattle.graph.specs.Paths.{Leads, DirectedPath}

module _ (G : Graph) where
  -- a row of arcs, and one that goes on from its last node
  pub leads_append : (u m v : ℕ) (p q : List ℕ) → Leads G u p m → Leads G m q v → Leads G u (p ++ q) v
  leads_append u m v [] q a b = subst (λ (x : ℕ). Leads G x q v) (sym a) b
  leads_append u m v (e ∷ p) q a b = (a.0, leads_append (G.end e) m v p q a.1 b)

  module _ (L : List ℕ) where
    -- the path with no arc
    pub path_same : {u v : ℕ} → u ≡ v → DirectedPath G L u v
    path_same {u} {v} e = record { row = []; each = tt; leads = e }

    -- the path of one arc
    path_arc : (e : ℕ) → T (listed e L) → DirectedPath G L (G.start e) (G.end e)
    path_arc e t = record { row = e ∷ []; each = (t, tt); leads = (refl, refl) }

    -- one path after another
    path_append : {u m v : ℕ} → DirectedPath G L u m → DirectedPath G L m v → DirectedPath G L u v
    path_append {u} {m} {v} p q = record {
      row = p.row ++ q.row;
      each = every_append (λ e. T (listed e L)) p.row q.row p.each q.each;
      leads = leads_append u m v p.row q.row p.leads q.leads;
    }

    -- a path and one arc more
    pub path_then : {u v : ℕ} (e : ℕ) → T (listed e L) → DirectedPath G L u (G.start e) → G.end e ≡ v → DirectedPath G L u v
    path_then {u} {v} e t p q = subst (λ (x : ℕ). DirectedPath G L u x) q (path_append p (path_arc e t))

  -- where P holds at the end of each listed arc at whose start it holds, it holds at a path's last node if it holds at the first
  pub path_carries : (L : List ℕ) (P : ℕ → Type 0) → ((e : ℕ) → T (listed e L) → P (G.start e) → P (G.end e))
      → {u v : ℕ} → DirectedPath G L u v → P u → P v
  path_carries L P carry {u} {v} p h = along u p.row p.each p.leads h
    where
      along : (u : ℕ) (row : List ℕ) → Every (λ e. T (listed e L)) row → Leads G u row v → P u → P v
      along u [] each leads h = subst P leads h
      along u (e ∷ row) each leads h = along (G.end e) row each.1 leads.1 (carry e each.0 (subst P (sym leads.0) h))

  -- more arcs reach no fewer nodes
  pub path_more : (A B : List ℕ) → ((e : ℕ) → T (listed e A) → T (listed e B)) → {u v : ℕ} → DirectedPath G A u v → DirectedPath G B u v
  path_more A B sub p =
      record { row = p.row; each = every_imp (λ e. T (listed e A)) (λ e. T (listed e B)) sub p.row p.each; leads = p.leads }

  -- an arc, and a path from its end
  pub path_before : (e : ℕ) (L : List ℕ) {v : ℕ} → DirectedPath G L (G.end e) v → DirectedPath G (e ∷ L) (G.start e) v
  path_before e L p = path_append (e ∷ L) (path_arc (e ∷ L) e (listed_head e L)) (path_more L (e ∷ L) (λ d t. listed_tail d e L t) p)

-- a path is one in every graph in which the listed arcs have the same starts and ends
pub path_agrees : (G F : Graph) (L : List ℕ) → ((e : ℕ) → T (listed e L) → (G.start e ≡ F.start e) × (G.end e ≡ F.end e))
    → {u v : ℕ} → DirectedPath G L u v → DirectedPath F L u v
path_agrees G F L same {u} {v} p = record { row = p.row; each = p.each; leads = along u p.row p.each p.leads }
  where
    along : (u : ℕ) (row : List ℕ) → Every (λ e. T (listed e L)) row → Leads G u row v → Leads F u row v
    along u [] each leads = leads
    along u (e ∷ row) each leads =
        let (starts, ends) = same e each.0 in
        (sym starts ∙ leads.0, subst (λ (x : ℕ). Leads F x row v) ends (along (G.end e) row each.1 leads.1))
