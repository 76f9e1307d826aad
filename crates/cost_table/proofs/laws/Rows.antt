-- Lists of cells, node by node: the places of the cells, how many there are, the cell of a node and a set, and that the cells give the list. A
-- table that begins with a cost table has its cells.
-- Assumes nothing.
use Rattle.std.specs.Prelude.{ℕ, suc, ◌+◌, ◌*◌, ◌/◌, ◌%◌, ◌^◌, ◌≤◌, ◌<◌, ◌≡◌, List, map, length, get_or, drop}
use Rattle.std.proofs.Common.{sym, ap, ap₂, ◌∙◌, arith, zero-add, mul_comm, mul-zero, mul-le-mul_right, suc-mul, div-add-mod', div-lt_iff_lt-mul, mod-lt, ext_get_or, get_or-drop}
use Rattle.std.proofs.Math.Decide.{ℕ_discrete}
use Rattle.std.proofs.Math.Arith.{digits_lt, digits_div, digits_mod}
use Rattle.std.proofs.Math.ListN.{get_or-append}
use Rattle.lists.specs.Joined.{joined, length_joined, drop_joined}
use Rattle.lists.specs.Numbers.{numbers, length_numbers, get_d_number, length_values, get_d_values}
use Rattle.lists.specs.Over.{over, get_d_over}
use Rattle.graph.specs.Graph.{Graph}
use Rattle.graph.specs.LeastTotals.{least_cell, IsCostTable}
use Rattle.cost_table.specs.Cells.{cell_in, cells_of, cost_table}

-- ---- places

-- a cell's place is within the table
pub place_lt : (v n size w len : ℕ) → v < n → w < size → n * size ≤ len → v * size + w < len
place_lt v n size w len on small long = let l = digits_lt on small in omega arith

-- different nodes or sets have different places
pub place_node : (size u v y w : ℕ) → y < size → w < size → u * size + y ≡ v * size + w → u ≡ v
place_node size u v y w ly lw e = sym (digits_div u ly) ∙ ap (λ (x : ℕ). x / size) e ∙ digits_div v lw

pub place_set : (size u v y w : ℕ) → y < size → w < size → u * size + y ≡ v * size + w → y ≡ w
place_set size u v y w ly lw e = sym (digits_mod u ly) ∙ ap (λ (x : ℕ). x % size) e ∙ digits_mod v lw

-- the cells of n nodes fill n * size places
pub row_fits : (v n size : ℕ) → v < n → v * size + size ≤ n * size
row_fits v n size l = let h = mul-le-mul_right size l in omega (arith, suc-mul v size)

-- and each place is that of a node and a set
pub place_of : (n size i : ℕ) → i < n * size → (v : ℕ) × (w : ℕ) × (v < n) × (w < size) × (v * size + w ≡ i)
place_of n size i l =
    let pos : 1 ≤ size = some_size (ℕ_discrete size 0) in
    (i / size, i % size, (div-lt_iff_lt-mul pos).1 l, mod-lt i pos, div-add-mod' i size)
  where
    some_size : Dec (size ≡ 0) → 1 ≤ size
    some_size (yes e) = absurd (omega (arith, ap (λ (x : ℕ). n * x) e, mul-zero n))
    some_size (no e) = omega arith

-- ---- cells

module _ (n size : ℕ) (c : ℕ → ℕ → ℕ) where
  -- n times the number of sets
  pub length_cells : length (cells_of n size c) ≡ n * size
  length_cells =
      length_joined (λ v. map (c v) (numbers 0 size)) size (λ v. length_values (c v) 0 size) (numbers 0 n)
      ∙ ap (λ (x : ℕ). size * x) (length_numbers 0 n) ∙ mul_comm size n

  -- the cell of a node and a set
  pub cell_of : (v w : ℕ) → v < n → w < size → cell_in (cells_of n size c) size v w ≡ c v w
  cell_of v w on small =
      let f : ℕ → List ℕ = λ v. map (c v) (numbers 0 size) in
      let rest : List ℕ = joined f (drop (suc v) (numbers 0 n)) in
      let nth : get_or (numbers 0 n) v 0 ≡ v = get_d_number 0 n v 0 on ∙ zero-add v in
      ap (λ (x : ℕ). get_or (cells_of n size c) (x + w) 0) (mul_comm v size)
      ∙ sym (get_or-drop (size * v) (cells_of n size c) w 0)
      ∙ ap (λ (l : List ℕ). get_or l w 0) (drop_joined f size (λ v. length_values (c v) 0 size) (numbers 0 n) v 0 (omega (arith, length_numbers 0 n)))
      ∙ get_or-append (f (get_or (numbers 0 n) v 0)) rest 0 w (omega (arith, length_values (c (get_or (numbers 0 n) v 0)) 0 size))
      ∙ get_d_values (c (get_or (numbers 0 n) v 0)) 0 size w 0 small
      ∙ ap₂ c nth (zero-add w)

  -- a list of so many cells is given by them
  pub cells_are : (cells : List ℕ) → length cells ≡ n * size → ((v w : ℕ) → v < n → w < size → cell_in cells size v w ≡ c v w) → cells ≡ cells_of n size c
  cells_are cells so_many each = ext_get_or 0 cells (cells_of n size c) (so_many ∙ sym length_cells) (λ i l. at i (omega arith))
    where
      at : (i : ℕ) → i < n * size → get_or cells i 0 ≡ get_or (cells_of n size c) i 0
      at i l =
          let (v, w, on, small, e) = place_of n size i l in
          ap (λ (x : ℕ). get_or cells x 0) (sym e) ∙ each v w on small ∙ sym (cell_of v w on small) ∙ ap (λ (x : ℕ). get_or (cells_of n size c) x 0) e

-- ---- a cost table in the first entries of another table

module _ (G : Graph) (top : ℕ) where
  pub length_table : length (cost_table G top) ≡ G.nodes * 2 ^ G.terminals
  length_table = length_cells G.nodes (2 ^ G.terminals) (least_cell G top)

  pub table_over : (old : List ℕ) → IsCostTable G (cell_in (over (cost_table G top) old) (2 ^ G.terminals)) top
  table_over old v w on small =
      get_d_over (cost_table G top) old (v * 2 ^ G.terminals + w) 0 (omega (arith, length_table, digits_lt on small))
      ∙ cell_of G.nodes (2 ^ G.terminals) (least_cell G top) v w on small
