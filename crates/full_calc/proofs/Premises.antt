-- The graph of a sheet by positions is that of its cells by identity.
use Rattle.std.proofs.Common.{◌≡◌, ℕ, zero, suc, ◌+◌, Bool, true, false, cond, List, [], ◌∷◌, refl, ap, sym, ◌∙◌, subst, arith, Some, None, Option}
use Rattle.std.specs.Prelude.{◌&&◌, unwrap_or, slice_get, flat_map, filter_map}
use Rattle.sheet_graph.specs.declared.columns.FormulaCell.{FormulaCell}
use Rattle.ss_base.specs.declared.types.Spot.{Spot}
use Rattle.ss_base.specs.declared.types.Span.{Span}
use Rattle.formula_tree.specs.Tree.{Tree, rename_tree}
use Rattle.marked_lines.specs.Marks.{places_from, visible_places, visible_before}
use Rattle.sheet_ops.specs.declared.content.Content.TheVariants as content
use Rattle.sheet_ops.specs.Lines.{rec_place, marks}
use Rattle.sheet_ops.specs.Fits.{IsWellFormed}
use Rattle.sheet_ops.specs.Identity.{IdContent, blank, number, text, formula, IdSheet}
use Rattle.sheet_ops.specs.Naming.{locate_cell, locate_range, locate_content}
use Rattle.sheet_ops.specs.Placed.{placed}
use Rattle.sheet_ops.proofs.Ids.{both_true}
use Rattle.sheet_graph.specs.declared.graph.Node.{Node}
use Rattle.sheet_graph.specs.Areas.{in_area, areas_in}
use Rattle.sheet_graph.specs.Columns.{number_in}
use Rattle.sheet_graph.specs.Graphs.{is_formula_content, content_at, content_seen, IsGraph}
use Rattle.sheet_graph.proofs.Lists.{areas_found}
use Rattle.full_calc.specs.Precedents.{CellId, is_live, is_live_cell, mentioned, is_seen}
use Rattle.full_calc.specs.Shown.{cell_shown}
use Rattle.full_calc.specs.Circular.{is_formula, is_formula_cell, content_precedents, precedents}
use Rattle.sheet_graph.specs.Graphs.{mentions_in}
use Rattle.full_calc.proofs.Seen.{cell_of, live_seen, live_rec}
use Rattle.full_calc.proofs.Positions.{cell_there, content_there}
use Rattle.full_calc.proofs.Numbering.{seen_below, number_of, numbers_lead}

-- the position of a visible index
index_from : (o : ℕ) (ms : List Bool) (p : ℕ) → is_seen ms p ≡ true → slice_get (places_from o ms) (visible_before ms p) ≡ Some (o + p)
index_from o [] p h = absurd (let e : false ≡ true = h in cc)
index_from o (true ∷ ms) zero h = absurd (let e : false ≡ true = h in cc)
index_from o (false ∷ ms) zero h = ap Some (let q : o ≡ o + 0 = omega arith in q)
index_from o (true ∷ ms) (suc p) h = index_from (suc o) ms p h ∙ ap Some (let q : suc o + p ≡ o + suc p = omega arith in q)
index_from o (false ∷ ms) (suc p) h = index_from (suc o) ms p h ∙ ap Some (let q : suc o + p ≡ o + suc p = omega arith in q)

pub place_of_index : (ms : List Bool) (p : ℕ) → is_seen ms p ≡ true → slice_get (visible_places ms) (visible_before ms p) ≡ Some p
place_of_index ms p h = index_from 0 ms p h ∙ ap Some (let q : 0 + p ≡ p = omega arith in q)

module _ (X : IdSheet) (nodes : List Node) (columns : List (List FormulaCell)) (g : IsGraph (placed X) nodes (number_in columns)) where
  abbrev rows : List Bool
  rows = marks X.rows

  abbrev cols : List Bool
  cols = marks X.cols

  -- the cell of a node, of a number
  abbrev pub cell_of_node : Option Node → CellId
  cell_of_node None = cell_there X (0, 0)
  cell_of_node (Some x) = cell_shown X x.row x.col

  abbrev pub id_of : ℕ → CellId
  id_of n = cell_of_node (slice_get nodes n)

  abbrev row_index : CellId → ℕ
  row_index c = visible_before rows (rec_place X.rows c.row)

  abbrev col_index : CellId → ℕ
  col_index c = visible_before cols (rec_place X.cols c.col)

  module _ (c : CellId) (live : is_live_cell X c ≡ true) where
    row_live : is_live X.rows c.row ≡ true
    row_live = (both_true (is_live X.rows c.row) (is_live X.cols c.col) live).0

    col_live : is_live X.cols c.col ≡ true
    col_live = (both_true (is_live X.rows c.row) (is_live X.cols c.col) live).1

    row_seen : is_seen rows (rec_place X.rows c.row) ≡ true
    row_seen = live_seen X.rows c.row ∙ row_live

    col_seen : is_seen cols (rec_place X.cols c.col) ≡ true
    col_seen = live_seen X.cols c.col ∙ col_live

    content_of_cell : content_seen (placed X) (row_index c) (col_index c) ≡ locate_content X (X.cells c.row c.col)
    content_of_cell =
        (λ i. content_at (placed X) (place_of_index rows (rec_place X.rows c.row) row_seen i) (place_of_index cols (rec_place X.cols c.col) col_seen i))
        ∙ (content_there X (rec_place X.rows c.row) (rec_place X.cols c.col) (seen_below X.rows.lines X.rows.dead (rec_place X.rows c.row) row_seen) (seen_below X.cols.lines X.cols.dead (rec_place X.cols c.col) col_seen)
        ∙ (λ i. locate_content X (X.cells (live_rec X.rows c.row row_live i) (live_rec X.cols c.col col_live i))))

    cell_back : (x : Node) → x.row ≡ row_index c → x.col ≡ col_index c → cell_of_node (Some x) ≡ c
    cell_back x e f =
        (λ i. cell_there X (unwrap_or (slice_get (visible_places rows) (e i)) 0, unwrap_or (slice_get (visible_places cols) (f i)) 0))
        ∙ ((λ i. cell_there X (unwrap_or (place_of_index rows (rec_place X.rows c.row) row_seen i) 0, unwrap_or (place_of_index cols (rec_place X.cols c.col) col_seen i) 0))
        ∙ (λ i. cell_of (live_rec X.rows c.row row_live i) (live_rec X.cols c.col col_live i)))

  formula_located : (k : IdContent) → is_formula_content (locate_content X k) ≡ is_formula k
  formula_located blank = refl
  formula_located (number z) = refl
  formula_located (text t) = refl
  formula_located (formula t) = refl

  -- what has a number
  pub numbered : (c : CellId) (n : ℕ) → number_of X (number_in columns) c ≡ Some n → (is_live_cell X c ≡ true) × (number_in columns (row_index c) (col_index c) ≡ Some n)
  numbered c n h = by_live (is_live_cell X c) refl h
    where
      by_live : (b : Bool) → is_live_cell X c ≡ b → cond b (number_in columns (row_index c) (col_index c)) None ≡ Some n → (is_live_cell X c ≡ true) × (number_in columns (row_index c) (col_index c) ≡ Some n)
      by_live true e k = (e, k)
      by_live false e k = absurd (let q : None ≡ Some n = k in cc)

  pub back : (c : CellId) (n : ℕ) → number_of X (number_in columns) c ≡ Some n → id_of n ≡ c
  back c n h =
      let a = numbered c n h in
      let x = g.back (row_index c) (col_index c) n a.1 in
      ap cell_of_node x.1 ∙ cell_back c a.0 x.0 x.2 x.3

  -- the node of a number, and its content
  pub node_content : (c : CellId) (n : ℕ) → number_of X (number_in columns) c ≡ Some n → (x : Node) × (slice_get nodes n ≡ Some x) × (locate_content X (X.cells c.row c.col) ≡ content.Formula x.formula)
  node_content c n h =
      let a = numbered c n h in
      let x = g.back (row_index c) (col_index c) n a.1 in
      let is = (g.node n x.0 x.1).1 in
      (x.0, x.1, sym (content_of_cell c a.0) ∙ ((λ i. content_seen (placed X) (sym x.2 i) (sym x.3 i)) ∙ is.formula))

  pub some : (c : CellId) (n : ℕ) → number_of X (number_in columns) c ≡ Some n → is_formula_cell X c ≡ true
  some c n h =
      let x = node_content c n h in
      let f : is_formula (X.cells c.row c.col) ≡ true = sym (formula_located (X.cells c.row c.col)) ∙ ap is_formula_content x.2 in
      λ i. (numbered c n h).0 i && f i

  pub none : (c : CellId) → number_of X (number_in columns) c ≡ None → is_formula_cell X c ≡ false
  none c h = by_live (is_live_cell X c) refl h
    where
      by_live : (b : Bool) → is_live_cell X c ≡ b → cond b (number_in columns (row_index c) (col_index c)) None ≡ None → is_formula_cell X c ≡ false
      by_live false e k = ap (λ b. b && is_formula (X.cells c.row c.col)) e
      by_live true e k =
          ap (λ b. b && is_formula (X.cells c.row c.col)) e
          ∙ (sym (formula_located (X.cells c.row c.col))
          ∙ (ap is_formula_content (sym (content_of_cell c e)) ∙ g.none (row_index c) (col_index c) tt k))

  pub leads : IsWellFormed X → (n : ℕ) → number_of X (number_in columns) (id_of n) ≡ Some n → mentions_in nodes columns n ≡ filter_map (number_of X (number_in columns)) (precedents X (id_of n))
  leads w n h =
      let x = node_content (id_of n) n h in
      let is = (g.node n x.0 x.1).1 in
      ap (flat_map (in_area (number_in columns))) (areas_found nodes n x.0 x.1 ∙ is.areas)
      ∙ by_content x.0.formula (X.cells (id_of n).row (id_of n).col) x.2
    where
      by_content : (t : Tree Spot Span) (k : IdContent) → locate_content X k ≡ content.Formula t → flat_map (in_area (number_in columns)) (areas_in rows cols t) ≡ filter_map (number_of X (number_in columns)) (content_precedents X k)
      by_content t blank e = absurd (let q : false ≡ true = ap is_formula_content e in cc)
      by_content t (number z) e = absurd (let q : false ≡ true = ap is_formula_content e in cc)
      by_content t (text s) e = absurd (let q : false ≡ true = ap is_formula_content e in cc)
      by_content t (formula s) e =
          let same : rename_tree (locate_cell X) (locate_range X) s ≡ t = cc in
          subst (λ (u : Tree Spot Span). flat_map (in_area (number_in columns)) (areas_in rows cols u) ≡ filter_map (number_of X (number_in columns)) (mentioned X s)) same (numbers_lead X (number_in columns) w s)
