-- The values that are computed one after another are those of the cells.
use Rattle.std.proofs.Common.{◌≡◌, ℕ, zero, suc, ◌<◌, ◌≤◌, Bool, true, false, cond, List, [], ◌∷◌, ◌++◌, length, refl, ap, sym, ◌∙◌, subst, arith, inl, inr, Some, None, Option}
use Rattle.std.specs.Prelude.{◌⊎◌, ◌&&◌, flat_map, reverse, slice_get, unwrap_or}
use Rattle.std.specs.List.{list_any}
use Rattle.sheet_graph.specs.declared.columns.FormulaCell.{FormulaCell}
use Rattle.std.proofs.lemmas.List.{reverse-append, reverse-reverse}
use Rattle.ss_base.specs.declared.types.CalcErr.TheVariants as fault
use Rattle.ss_base.specs.declared.types.Size.{Size}
use Rattle.formula_tree.specs.Tree.{Tree}
use Rattle.marked_lines.specs.Marks.{visible_places, visible_before}
use Rattle.sheet_value.specs.declared.value.Value.{Value}
use Rattle.sheet_value.specs.declared.value.Value.TheVariants as value
use Rattle.sheet_value.specs.Tables.{Table, value_at, with_value}
use Rattle.cell_eval.specs.Meaning.{formula_value}
use Rattle.sheet_ops.specs.Lines.{Axis, rec_at, marks}
use Rattle.sheet_ops.specs.Fits.{IsWellFormed}
use Rattle.sheet_ops.specs.Identity.{IdContent, blank, number, text, formula, IdSheet}
use Rattle.sheet_ops.specs.Naming.{locate_content}
use Rattle.sheet_ops.specs.Placed.{PlacedSheet, placed, cell_at}
use Rattle.cell_walk.specs.declared.walking.Colour.{Colour}
use Rattle.cell_walk.specs.declared.walking.Colour.TheVariants.{White, Grey, Ordered, Circular}
use Rattle.cell_walk.specs.Walks.{IsIn, hue, is_circle, Orderly, IsFound}
use Rattle.cell_walk.proofs.Hues.{hue_within}
use Rattle.sheet_grid.specs.Cells.{visible_size}
use Rattle.sheet_graph.specs.declared.graph.Node.{Node}
use Rattle.sheet_graph.specs.Areas.{in_area}
use Rattle.sheet_graph.specs.Columns.{number_in}
use Rattle.sheet_graph.specs.Cursor.{less_or_not}
use Rattle.sheet_graph.specs.Graphs.{mentions_in, is_formula_content, content_at, content_seen, IsGraph}
use Rattle.sheet_graph.proofs.Building.{get_past}
use Rattle.sheet_graph.proofs.Filled.{filter_map_in, get_there}
use Rattle.sheet_graph.proofs.Lists.{areas_found}
use Rattle.sheet_graph.proofs.Within.{get_below}
use Rattle.full_calc.specs.Precedents.{CellId, is_live_cell, is_seen}
use Rattle.full_calc.specs.Circular.{is_formula, is_formula_cell, formula_cells, is_circular}
use Rattle.full_calc.specs.Values.{content_value, formula_result, value_at_depth, value_of, value_table}
use Rattle.full_calc.specs.Positions.{places_in}
use Rattle.full_calc.specs.Looks.{look_environment}
use Rattle.full_calc.specs.Shown.{visible_position, cell_shown, value_shown, HasItsSize}
use Rattle.full_calc.specs.Evaluated.{constant_of, circled_node, circled, evaluated_node, evaluated, AreIn}
use Rattle.full_calc.specs.Computed.{HasConstants}
use Rattle.full_calc.proofs.Circles.{for_each, at_each}
use Rattle.full_calc.proofs.Orders.{leaf_known}
use Rattle.full_calc.proofs.Positions.{cell_there, content_there}
use Rattle.full_calc.proofs.Standing.{value_step}
use Rattle.full_calc.proofs.Leads.{number_there, areas_lead}
use Rattle.full_calc.proofs.Numbering.{seen_below, live_there, AreSeen, places_seen}
use Rattle.full_calc.proofs.Premises.{place_of_index, id_of, cell_of_node}
use Rattle.full_calc.proofs.Circling.{index_of_place, number_of_node, marked_circular, ordered_free}
use Rattle.full_calc.proofs.Node.{IsRightAt, node_value}
use Rattle.full_calc.proofs.Tables.{shaped_put, value_put, put_right}
use Rattle.full_calc.proofs.Shows.{shows_all}

-- ---- a formula cell is seen
seen_row : (P : PlacedSheet) (r c : ℕ) → is_formula_content (content_seen P r c) ≡ true → r < length (visible_places P.rows)
seen_row P r c h = by_place (less_or_not r (length (visible_places P.rows)))
  where
    by_place : ((r < length (visible_places P.rows)) ⊎ (length (visible_places P.rows) ≤ r)) → r < length (visible_places P.rows)
    by_place (inl l) = l
    by_place (inr l) = absurd (let e : is_formula_content (content_seen P r c) ≡ false = ap (λ (o : Option ℕ). is_formula_content (content_at P o (slice_get (visible_places P.cols) c))) (get_past (visible_places P.rows) r l) in cc)

seen_col : (P : PlacedSheet) (r c : ℕ) → is_formula_content (content_seen P r c) ≡ true → c < length (visible_places P.cols)
seen_col P r c h = by_place (less_or_not c (length (visible_places P.cols)))
  where
    none : (o : Option ℕ) → is_formula_content (content_at P o None) ≡ false
    none None = refl
    none (Some p) = refl

    by_place : ((c < length (visible_places P.cols)) ⊎ (length (visible_places P.cols) ≤ c)) → c < length (visible_places P.cols)
    by_place (inl l) = l
    by_place (inr l) = absurd (let e : is_formula_content (content_seen P r c) ≡ false = ap (λ (o : Option ℕ). is_formula_content (content_at P (slice_get (visible_places P.rows) r) o)) (get_past (visible_places P.cols) c l) ∙ none (slice_get (visible_places P.rows) r) in cc)

pub nodes_in : (P : PlacedSheet) (nodes : List Node) (N : ℕ → ℕ → Option ℕ) → IsGraph P nodes N → AreIn (visible_size P) nodes
nodes_in P nodes N g n x h =
    let is = (g.node n x h).1 in
    let f : is_formula_content (content_seen P x.row x.col) ≡ true = ap is_formula_content is.formula in
    (seen_row P x.row x.col f, seen_col P x.row x.col f)

pub are_in : (size other : Size) (nodes seen : List Node) → other ≡ size → seen ≡ nodes → AreIn size nodes → AreIn other seen
are_in size other nodes seen e f h = subst (λ (s : Size). AreIn s seen) (sym e) (subst (λ (ns : List Node). AreIn size ns) (sym f) h)

-- what was found of as many cells as a count says
pub found_of : (mentions : ℕ → List ℕ) (first h : ℕ → Colour) (order : List ℕ) (m n : ℕ) → m ≡ n → IsFound mentions first m h order → IsFound mentions first n h order
found_of mentions first h order m n e f = subst (λ (k : ℕ). IsFound mentions first k h order) e f

-- one more evaluation
evaluated_push : (rows cols : List Bool) (nodes : List Node) (xs : List ℕ) (n : ℕ) (T : Table) → evaluated rows cols nodes (xs ++ n ∷ []) T ≡ evaluated_node rows cols (slice_get nodes n) (evaluated rows cols nodes xs T)
evaluated_push rows cols nodes [] n T = refl
evaluated_push rows cols nodes (x ∷ xs) n T = evaluated_push rows cols nodes xs n (evaluated_node rows cols (slice_get nodes x) T)

circle_is : (c : Colour) → is_circle c ≡ true → c ≡ Circular
circle_is White h = absurd (let e : false ≡ true = h in cc)
circle_is Grey h = absurd (let e : false ≡ true = h in cc)
circle_is Ordered h = absurd (let e : false ≡ true = h in cc)
circle_is Circular h = refl

same_node : (nodes : List Node) (n : ℕ) (x y : Node) → slice_get nodes n ≡ Some x → slice_get nodes n ≡ Some y → x ≡ y
same_node nodes n x y e f = cc

module _ (X : IdSheet) where
  -- a circular cell has the fault
  circ_value : (c : CellId) → is_circular X c ≡ true → value_of X c ≡ value.Err fault.Circ
  circ_value c h = at_depth (length (formula_cells X))
    where
      at_depth : (n : ℕ) → value_at_depth X n c ≡ value.Err fault.Circ
      at_depth zero = rw h refl
      at_depth (suc n) = rw h refl

  formula_same : (k : IdContent) → is_formula k ≡ is_formula_content (locate_content X k)
  formula_same blank = refl
  formula_same (number z) = refl
  formula_same (text t) = refl
  formula_same (formula t) = refl

  constant_same : (k : IdContent) (f : Tree Rattle.sheet_ops.specs.Identity.IdCell Rattle.sheet_ops.specs.Identity.IdRange → Value) → is_formula_content (locate_content X k) ≡ false → content_value k f ≡ constant_of (locate_content X k)
  constant_same blank f h = refl
  constant_same (number z) f h = refl
  constant_same (text t) f h = refl
  constant_same (formula t) f h = absurd (let e : true ≡ false = h in cc)

module _ (X : IdSheet) (w : IsWellFormed X) where
  -- a visible line, and the position where it stands
  line_there : (axis : Axis) (v : ℕ) → v < length (visible_places (marks axis)) → (p : ℕ) × (slice_get (visible_places (marks axis)) v ≡ Some p) × (is_seen (marks axis) p ≡ true) × (visible_position (marks axis) v ≡ p)
  line_there axis v h =
      let x = get_there (visible_places (marks axis)) v h in
      (x.0, x.1, (index_of_place (marks axis) v x.0 x.1).0, ap (λ (o : Option ℕ). unwrap_or o 0) x.1)

  -- a cell without a formula shows its constant
  pub leaf_shown : (r c : ℕ) → r < length (visible_places (marks X.rows)) → c < length (visible_places (marks X.cols)) →
      is_formula_content (content_seen (placed X) r c) ≡ false → constant_of (content_seen (placed X) r c) ≡ value_shown X r c
  leaf_shown r c k l plain =
      let row = line_there X.rows r k in
      let col = line_there X.cols c l in
      let p = row.0 in
      let q = col.0 in
      let seen : content_seen (placed X) r c ≡ cell_at (placed X) p q = (λ i. content_at (placed X) (row.1 i) (col.1 i)) in
      let here : cell_at (placed X) p q ≡ locate_content X (X.cells (rec_at X.rows p) (rec_at X.cols q)) = content_there X p q (seen_below X.rows.lines X.rows.dead p row.2) (seen_below X.cols.lines X.cols.dead q col.2) in
      let none : is_formula_content (locate_content X (X.cells (rec_at X.rows p) (rec_at X.cols q))) ≡ false = sym (ap is_formula_content (seen ∙ here)) ∙ plain in
      let live : is_live_cell X (cell_there X (p, q)) ≡ true = (λ i. live_there X.rows w.rows.recs p row.2 i && live_there X.cols w.cols.recs q col.2 i) in
      let no_formula : is_formula_cell X (cell_there X (p, q)) ≡ false = (λ i. live i && (formula_same X (X.cells (rec_at X.rows p) (rec_at X.cols q)) ∙ none) i) in
      ap constant_of (seen ∙ here)
      ∙ (sym (constant_same X (X.cells (rec_at X.rows p) (rec_at X.cols q)) (λ t. formula_result X (value_of X) t) none)
      ∙ (sym (value_step X (cell_there X (p, q)) live (leaf_known X (cell_there X (p, q)) no_formula))
      ∙ (λ i. value_of X (record { row = rec_at X.rows (sym row.3 i); col = rec_at X.cols (sym col.3 i) }))))

  -- it is right from the beginning
  leaf_right : (base : Table) → HasConstants (placed X) base → (r c : ℕ) → r < length (visible_places (marks X.rows)) → c < length (visible_places (marks X.cols)) →
      is_formula_content (content_seen (placed X) r c) ≡ false → value_at base r c ≡ value_shown X r c
  leaf_right base h r c k l plain = h.values r c ∙ leaf_shown r c k l plain

module _ (X : IdSheet) (w : IsWellFormed X) (nodes : List Node) (columns : List (List FormulaCell)) (g : IsGraph (placed X) nodes (number_in columns)) where
  abbrev W : ℕ → ℕ → Value
  W = value_shown X

  abbrev Fits : Table → Type 0
  Fits T = HasItsSize T × (T.size ≡ visible_size (placed X))

  abbrev Keeps : Table → Table → Type 0
  Keeps T S = (r c : ℕ) → value_at T r c ≡ W r c → value_at S r c ≡ W r c

  node_row : (n : ℕ) (x : Node) → slice_get nodes n ≡ Some x → (T : Table) → T.size ≡ visible_size (placed X) → x.row < T.size.rows
  node_row n x e T s = subst (λ (z : Size). x.row < z.rows) (sym s) (nodes_in (placed X) nodes (number_in columns) g n x e).0

  node_col : (n : ℕ) (x : Node) → slice_get nodes n ≡ Some x → (T : Table) → T.size ≡ visible_size (placed X) → x.col < T.size.cols
  node_col n x e T s = subst (λ (z : Size). x.col < z.cols) (sym s) (nodes_in (placed X) nodes (number_in columns) g n x e).1

  id_shown : (n : ℕ) (x : Node) → slice_get nodes n ≡ Some x → id_of X nodes columns g n ≡ cell_shown X x.row x.col
  id_shown n x e = ap (cell_of_node X nodes columns g) e

  -- the right value is put at a node
  module _ (n : ℕ) (x : Node) (e : slice_get nodes n ≡ Some x) (T : Table) (f : Fits T) (v : Value) (right : v ≡ W x.row x.col) where
    put_fits : Fits (with_value T x.row x.col v)
    put_fits = (shaped_put T x.row x.col v f.0 (node_row n x e T f.1) (node_col n x e T f.1), f.1)

    put_keeps : Keeps T (with_value T x.row x.col v)
    put_keeps r c q = put_right T x.row x.col v f.0 (node_row n x e T f.1) (node_col n x e T f.1) W right r c q

    put_here : (y : Node) → slice_get nodes n ≡ Some y → value_at (with_value T x.row x.col v) y.row y.col ≡ W y.row y.col
    put_here y h = subst (λ (z : Node). value_at (with_value T x.row x.col v) z.row z.col ≡ W z.row z.col) (same_node nodes n x y e h)
        (value_put T x.row x.col v f.0 (node_row n x e T f.1) (node_col n x e T f.1) ∙ right)

  -- ---- the circular cells
  module _ (colours : List Colour) (len : length colours ≡ length nodes) (circles : (n : ℕ) → hue colours n ≡ Circular → list_any (λ d. is_circle (hue colours d)) (mentions_in nodes columns n) ≡ true) where
    marked : (n : ℕ) → is_circle (hue colours n) ≡ true → is_circular X (id_of X nodes columns g n) ≡ true
    marked n h = marked_circular X w nodes columns g (λ m. is_circle (hue colours m)) below (λ m k. circles m (circle_is (hue colours m) k)) n h
      where
        below : (m : ℕ) → is_circle (hue colours m) ≡ true → m < length nodes
        below m k = let l = hue_within colours m (λ q. let clash : false ≡ true = sym (ap is_circle q) ∙ k in cc) in let e = len in omega (arith, l, e)

    abbrev AreCircled : ℕ → Table → Table → Type 0
    AreCircled k T S = Fits S × Keeps T S × ((n : ℕ) (x : Node) → n < k → is_circle (hue colours n) ≡ true → slice_get nodes n ≡ Some x → value_at S x.row x.col ≡ W x.row x.col)

    circled_next : (k : ℕ) (T S : Table) → AreCircled k T S → (b : Bool) → is_circle (hue colours k) ≡ b → (o : Option Node) → slice_get nodes k ≡ o → AreCircled (suc k) T (cond b (circled_node o S) S)
    circled_next k T S r false e o q = (r.0, r.1, λ n x l m h. by_last n x m h (less_or_not n k) l)
      where
        by_last : (n : ℕ) (x : Node) → is_circle (hue colours n) ≡ true → slice_get nodes n ≡ Some x → ((n < k) ⊎ (k ≤ n)) → n < suc k → value_at S x.row x.col ≡ W x.row x.col
        by_last n x m h (inl l) j = r.2 n x l m h
        by_last n x m h (inr l) j = absurd (let s : n ≡ k = omega (arith, l, j) in let clash : true ≡ false = sym m ∙ (ap (λ a. is_circle (hue colours a)) s ∙ e) in cc)
    circled_next k T S r true e None q = (r.0, r.1, λ n x l m h. by_last n x m h (less_or_not n k) l)
      where
        by_last : (n : ℕ) (x : Node) → is_circle (hue colours n) ≡ true → slice_get nodes n ≡ Some x → ((n < k) ⊎ (k ≤ n)) → n < suc k → value_at S x.row x.col ≡ W x.row x.col
        by_last n x m h (inl l) j = r.2 n x l m h
        by_last n x m h (inr l) j = absurd (let s : n ≡ k = omega (arith, l, j) in let clash : None ≡ Some x = sym q ∙ (ap (slice_get nodes) (sym s) ∙ h) in cc)
    circled_next k T S r true e (Some y) q = (
      put_fits k y q S r.0 (value.Err fault.Circ) right,
      λ a b h. put_keeps k y q S r.0 (value.Err fault.Circ) right a b (r.1 a b h),
      λ n x l m h. by_last n x m h (less_or_not n k) l,
    )
      where
        right : value.Err fault.Circ ≡ W y.row y.col
        right = sym (circ_value X (id_of X nodes columns g k) (marked k e)) ∙ ap (value_of X) (id_shown k y q)

        by_last : (n : ℕ) (x : Node) → is_circle (hue colours n) ≡ true → slice_get nodes n ≡ Some x → ((n < k) ⊎ (k ≤ n)) → n < suc k → value_at (with_value S y.row y.col (value.Err fault.Circ)) x.row x.col ≡ W x.row x.col
        by_last n x m h (inl l) j = put_keeps k y q S r.0 (value.Err fault.Circ) right x.row x.col (r.2 n x l m h)
        by_last n x m h (inr l) j = put_here k y q S r.0 (value.Err fault.Circ) right x (let s : n ≡ k = omega (arith, l, j) in ap (slice_get nodes) (sym s) ∙ h)

    circled_right : (k : ℕ) (T : Table) → Fits T → AreCircled k T (circled nodes colours k T)
    circled_right zero T f = (f, λ r c e. e, λ n x l m h. absurd (omega arith))
    circled_right (suc k) T f = circled_next k T (circled nodes colours k T) (circled_right k T f) (is_circle (hue colours k)) refl (slice_get nodes k) refl

  -- ---- the others in their order
  module _ (T : Table) (f : Fits T) (leaf : (r c : ℕ) → r < length (visible_places (marks X.rows)) → c < length (visible_places (marks X.cols)) → number_in columns r c ≡ None → value_at T r c ≡ W r c) where
    abbrev AreEvaluated : List ℕ → Table → Type 0
    AreEvaluated R S = Fits S × Keeps T S × ((n : ℕ) (x : Node) → IsIn n R → slice_get nodes n ≡ Some x → value_at S x.row x.col ≡ W x.row x.col)

    abbrev rows : List Bool
    rows = marks X.rows

    abbrev cols : List Bool
    cols = marks X.cols

    -- what is right at a visible index is right at its position
    at_position : (S : Table) (p q : ℕ) → is_seen rows p ≡ true → is_seen cols q ≡ true → value_at S (visible_before rows p) (visible_before cols q) ≡ W (visible_before rows p) (visible_before cols q) → IsRightAt X S (p, q)
    at_position S p q h k e = e ∙ (λ i. value_of X (record { row = rec_at X.rows (unwrap_or (place_of_index rows p h i) 0); col = rec_at X.cols (unwrap_or (place_of_index cols q k i) 0) }))

    module _ (n : ℕ) (x : Node) (e : slice_get nodes n ≡ Some x) (before : List ℕ) (S : Table) (r : AreEvaluated before S)
        (behind : (d : ℕ) → IsIn d (mentions_in nodes columns n) → IsIn d before ⊎ (White ≡ Ordered)) where
      -- what its formula mentions is right
      mentioned_right : (at : ℕ × ℕ) → IsIn at (places_in rows cols x.formula) → IsRightAt X S at
      mentioned_right at i = by_number (number_in columns (visible_before rows at.0) (visible_before cols at.1)) refl
        where
          seen : AreSeen rows cols at
          seen = at_each (AreSeen rows cols) (places_in rows cols x.formula) at (places_seen rows cols x.formula) i

          mentions : (m : ℕ) → number_in columns (visible_before rows at.0) (visible_before cols at.1) ≡ Some m → IsIn m (mentions_in nodes columns n)
          mentions m h =
              subst (λ (ms : List ℕ). IsIn m ms)
              (sym (ap (flat_map (in_area (number_in columns))) (areas_found nodes n x e ∙ (g.node n x e).1.areas) ∙ areas_lead (number_in columns) rows cols x.formula))
              (filter_map_in (number_there (number_in columns) rows cols) at m (places_in rows cols x.formula) h i)

          by_place : (m : ℕ) → number_in columns (visible_before rows at.0) (visible_before cols at.1) ≡ Some m → (IsIn m before ⊎ (White ≡ Ordered)) → IsRightAt X S at
          by_place m h (inr q) = absurd (let clash : White ≡ Ordered = q in cc)
          by_place m h (inl j) =
              let y = g.back (visible_before rows at.0) (visible_before cols at.1) m h in
              at_position S at.0 at.1 seen.0 seen.1
              ((λ k. value_at S (sym y.2 k) (sym y.3 k)) ∙ (r.2 m y.0 j y.1 ∙ (λ k. W (y.2 k) (y.3 k))))

          by_number : (o : Option ℕ) → number_in columns (visible_before rows at.0) (visible_before cols at.1) ≡ o → IsRightAt X S at
          by_number None h =
              let a = get_below (visible_places rows) (visible_before rows at.0) at.0 (place_of_index rows at.0 seen.0) in
              let b = get_below (visible_places cols) (visible_before cols at.1) at.1 (place_of_index cols at.1 seen.1) in
              at_position S at.0 at.1 seen.0 seen.1 (r.1 (visible_before rows at.0) (visible_before cols at.1) (leaf (visible_before rows at.0) (visible_before cols at.1) a b h))
          by_number (Some m) h = by_place m h (behind m (mentions m h))

      next_right : is_circular X (id_of X nodes columns g n) ≡ false → formula_value (look_environment (marks X.rows) (marks X.cols) S) x.formula ≡ W x.row x.col
      next_right free =
          node_value X S nodes columns g n (number_of_node X w nodes columns g n x e) free x e (for_each (IsRightAt X S) (places_in rows cols x.formula) mentioned_right)
          ∙ ap (value_of X) (id_shown n x e)

      next_evaluated : is_circular X (id_of X nodes columns g n) ≡ false → AreEvaluated (n ∷ before) (evaluated_node (marks X.rows) (marks X.cols) (Some x) S)
      next_evaluated free = (
        put_fits n x e S r.0 (formula_value (look_environment (marks X.rows) (marks X.cols) S) x.formula) (next_right free),
        λ a b h. put_keeps n x e S r.0 (formula_value (look_environment (marks X.rows) (marks X.cols) S) x.formula) (next_right free) a b (r.1 a b h),
        λ m y i h. by_member m y h i,
      )
        where
          by_member : (m : ℕ) (y : Node) → slice_get nodes m ≡ Some y → IsIn m (n ∷ before) → value_at (evaluated_node (marks X.rows) (marks X.cols) (Some x) S) y.row y.col ≡ W y.row y.col
          by_member m y h (inl p) = put_here n x e S r.0 (formula_value (look_environment (marks X.rows) (marks X.cols) S) x.formula) (next_right free) y (ap (slice_get nodes) p ∙ h)
          by_member m y h (inr i) = put_keeps n x e S r.0 (formula_value (look_environment (marks X.rows) (marks X.cols) S) x.formula) (next_right free) y.row y.col (r.2 m y i h)

    evaluated_right : (R : List ℕ) → Orderly (mentions_in nodes columns) (λ c. White) R → ((n : ℕ) → IsIn n R → n < length nodes) → AreEvaluated R (evaluated (marks X.rows) (marks X.cols) nodes (reverse R) T)
    evaluated_right [] h below = (f, λ r c e. e, λ n x i e. absurd i)
    evaluated_right (n ∷ before) h below =
        let x = get_there nodes n (below n (inl refl)) in
        let free = ordered_free X w nodes columns g (λ c. White) (λ m q. let clash : White ≡ Ordered = q in cc) (n ∷ before) h n (inl refl) (below n (inl refl)) in
        let now = next_evaluated n x.0 x.1 before (evaluated (marks X.rows) (marks X.cols) nodes (reverse before) T) (evaluated_right before h.1 (λ m i. below m (inr i))) h.0 free in
        subst (λ (S : Table). AreEvaluated (n ∷ before) S)
        (sym (ap (λ (xs : List ℕ). evaluated (marks X.rows) (marks X.cols) nodes xs T) (reverse-append (n ∷ []) before)
        ∙ (evaluated_push (marks X.rows) (marks X.cols) nodes (reverse before) n T
        ∙ ap (λ (o : Option Node). evaluated_node (marks X.rows) (marks X.cols) o (evaluated (marks X.rows) (marks X.cols) nodes (reverse before) T)) x.1)))
        now

  -- ---- all
  module _ (colours : List Colour) (order : List ℕ) (base T : Table) (len : length colours ≡ length nodes)
      (found : IsFound (mentions_in nodes columns) (λ c. White) (length nodes) (hue colours) (reverse order))
      (constants : HasConstants (placed X) base)
      (values : T ≡ evaluated (marks X.rows) (marks X.cols) nodes order (circled nodes colours (length nodes) base)) where
    below : (n : ℕ) → IsIn n (reverse order) → n < length nodes
    below n i = let l = hue_within colours n (λ q. let clash : White ≡ Ordered = sym q ∙ (found.ordered n i).0 in cc) in let e = len in omega (arith, l, e)

    first_leaf : (r c : ℕ) → r < length (visible_places (marks X.rows)) → c < length (visible_places (marks X.cols)) → number_in columns r c ≡ None → value_at base r c ≡ W r c
    first_leaf r c h k e = leaf_right X w base constants r c h k (g.none r c tt e)

    circles_done : AreCircled colours len found.circles (length nodes) base (circled nodes colours (length nodes) base)
    circles_done = circled_right colours len found.circles (length nodes) base (constants.shape, constants.size)

    all_done : AreEvaluated (circled nodes colours (length nodes) base) circles_done.0 (λ r c h k e. circles_done.1 r c (first_leaf r c h k e)) (reverse order) T
    all_done =
        subst (λ (S : Table). AreEvaluated (circled nodes colours (length nodes) base) circles_done.0 (λ r c h k e. circles_done.1 r c (first_leaf r c h k e)) (reverse order) S)
        (ap (λ (xs : List ℕ). evaluated (marks X.rows) (marks X.cols) nodes xs (circled nodes colours (length nodes) base)) (reverse-reverse order) ∙ sym values)
        (evaluated_right (circled nodes colours (length nodes) base) circles_done.0 (λ r c h k e. circles_done.1 r c (first_leaf r c h k e)) (reverse order) found.orderly below)

    right_at : (r c : ℕ) → r < length (visible_places (marks X.rows)) → c < length (visible_places (marks X.cols)) → value_at T r c ≡ W r c
    right_at r c h k = by_number (number_in columns r c) refl
      where
        by_colour : (n : ℕ) (x : Node) → slice_get nodes n ≡ Some x → ((hue colours n ≡ Ordered) ⊎ (hue colours n ≡ Circular)) → value_at T x.row x.col ≡ W x.row x.col
        by_colour n x e (inr q) = all_done.1 x.row x.col (circles_done.2 n x (get_below nodes n x e) (ap is_circle q) e)
        by_colour n x e (inl q) = by_place (found.in_order n q)
          where
            by_place : (IsIn n (reverse order) ⊎ (White ≡ Ordered)) → value_at T x.row x.col ≡ W x.row x.col
            by_place (inl i) = all_done.2 n x i e
            by_place (inr p) = absurd (let clash : White ≡ Ordered = p in cc)

        by_number : (o : Option ℕ) → number_in columns r c ≡ o → value_at T r c ≡ W r c
        by_number None e = all_done.1 r c (circles_done.1 r c (first_leaf r c h k e))
        by_number (Some n) e =
            let x = g.back r c n e in
            (λ i. value_at T (sym x.2 i) (sym x.3 i)) ∙ (by_colour n x.0 x.1 (found.each n (get_below nodes n x.0 x.1)) ∙ (λ i. W (x.2 i) (x.3 i)))

    pub computed_right : T ≡ value_table X
    computed_right = shows_all X T all_done.0.0 all_done.0.1 (λ r c h k. right_at r c (row_below h) (col_below k))
      where
        row_below : {r : ℕ} → r < T.size.rows → r < length (visible_places (marks X.rows))
        row_below l = let e = ap (λ (z : Size). z.rows) all_done.0.1 in omega (arith, e, l)

        col_below : {c : ℕ} → c < T.size.cols → c < length (visible_places (marks X.cols))
        col_below l = let e = ap (λ (z : Size). z.cols) all_done.0.1 in omega (arith, e, l)
