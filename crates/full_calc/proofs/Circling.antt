-- What the walk marks as circular is so.
use Rattle.std.proofs.Common.{◌≡◌, ℕ, zero, suc, ◌+◌, ◌<◌, Bool, true, false, List, [], ◌∷◌, length, refl, ap, sym, ◌∙◌, subst, arith, inl, inr, Some, None, Option}
use Rattle.std.specs.Prelude.{◌⊎◌, unwrap_or, slice_get}
use Rattle.std.specs.List.{list_any, filter_map, cons_option}
use Rattle.cell_walk.specs.declared.walking.Colour.{Colour}
use Rattle.cell_walk.specs.declared.walking.Colour.TheVariants.{Ordered}
use Rattle.cell_walk.specs.Walks as walks
use Rattle.cell_walk.specs.Walks.{Orderly}
use Rattle.cell_walk.specs.Walks.{IsIn}
use Rattle.sheet_graph.specs.declared.columns.FormulaCell.{FormulaCell}
use Rattle.marked_lines.specs.Marks.{places_from, visible_places, visible_before}
use Rattle.sheet_ops.specs.Lines.{marks}
use Rattle.sheet_ops.specs.Fits.{IsWellFormed}
use Rattle.sheet_ops.specs.Identity.{IdSheet}
use Rattle.sheet_ops.specs.Placed.{PlacedSheet, placed}
use Rattle.sheet_graph.specs.declared.graph.Node.{Node}
use Rattle.sheet_graph.specs.Columns.{number_in}
use Rattle.sheet_graph.specs.Graphs.{is_formula_content, content_at, IsGraph}
use Rattle.full_calc.specs.Precedents.{CellId, is_seen}
use Rattle.full_calc.specs.Circular.{is_formula_cell, formula_cells, precedents, is_circular}
use Rattle.sheet_graph.specs.Graphs.{mentions_in}
use Rattle.full_calc.proofs.Circles as circles
use Rattle.full_calc.proofs.Circles.{for_each, none_of, and_false}
use Rattle.full_calc.proofs.Sheets.{formula_in}
use Rattle.sheet_graph.proofs.Within.{mentions_within}
use Rattle.full_calc.proofs.Orders.{walk_circular, leaf_known}
use Rattle.full_calc.proofs.Numbering.{number_of, number_at}
use Rattle.full_calc.proofs.Premises.{id_of, cell_of_node, back, some, none, leads}

-- the index of the position of an index
index_again : (o : ℕ) (ms : List Bool) (v p : ℕ) → slice_get (places_from o ms) v ≡ Some p → (k : ℕ) × (o + k ≡ p) × (is_seen ms k ≡ true) × (visible_before ms k ≡ v)
index_again o [] v p h = absurd (let e : None ≡ Some p = h in cc)
index_again o (true ∷ ms) v p h = let r = index_again (suc o) ms v p h in (suc r.0, (let a = r.1 in let q : o + suc r.0 ≡ p = omega arith in q), r.2, r.3)
index_again o (false ∷ ms) zero p h = (zero, (let a : o ≡ p = cc in let q : o + 0 ≡ p = omega arith in q), refl, refl)
index_again o (false ∷ ms) (suc v) p h = let r = index_again (suc o) ms v p h in (suc r.0, (let a = r.1 in let q : o + suc r.0 ≡ p = omega arith in q), r.2, ap suc r.3)

pub index_of_place : (ms : List Bool) (v p : ℕ) → slice_get (visible_places ms) v ≡ Some p → (is_seen ms p ≡ true) × (visible_before ms p ≡ v)
index_of_place ms v p h =
    let r = index_again 0 ms v p h in
    let e : r.0 ≡ p = let a = r.1 in omega arith in
    subst (λ k. (is_seen ms k ≡ true) × (visible_before ms k ≡ v)) e (r.2, r.3)

-- a formula that is seen stands at positions
module _ (P : PlacedSheet) where
  places_of : (a b : Option ℕ) → is_formula_content (content_at P a b) ≡ true → (p : ℕ) × (q : ℕ) × (a ≡ Some p) × (b ≡ Some q)
  places_of None b h = absurd (let e : false ≡ true = h in cc)
  places_of (Some p) None h = absurd (let e : false ≡ true = h in cc)
  places_of (Some p) (Some q) h = (p, q, refl, refl)

module _ (X : IdSheet) (w : IsWellFormed X) (nodes : List Node) (columns : List (List FormulaCell)) (g : IsGraph (placed X) nodes (number_in columns)) where
  pub number_of_node : (n : ℕ) (x : Node) → slice_get nodes n ≡ Some x → number_of X (number_in columns) (id_of X nodes columns g n) ≡ Some n
  number_of_node n x h =
      let is = g.node n x h in
      let at = places_of (placed X) (slice_get (visible_places (marks X.rows)) x.row) (slice_get (visible_places (marks X.cols)) x.col) (ap is_formula_content is.1.formula) in
      let r = index_of_place (marks X.rows) x.row at.0 at.2 in
      let c = index_of_place (marks X.cols) x.col at.1 at.3 in
      ap (λ (o : Option Node). number_of X (number_in columns) (cell_of_node X nodes columns g o)) h
      ∙ ((λ i. number_of X (number_in columns) (Rattle.full_calc.proofs.Positions.cell_there X (unwrap_or (at.2 i) 0, unwrap_or (at.3 i) 0)))
      ∙ (number_at X (number_in columns) w (at.0, at.1) (r.0, c.0)
      ∙ ((λ i. number_in columns (r.1 i) (c.1 i)) ∙ is.0)))

  get_there : (ns : List Node) (n : ℕ) → n < length ns → (x : Node) × (slice_get ns n ≡ Some x)
  get_there [] n h = absurd (omega arith)
  get_there (y ∷ ns) zero h = (y, refl)
  get_there (y ∷ ns) (suc n) h = get_there ns n (omega arith)

  -- each cell that the walk marked, and that mentions a marked one, is circular
  pub marked_circular : (circle : ℕ → Bool) → ((n : ℕ) → circle n ≡ true → n < length nodes) → ((n : ℕ) → circle n ≡ true → list_any circle (mentions_in nodes columns n) ≡ true) →
      (n : ℕ) → circle n ≡ true → is_circular X (id_of X nodes columns g n) ≡ true
  marked_circular circle below circles_are n h =
      walk_circular X (id_of X nodes columns g) (number_of X (number_in columns)) (mentions_in nodes columns)
      (back X nodes columns g) (some X nodes columns g) (none X nodes columns g) (leads X nodes columns g w)
      circle (λ m k. let x = get_there nodes m (below m k) in number_of_node m x.0 x.1) circles_are n h

  numbers_in : (d : CellId) (m : ℕ) (cs : List CellId) → number_of X (number_in columns) d ≡ Some m → IsIn d cs → walks.IsIn m (filter_map (number_of X (number_in columns)) cs)
  numbers_in d m [] e i = absurd i
  numbers_in d m (c ∷ cs) e (inl p) = by_number (number_of X (number_in columns) c) (ap (number_of X (number_in columns)) p ∙ e)
    where
      by_number : (o : Option ℕ) → o ≡ Some m → walks.IsIn m (cons_option o (filter_map (number_of X (number_in columns)) cs))
      by_number None q = absurd (cc)
      by_number (Some n) q = inl (cc)
  numbers_in d m (c ∷ cs) e (inr i) = by_number (number_of X (number_in columns) c) (numbers_in d m cs e i)
    where
      by_number : (o : Option ℕ) → walks.IsIn m (filter_map (number_of X (number_in columns)) cs) → walks.IsIn m (cons_option o (filter_map (number_of X (number_in columns)) cs))
      by_number None k = k
      by_number (Some n) k = inr k

  -- what stands in the walk's order isn't circular, where nothing was in order at the beginning
  module _ (first : ℕ → Colour) (none_first : (m : ℕ) → first m ≡ Ordered → ⊥) where
    ordered_here : (n : ℕ) (before : List ℕ) → n < length nodes → ((d : ℕ) → walks.IsIn d (mentions_in nodes columns n) → walks.IsIn d before ⊎ (first d ≡ Ordered)) →
        ((m : ℕ) → walks.IsIn m before → m < length nodes → is_circular X (id_of X nodes columns g m) ≡ false) → is_circular X (id_of X nodes columns g n) ≡ false
    ordered_here n before l h r =
        sym (circles.settled (is_formula_cell X) (precedents X) (formula_cells X) (formula_in X) (id_of X nodes columns g n))
        ∙ and_false (is_formula_cell X (id_of X nodes columns g n)) (list_any (λ d. is_circular X d) (precedents X (id_of X nodes columns g n)))
        (none_of (λ d. is_circular X d) (precedents X (id_of X nodes columns g n))
        (for_each (λ d. is_circular X d ≡ false) (precedents X (id_of X nodes columns g n)) (λ d i. by_number d i (number_of X (number_in columns) d) refl)))
      where
        has : number_of X (number_in columns) (id_of X nodes columns g n) ≡ Some n
        has = let x = get_there nodes n l in number_of_node n x.0 x.1

        by_place : (m : ℕ) → m < length nodes → (walks.IsIn m before ⊎ (first m ≡ Ordered)) → is_circular X (id_of X nodes columns g m) ≡ false
        by_place m k (inl i) = r m i k
        by_place m k (inr e) = absurd (none_first m e)

        by_number : (d : CellId) → IsIn d (precedents X (id_of X nodes columns g n)) → (o : Option ℕ) → number_of X (number_in columns) d ≡ o → is_circular X d ≡ false
        by_number d i None e = leaf_known X d (none X nodes columns g d e)
        by_number d i (Some m) e =
            let j : walks.IsIn m (mentions_in nodes columns n) = subst (λ (ms : List ℕ). walks.IsIn m ms) (sym (leads X nodes columns g w n has)) (numbers_in d m (precedents X (id_of X nodes columns g n)) e i) in
            subst (λ (c : CellId). is_circular X c ≡ false) (back X nodes columns g d m e) (by_place m (mentions_within (placed X) nodes columns g n m l j) (h m j))

    pub ordered_free : (order : List ℕ) → Orderly (mentions_in nodes columns) first order → (n : ℕ) → walks.IsIn n order → n < length nodes → is_circular X (id_of X nodes columns g n) ≡ false
    ordered_free [] h n i l = absurd i
    ordered_free (x ∷ before) h n (inr i) l = ordered_free before h.1 n i l
    ordered_free (x ∷ before) h n (inl e) l =
        let k : x < length nodes = omega (arith, e, l) in
        subst (λ m. is_circular X (id_of X nodes columns g m) ≡ false) e (ordered_here x before k h.0 (λ m i j. ordered_free before h.1 m i j))
