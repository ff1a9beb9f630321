-- The numbers that the areas of a formula hold are those of the positions that it mentions.
use Rattle.std.proofs.Common.{◌≡◌, ℕ, zero, suc, ◌+◌, Bool, true, false, cond, List, [], ◌∷◌, ◌++◌, map, refl, ap, sym, ◌∙◌, arith, append_assoc, Some, None, Option}
use Rattle.std.specs.Prelude.{◌&&◌, ◌-◌, flat_map, filter_map, not, slice_index_or}
use Rattle.std.specs.List.{cons_option}
use Rattle.formula_tree.specs.Tree as tree
use Rattle.formula_tree.specs.Tree.{Tree, Trees}
use Rattle.ss_base.specs.declared.types.Spot.{Spot}
use Rattle.ss_base.specs.declared.types.Span.{Span}
use Rattle.marked_lines.specs.Marks.{visible_before, span_of}
use Rattle.sheet_graph.specs.declared.areas.Area.{Area}
use Rattle.sheet_graph.specs.Areas.{indexes_from, in_row, in_rows, in_area, area_at, area_over, areas_in, areas_in_all}
use Rattle.sheet_graph.proofs.Spans.{span_lines, lines_of_span}
use Rattle.full_calc.specs.Precedents.{places_between}
use Rattle.full_calc.specs.Positions.{places_in, places_in_all}

module _ {A B : Type 0} (g : A → Option B) where
  pub filter_map_join : (xs ys : List A) → filter_map g (xs ++ ys) ≡ filter_map g xs ++ filter_map g ys
  filter_map_join [] ys = refl
  filter_map_join (x ∷ xs) ys = by_value (g x) (filter_map_join xs ys)
    where
      by_value : (o : Option B) → filter_map g (xs ++ ys) ≡ filter_map g xs ++ filter_map g ys → cons_option o (filter_map g (xs ++ ys)) ≡ cons_option o (filter_map g xs) ++ filter_map g ys
      by_value None r = r
      by_value (Some y) r = ap (λ (zs : List B). y ∷ zs) r

module _ {A B : Type 0} (f : A → List B) where
  flat_map_join : (xs ys : List A) → flat_map f (xs ++ ys) ≡ flat_map f xs ++ flat_map f ys
  flat_map_join [] ys = refl
  flat_map_join (x ∷ xs) ys = ap (λ (zs : List B). f x ++ zs) (flat_map_join xs ys) ∙ sym (append_assoc (f x) (flat_map f xs) (flat_map f ys))

append_nil : {A : Type 0} (xs : List A) → xs ++ [] ≡ xs
append_nil [] = refl
append_nil {A} (x ∷ xs) = ap (λ (ys : List A). x ∷ ys) (append_nil xs)

module _ (N : ℕ → ℕ → Option ℕ) where
  abbrev row_of : ℕ → List ℕ → List ℕ
  row_of r cs = filter_map (λ c. N r c) cs

  abbrev rows_of : List ℕ → List ℕ → List ℕ
  rows_of rs cs = flat_map (λ r. row_of r cs) rs

  row_indexes : (r c k : ℕ) → in_row N r c k ≡ row_of r (indexes_from c k)
  row_indexes r c zero = refl
  row_indexes r c (suc k) = ap (cons_option (N r c)) (row_indexes r (suc c) k)

  rows_indexes : (left w r k : ℕ) → in_rows N left w r k ≡ rows_of (indexes_from r k) (indexes_from left w)
  rows_indexes left w r zero = refl
  rows_indexes left w r (suc k) = λ i. row_indexes r left w i ++ rows_indexes left w (suc r) k i

  module _ (rows cols : List Bool) where
    -- the number of a position
    abbrev pub number_there : ℕ × ℕ → Option ℕ
    number_there at = N (visible_before rows at.0) (visible_before cols at.1)

    row_places : (p : ℕ) (qs : List ℕ) → filter_map number_there (map (λ (q : ℕ). (p, q)) qs) ≡ row_of (visible_before rows p) (map (visible_before cols) qs)
    row_places p [] = refl
    row_places p (q ∷ qs) = ap (cons_option (N (visible_before rows p) (visible_before cols q))) (row_places p qs)

    rows_places : (ps qs : List ℕ) → filter_map number_there (flat_map (λ (p : ℕ). map (λ (q : ℕ). (p, q)) qs) ps) ≡ rows_of (map (visible_before rows) ps) (map (visible_before cols) qs)
    rows_places [] qs = refl
    rows_places (p ∷ ps) qs =
        filter_map_join number_there (map (λ (q : ℕ). (p, q)) qs) (flat_map (λ (p : ℕ). map (λ (q : ℕ). (p, q)) qs) ps)
        ∙ (λ i. row_places p qs i ++ rows_places ps qs i)

    no_columns : (rs : List ℕ) → rows_of rs [] ≡ []
    no_columns [] = refl
    no_columns (r ∷ rs) = no_columns rs

    over : (a b : Option (ℕ × ℕ)) → flat_map (in_area N) (area_over a b) ≡ rows_of (span_lines a) (span_lines b)
    over None b = refl
    over (Some r) None = sym (no_columns (span_lines (Some r)))
    over (Some r) (Some c) = append_nil (in_rows N c.0 (c.1 + 1 - c.0) r.0 (r.1 + 1 - r.0)) ∙ rows_indexes c.0 (c.1 + 1 - c.0) r.0 (r.1 + 1 - r.0)

    range_leads : (s : Span) → flat_map (in_area N) (areas_in rows cols (tree.range s)) ≡ filter_map number_there (places_in rows cols (tree.range s))
    range_leads s =
        over (span_of rows s.top s.bottom) (span_of cols s.left s.right)
        ∙ ((λ i. rows_of (sym (lines_of_span rows s.top s.bottom) i) (sym (lines_of_span cols s.left s.right) i))
        ∙ sym (rows_places (places_between rows s.top s.bottom) (places_between cols s.left s.right)))

    one : (r c : ℕ) → in_area N (record { top = r; left = c; bottom = r + 1; right = c + 1 }) ≡ cons_option (N r c) []
    one r c =
        (λ i. in_rows N c (w i) r (h i)) ∙ append_nil (cons_option (N r c) [])
      where
        w : c + 1 - c ≡ 1
        w = omega arith

        h : r + 1 - r ≡ 1
        h = omega arith

    cell_leads : (s : Spot) → flat_map (in_area N) (areas_in rows cols (tree.cell s)) ≡ filter_map number_there (places_in rows cols (tree.cell s))
    cell_leads s = by_marks (slice_index_or rows s.row true) (slice_index_or cols s.col true)
      where
        by_marks : (a b : Bool) → flat_map (in_area N) (area_at (cond a None (Some (visible_before rows s.row))) (cond b None (Some (visible_before cols s.col)))) ≡ filter_map number_there (cond (not a && not b) ((s.row, s.col) ∷ []) [])
        by_marks true b = refl
        by_marks false true = refl
        by_marks false false = append_nil (in_area N (record { top = visible_before rows s.row; left = visible_before cols s.col; bottom = visible_before rows s.row + 1; right = visible_before cols s.col + 1 })) ∙ one (visible_before rows s.row) (visible_before cols s.col)

    joined : (xs ys : List Area) (ps qs : List (ℕ × ℕ)) → flat_map (in_area N) xs ≡ filter_map number_there ps → flat_map (in_area N) ys ≡ filter_map number_there qs → flat_map (in_area N) (xs ++ ys) ≡ filter_map number_there (ps ++ qs)
    joined xs ys ps qs e f = flat_map_join (in_area N) xs ys ∙ ((λ i. e i ++ f i) ∙ sym (filter_map_join number_there ps qs))

    mutual
      pub areas_lead : (t : Tree Spot Span) → flat_map (in_area N) (areas_in rows cols t) ≡ filter_map number_there (places_in rows cols t)
      areas_lead (tree.num n) = refl
      areas_lead (tree.text t) = refl
      areas_lead (tree.fault e) = refl
      areas_lead (tree.cell s) = cell_leads s
      areas_lead (tree.range s) = range_leads s
      areas_lead (tree.pre op t) = areas_lead t
      areas_lead (tree.bin op s t) = joined (areas_in rows cols s) (areas_in rows cols t) (places_in rows cols s) (places_in rows cols t) (areas_lead s) (areas_lead t)
      areas_lead (tree.call f ts) = all_lead ts

      all_lead : (ts : Trees Spot Span) → flat_map (in_area N) (areas_in_all rows cols ts) ≡ filter_map number_there (places_in_all rows cols ts)
      all_lead tree.none = refl
      all_lead (tree.more t ts) = joined (areas_in rows cols t) (areas_in_all rows cols ts) (places_in rows cols t) (places_in_all rows cols ts) (areas_lead t) (all_lead ts)
