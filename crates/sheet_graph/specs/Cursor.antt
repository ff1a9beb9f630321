-- How a cursor goes through areas.
use Rattle.std.proofs.Common.{◌≡◌, ℕ, zero, suc, ◌+◌, ◌<◌, ◌≤◌, true, false, Bool, List, [], ◌∷◌, ◌++◌, length, refl, ap, sym, ◌∙◌, subst, arith, append_assoc, inl, inr, Some}
use Rattle.std.specs.Prelude.{◌-◌, ◌⊎◌, max, nat_lt, flat_map, slice_get}
use Rattle.std.proofs.lemmas.Bool.Decides.{nat_tests}
use Rattle.cell_walk.specs.declared.walking.Interval.{Interval}
use Rattle.cell_walk.specs.Walks.{interval_cells}
use Rattle.sheet_graph.specs.declared.areas.Area.{Area}
use Rattle.sheet_graph.specs.declared.columns.FormulaCell.{FormulaCell}
use Rattle.sheet_graph.specs.Columns.{column_at, numbers_between, in_column, in_columns, left_from, listed_in, left_in_area, left_in_areas}

pub less_or_not : (a b : ℕ) → (a < b) ⊎ (b ≤ a)
less_or_not a b = by_test (nat_lt a b) refl
  where
    by_test : (t : Bool) → nat_lt a b ≡ t → (a < b) ⊎ (b ≤ a)
    by_test true e = inl (grind (arith, nat_tests))
    by_test false e = inr (grind (arith, nat_tests))

pub column_is : (columns : List (List FormulaCell)) (col : ℕ) (seats : List FormulaCell) → slice_get columns col ≡ Some seats → column_at columns col ≡ seats
column_is [] col seats h = absurd (cc)
column_is (x ∷ columns) zero seats h = let e : x ≡ seats = cc in e
column_is (x ∷ columns) (suc col) seats h = column_is columns col seats h

module _ (columns : List (List FormulaCell)) where
  -- ---- in an area
  pub no_column : (a : Area) (col : ℕ) → length columns ≤ col → in_column columns a col ≡ []
  no_column a col h = ap (λ (seats : List FormulaCell). numbers_between a.top a.bottom seats) (past columns col h)
    where
      past : (cs : List (List FormulaCell)) (c : ℕ) → length cs ≤ c → column_at cs c ≡ []
      past [] c l = refl
      past (x ∷ cs) zero l = absurd (omega arith)
      past (x ∷ cs) (suc c) l = past cs c (omega arith)

  from_is : (a : Area) (col : ℕ) → col < a.right → left_from columns a col ≡ in_column columns a col ++ left_from columns a (col + 1)
  from_is a col h =
      ap (in_columns columns a col) (let e : a.right - col ≡ suc (a.right - (col + 1)) = omega arith in e)
      ∙ ap (λ c. in_column columns a col ++ in_columns columns a c (a.right - (col + 1))) (let e : suc col ≡ col + 1 = omega arith in e)

  pub area_end : (a : Area) (col : ℕ) → a.right ≤ col → left_from columns a col ≡ []
  area_end a col h = ap (in_columns columns a col) (let e : a.right - col ≡ 0 = omega arith in e)

  pub area_found : (a : Area) (col : ℕ) (run : Interval) → col < a.right → a.left ≤ col → in_column columns a col ≡ interval_cells run → left_from columns a col ≡ interval_cells run ++ left_in_area columns a (col + 1)
  area_found a col run h l e =
      from_is a col h
      ∙ (λ i. e i ++ left_from columns a (c i))
    where
      c : col + 1 ≡ max (col + 1) a.left
      c = omega arith

  pub area_next : (a : Area) (col : ℕ) → col < a.right → in_column columns a col ≡ [] → left_from columns a col ≡ left_from columns a (col + 1)
  area_next a col h e = from_is a col h ∙ ap (λ ns. ns ++ left_from columns a (col + 1)) e

  whole_area : (a : Area) → left_in_area columns a 0 ≡ listed_in columns a
  whole_area a = ap (left_from columns a) (let e : max 0 a.left ≡ a.left = omega arith in e)

  -- ---- in all areas
  pub all_left : (areas : List Area) → left_in_areas columns areas 0 0 ≡ flat_map (listed_in columns) areas
  all_left [] = refl
  all_left (a ∷ areas) = ap (λ ns. ns ++ flat_map (listed_in columns) areas) (whole_area a)

  pub areas_end : (areas : List Area) (k col : ℕ) → length areas ≤ k → left_in_areas columns areas k col ≡ []
  areas_end [] k col h = refl
  areas_end (a ∷ areas) zero col h = absurd (omega arith)
  areas_end (a ∷ areas) (suc k) col h = areas_end areas k col (omega arith)

  areas_next_at : (areas : List Area) (a : Area) (k col : ℕ) → slice_get areas k ≡ Some a → left_in_area columns a col ≡ [] → left_in_areas columns areas k col ≡ left_in_areas columns areas (suc k) 0
  areas_next_at [] a k col h e = absurd (cc)
  areas_next_at (b ∷ areas) a zero col h e =
      let s : b ≡ a = cc in
      ap (λ (x : Area). left_in_area columns x col ++ flat_map (listed_in columns) areas) s
      ∙ (ap (λ ns. ns ++ flat_map (listed_in columns) areas) e ∙ sym (all_left areas))
  areas_next_at (b ∷ areas) a (suc k) col h e = areas_next_at areas a k col h e

  pub areas_next : (areas : List Area) (a : Area) (k col : ℕ) → slice_get areas k ≡ Some a → left_in_area columns a col ≡ [] → left_in_areas columns areas k col ≡ left_in_areas columns areas (k + 1) 0
  areas_next areas a k col h e = areas_next_at areas a k col h e ∙ ap (λ j. left_in_areas columns areas j 0) (let e : suc k ≡ k + 1 = omega arith in e)

  pub areas_found : (areas : List Area) (a : Area) (k col : ℕ) (run : Interval) (c : ℕ) → slice_get areas k ≡ Some a → left_in_area columns a col ≡ interval_cells run ++ left_in_area columns a c → left_in_areas columns areas k col ≡ interval_cells run ++ left_in_areas columns areas k c
  areas_found [] a k col run c h e = absurd (cc)
  areas_found (b ∷ areas) a zero col run c h e =
      let s : a ≡ b = cc in
      ap (λ ns. ns ++ flat_map (listed_in columns) areas) (subst (λ (x : Area). left_in_area columns x col ≡ interval_cells run ++ left_in_area columns x c) s e)
      ∙ append_assoc (interval_cells run) (left_in_area columns b c) (flat_map (listed_in columns) areas)
  areas_found (b ∷ areas) a (suc k) col run c h e = areas_found areas a k col run c h e
