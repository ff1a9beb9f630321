-- Cells in an order, and their values by the final values.
use Rattle.std.proofs.Common.{◌≡◌, suc, ◌+◌, true, false, cond, List, [], ◌∷◌, length, ap, sym, ◌∙◌, subst, arith, inl, inr}
use Rattle.std.specs.Prelude.{◌⊎◌}
use Rattle.std.specs.List.{list_any, AllByRecursion}
use Rattle.ss_base.specs.declared.types.CalcErr.TheVariants as fault
use Rattle.sheet_value.specs.declared.value.Value.TheVariants as value
use Rattle.sheet_ops.specs.Identity.{IdSheet}
use Rattle.cell_walk.specs.Walks.{IsIn}
use Rattle.full_calc.specs.Precedents.{CellId, is_live_cell}
use Rattle.full_calc.specs.Circular.{is_formula_cell, formula_cells, precedents, is_circular}
use Rattle.full_calc.specs.Values.{value_at_depth, value_of}
use Rattle.full_calc.proofs.Circles as circles
use Rattle.full_calc.proofs.Circles.{for_each, at_each, none_of, and_false}
use Rattle.full_calc.proofs.Sheets.{step_of, formula_in, value_stays}

-- a live cell that isn't circular comes to what its content comes to by the values
pub value_step : (X : IdSheet) (c : CellId) → is_live_cell X c ≡ true → is_circular X c ≡ false → value_of X c ≡ step_of X c (value_of X)
value_step X c h f =
    sym (value_stays X 1 c h)
    ∙ (ap (λ n. value_at_depth X n c) (let q : 1 + length (formula_cells X) ≡ suc (length (formula_cells X)) = omega arith in q)
    ∙ ap (λ b. cond b (value.Err fault.Circ) (step_of X c (value_of X))) f)

module _ (X : IdSheet) (known : CellId → Type 0) (free : (d : CellId) → known d → is_circular X d ≡ false) where
  -- each stands behind all that it mentions, but for what is known; the last one first
  abbrev pub Stands : List CellId → Type 0
  Stands [] = Unit {0}
  Stands (c ∷ before) = AllByRecursion (λ d. IsIn d before ⊎ known d) (precedents X c) × Stands before

  pub stands_free : (order : List CellId) → Stands order → (c : CellId) → IsIn c order → is_circular X c ≡ false
  stands_free [] h c i = absurd i
  stands_free (x ∷ before) h c (inr i) = stands_free before h.1 c i
  stands_free (x ∷ before) h c (inl e) = subst (λ (d : CellId). is_circular X d ≡ false) e (here (λ d i. stands_free before h.1 d i))
    where
      here : ((d : CellId) → IsIn d before → is_circular X d ≡ false) → is_circular X x ≡ false
      here r =
          sym (circles.settled (is_formula_cell X) (precedents X) (formula_cells X) (formula_in X) x)
          ∙ and_false (is_formula_cell X x) (list_any (λ d. is_circular X d) (precedents X x))
          (none_of (λ d. is_circular X d) (precedents X x) (for_each (λ d. is_circular X d ≡ false) (precedents X x) (λ d i. by_place d (at_each (λ d. IsIn d before ⊎ known d) (precedents X x) d h.0 i))))
        where
          by_place : (d : CellId) → (IsIn d before ⊎ known d) → is_circular X d ≡ false
          by_place d (inl i) = r d i
          by_place d (inr k) = free d k
