-- The opening sheet has no values.
use Rattle.std.proofs.Common.{◌≡◌, ℕ, zero, suc, Bool, true, false, List, [], ◌∷◌, length, refl, ap, sym, ◌∙◌}
use Rattle.std.specs.Prelude.{◌&&◌, if◌then◌else◌, map, replicate}
use Rattle.ss_base.specs.declared.types.Size.{Size}
use Rattle.ss_base.specs.declared.types.CalcErr.TheVariants as fault
use Rattle.sheet_value.specs.declared.value.Value.TheVariants as value
use Rattle.sheet_value.specs.Tables.{empty_table}
use Rattle.sheet_ops.specs.Lines.{AxisLine, opening_axis, opening_lines, live_lines}
use Rattle.sheet_ops.specs.Identity.{opened}
use Rattle.full_calc.specs.Precedents.{CellId, is_live_cell}
use Rattle.full_calc.specs.Circular.{is_circular_at, formula_cells}
use Rattle.full_calc.specs.Values.{value_at_depth, value_of, value_table}

and_false : (t : Bool) → (t && false) ≡ false
and_false true = refl
and_false false = refl

false_first : (s t : Bool) → s ≡ false → (s && t) ≡ false
false_first true t e = absurd (let clash : true ≡ false = e in cc)
false_first false t e = refl

module _ (size : Size) where
  not_circular : (n : ℕ) (c : CellId) → is_circular_at (opened size) n c ≡ false
  not_circular zero c = and_false (is_live_cell (opened size) c)
  not_circular (suc n) c = false_first (is_live_cell (opened size) c && false) _ (and_false (is_live_cell (opened size) c))

  nothing_at : (n : ℕ) (c : CellId) → value_at_depth (opened size) n c ≡ value.Empty
  nothing_at zero c = ap (λ (t : Bool). if t then value.Err fault.Circ else value.Empty) (not_circular (length (formula_cells (opened size))) c)
  nothing_at (suc n) c = ap (λ (t : Bool). if t then value.Err fault.Circ else value.Empty) (not_circular (length (formula_cells (opened size))) c)

  all_live : (first count : ℕ) → length (live_lines (record { lines = opening_lines first count; dead = λ _. false })) ≡ count
  all_live first zero = refl
  all_live first (suc count) = ap suc (all_live (suc first) count)

  all_alike : {A B : Type 0} (f : A → B) (b : B) (xs : List A) → ((x : A) → f x ≡ b) → map f xs ≡ replicate (length xs) b
  all_alike f b [] same = refl
  all_alike f b (x ∷ xs) same = λ i. same x i ∷ all_alike f b xs same i

  pub opened_values : empty_table size ≡ value_table (opened size)
  opened_values =
      let lines_of = λ (n : ℕ). live_lines (opening_axis n) in
      let row : (r : AxisLine) → map (λ (c : AxisLine). value_of (opened size) (record { row = r.rec; col = c.rec })) (lines_of size.cols) ≡ replicate (length (lines_of size.cols)) value.Empty =
      (λ r. all_alike (λ (c : AxisLine). value_of (opened size) (record { row = r.rec; col = c.rec })) value.Empty (lines_of size.cols) (λ c. nothing_at (length (formula_cells (opened size))) (record { row = r.rec; col = c.rec }))) in
      let all = all_alike (λ (r : AxisLine). map (λ (c : AxisLine). value_of (opened size) (record { row = r.rec; col = c.rec })) (lines_of size.cols)) (replicate (length (lines_of size.cols)) value.Empty) (lines_of size.rows) row in
      let rows = all_live 0 size.rows in
      let cols = all_live 0 size.cols in
      sym (λ i. record {
        size = record { rows = rows i; cols = cols i };
        rows = (all ∙ (λ j. replicate (rows j) (replicate (cols j) value.Empty))) i;
      })
