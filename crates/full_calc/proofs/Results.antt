-- What is computed of a sheet by positions, for every sheet by identity that is placed so.
use Rattle.std.proofs.Common.{◌≡◌, sym, subst}
use Rattle.sheet_value.specs.Tables.{Table}
use Rattle.sheet_ops.specs.Fits.{IsWellFormed}
use Rattle.sheet_ops.specs.Identity.{IdSheet}
use Rattle.sheet_ops.specs.Placed.{PlacedSheet, placed}
use Rattle.full_calc.specs.Values.{value_table}
use Rattle.full_calc.specs.Computed.{IsComputed}
use Rattle.full_calc.proofs.Runs.{computed_right}

pub computed_values : (P : PlacedSheet) (T : Table) → IsComputed P T → (X : IdSheet) → IsWellFormed X → placed X ≡ P → T ≡ value_table X
computed_values P T h X w e = right (subst (λ (Q : PlacedSheet). IsComputed Q T) (sym e) h)
  where
    right : IsComputed (placed X) T → T ≡ value_table X
    right k = computed_right X w k.nodes k.columns k.graph k.colours k.order k.base T k.len k.found k.constants k.values
