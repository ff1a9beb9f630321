use Rattle.std.proofs.Common.{arith, ap}
use Rattle.ss_base.specs.declared.types.Size.{Size}
use Rattle.sheet_grid.specs.Values.{placed_in}
use Rattle.sheet_text.proofs.RowLines.{seen_mapped}
use Rattle.sheet_text.proofs.content.formula_seen.Goals as goal

pub rename-requires : goal.rename-requires
rename-requires c =
    let rows = ap (λ (s : Size). s.rows) c.size-size.ensures.size in
    let cols = ap (λ (s : Size). s.cols) c.size-size.ensures.size in
    seen_mapped (placed_in c.args.sheet.now) (omega (arith, rows, c.size-size.ensures.rows)) (omega (arith, cols, c.size-size.ensures.cols)) c.args.formula
