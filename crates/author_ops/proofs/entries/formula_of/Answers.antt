use Rattle.std.proofs.Common.{ap, arith}
use Rattle.ss_base.specs.declared.types.Size.{Size}
use Rattle.formula_read.proofs.Readings.{reading, reading-is}
use Rattle.sheet_grid.specs.Values.{placed_in}
use Rattle.author_ops.proofs.Formulas.{typed_mapped, answered, entered_tree, entered_deep, entered_at}
use Rattle.author_ops.proofs.entries.formula_of.Goals as goal

pub rename-requires : goal.rename-requires
rename-requires c =
    let rows = ap (λ (s : Size). s.rows) c.size-size.ensures.size in
    let cols = ap (λ (s : Size). s.cols) c.size-size.ensures.size in
    typed_mapped (placed_in c.args.sheet.now).rows (placed_in c.args.sheet.now).cols (omega (arith, rows, c.size-size.ensures.rows)) (omega (arith, cols, c.size-size.ensures.cols)) c.in-Ok.formula

pub returns-in-Ok-clause-content : goal.returns-in-Ok-clause-content
returns-in-Ok-clause-content c =
    let told = answered c.args.entry.now c.parse.result c.parse.ensures.tree c.parse.ensures.formula c.parse.ensures.deep c.parse.ensures.place (reading c.args.entry.now) (reading-is c.args.entry.now) in
    entered_tree (placed_in c.args.sheet.now).rows (placed_in c.args.sheet.now).cols (reading c.args.entry.now) c.in-Ok.formula c.rename.new.formula (rw c.in-Ok.is at told) c.rename.ensures

pub returns-in-Err-At-clause-cause : goal.returns-in-Err-At-clause-cause
returns-in-Err-At-clause-cause c other =
    let told = answered c.args.entry.now c.parse.result c.parse.ensures.tree c.parse.ensures.formula c.parse.ensures.deep c.parse.ensures.place (reading c.args.entry.now) (reading-is c.args.entry.now) in
    entered_at (placed_in c.args.sheet.now).rows (placed_in c.args.sheet.now).cols (reading c.args.entry.now) c.in-Err-At.front (rw (c.in-Err-At.is, c.in-Err-At.field-0-is) at told)

pub returns-in-Err-Deep-clause-cause : goal.returns-in-Err-Deep-clause-cause
returns-in-Err-Deep-clause-cause c other =
    let told = answered c.args.entry.now c.parse.result c.parse.ensures.tree c.parse.ensures.formula c.parse.ensures.deep c.parse.ensures.place (reading c.args.entry.now) (reading-is c.args.entry.now) in
    entered_deep (placed_in c.args.sheet.now).rows (placed_in c.args.sheet.now).cols (reading c.args.entry.now) (rw (c.in-Err-Deep.is, c.in-Err-Deep.field-0-is) at told)
