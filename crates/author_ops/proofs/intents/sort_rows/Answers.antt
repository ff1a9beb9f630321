use Rattle.std.proofs.Common.{◌≡◌, ℕ, ◌<◌, ◌≤◌, Bool, true, false, cond, ap, sym, ◌∙◌, arith, Ok, Err}
use Rattle.std.specs.Prelude.{nat_lt, Result}
use Rattle.std.proofs.lemmas.Result.{IfOk-weaker, IfErr-weaker}
use Rattle.marked_lines.specs.Marks.{visible_count}
use Rattle.sheet_grid.specs.Values.{placed_in}
use Rattle.sheet_ops.specs.declared.operation.Intent.{Intent}
use Rattle.sheet_ops.specs.declared.edit.EditErr.{EditErr}
use Rattle.sheet_ops.specs.declared.edit.EditErr.TheVariants as fault
use Rattle.author_ops.proofs.Denoting.{column_outside, column_seen}
use Rattle.author_ops.proofs.intents.sort_rows.Goals as goal

pub returns-then-col-visible-clause-cause : goal.returns-then-col-visible-clause-cause
returns-then-col-visible-clause-cause c other =
    column_outside (placed_in c.args.sheet.now).rows (placed_in c.args.sheet.now).cols c.args.rows.0 c.args.rows.1 c.args.col c.args.keys.now c.args.down (let seen = c.visible.ensures.value in omega (arith, seen, c.if-col-visible.true))

pub returns-clause-intent : goal.returns-clause-intent
returns-clause-intent c =
    let seen = c.visible.ensures.value in
    let inside : c.args.col < visible_count (placed_in c.args.sheet.now).cols = omega (arith, seen, c.if-col-visible.false) in
    IfOk-weaker c.sort.result _ _ (λ op h. column_seen (placed_in c.args.sheet.now).rows (placed_in c.args.sheet.now).cols c.args.rows.0 c.args.rows.1 c.args.col c.args.keys.now c.args.down inside ∙ h) c.sort.ensures.intent

pub returns-clause-cause : goal.returns-clause-cause
returns-clause-cause c =
    let seen = c.visible.ensures.value in
    let inside : c.args.col < visible_count (placed_in c.args.sheet.now).cols = omega (arith, seen, c.if-col-visible.false) in
    IfErr-weaker c.sort.result _ _ (λ x h other. column_seen (placed_in c.args.sheet.now).rows (placed_in c.args.sheet.now).cols c.args.rows.0 c.args.rows.1 c.args.col c.args.keys.now c.args.down inside ∙ h other) c.sort.ensures.cause
