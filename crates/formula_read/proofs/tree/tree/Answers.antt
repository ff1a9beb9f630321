use Rattle.std.proofs.Common.{◌∙◌, subst, sym}
use Rattle.formula_tree.specs.WellFormed.{IsFormula}
use Rattle.formula_read.proofs.Answered.{answer_deep, answer_outside, answer_read, answer_formed}
use Rattle.formula_read.proofs.tree.tree.Goals as goal

pub new-requires : goal.new-requires
new-requires c =
    let (ls, l, e) = c.in_ok-tokens.ensures.tokens in
    let formed = answer_formed c.args.text.now ls l c.in-Ok.operand (c.in-Ok.ensures ls (l, c.as_slice.ensures ∙ e)) c.requires.formula c.requires.short c.into_expr.ensures.shallow in
    subst IsFormula (sym c.into_expr.ensures.tree) formed

pub returns-in-Ok : goal.returns-in-Ok
returns-in-Ok c t n stands =
    let (ls, l, e) = c.in_ok-tokens.ensures.tokens in
    answer_read c.args.text.now ls l c.in-Ok.operand (c.in-Ok.ensures ls (l, c.as_slice.ensures ∙ e)) c.into_expr.ensures.shallow c.new.result (c.new.ensures ∙ c.into_expr.ensures.tree) t n stands

pub returns-in-Err-Deep : goal.returns-in-Err-Deep
returns-in-Err-Deep c t n stands =
    let (ls, l, e) = c.in_ok-tokens.ensures.tokens in
    answer_deep c.args.text.now ls l (rw c.in-Err-Deep.field-0-is at (c.in-Err-Deep.ensures ls (l, c.as_slice.ensures ∙ e))) t n stands

pub unreachable-requires : goal.unreachable-requires
unreachable-requires c =
    let (ls, l, e) = c.in_ok-tokens.ensures.tokens in
    answer_outside c.args.text.now ls l (rw c.in-Err-Outside.field-0-is at (c.in-Err-Outside.ensures ls (l, c.as_slice.ensures ∙ e))) c.requires.formula
