use Rattle.std.proofs.Common.{rules, List, sym, subst}
use Rattle.std.specs.Prelude.{All}
use Rattle.formula_tree.specs.declared.expression.Expr.{Expr, the_lemmas}
use Rattle.formula_tree.specs.Erase.{tree_of}
use Rattle.formula_tree.specs.WellFormed.{IsWellFormed}
use Rattle.formula_print.proofs.Calls.{call_text, arguments_formed, parted_texts-more, both_appended}
use Rattle.formula_print.proofs.printer.+print.Goals as goal

pub push_arguments-loop-i-preserved : goal.push_arguments-loop-i-preserved
push_arguments-loop-i-preserved t c =
    both_appended c.args.out.now.items _ _ _ _ c.loop-i.out.items c.push_if.new.out.items c.push_tree.new.out.items
    c.loop-i.invariant c.in_ok-push_if.ensures c.in_ok-push_tree.ensures
    (parted_texts-more c.args.args.now c.loop-i.i c.index-args-i.result c.loop-i-test.true c.index-args-i.is)

pub push_tree-push_call-requires : goal.push_tree-push_call-requires
push_tree-push_call-requires t c =
    let formed = subst (λ (e : Expr). IsWellFormed (tree_of e)) c.in-Call.is c.requires in
    (search (rules, the_lemmas), subst (λ (es : List Expr). All (λ e. IsWellFormed (tree_of e)) es) (sym c.as_slice.ensures) (arguments_formed c.in-Call.fun c.in-Call.args formed))

pub push_tree-returns-in-Call : goal.push_tree-returns-in-Call
push_tree-returns-in-Call t c =
    let text = call_text c.in-Call.fun c.in-Call.args in
    rw (c.in-Call.is, text, ← c.as_slice.ensures, ← c.name.ensures) c.push_call.ensures
