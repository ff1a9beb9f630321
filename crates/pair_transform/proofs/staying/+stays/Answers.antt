use Rattle.std.proofs.Common.{◌≡◌, map, List, sym, subst}
use Rattle.formula_tree.specs.declared.expression.Expr.{Expr}
use Rattle.formula_tree.specs.Erase.{tree_of}
use Rattle.pair_transform.specs.Staying.{cell_gone, range_gone, tree_gone}
use Rattle.pair_transform.proofs.InPlace.{call_stays}
use Rattle.pair_transform.proofs.staying.+stays.Goals as goal

pub tree_stays-returns-in-Call : goal.tree_stays-returns-in-Call
tree_stays-returns-in-Call t c = λ yes.
    let staying = c.args.staying.now in
    let args = subst (λ (es : List Expr). map (λ e. tree_gone staying (tree_of e)) es ≡ map tree_of es) c.as_slice.ensures (c.trees_stay.ensures yes) in
    subst (λ (e : Expr). tree_gone staying (tree_of e) ≡ tree_of e) (sym c.in-Call.is)
    (call_stays (cell_gone staying) (range_gone staying) c.in-Call.field-0 c.in-Call.args args)
