use Rattle.std.proofs.Common.{sym, subst}
use Rattle.ss_base.specs.declared.types.Spot.{Spot}
use Rattle.ss_base.specs.declared.types.Span.{Span}
use Rattle.formula_tree.specs.Tree.{Tree}
use Rattle.formula_tree.specs.Erase.{tree_of}
use Rattle.formula_tree.specs.Remap.{IsMapped}
use Rattle.formula_tree.proofs.Mapped.{formula_mapped}
use Rattle.formula_tree.proofs.formulas.rename.Goals as goal

pub invariant_of-formula : goal.invariant_of-formula
invariant_of-formula g c =
    let map = g.M.Remap.images c.args.map.now in
    let mapped = subst (λ (t : Tree Spot Span). IsMapped map t) (sym c.formula.view_is) c.requires in
    rw c.remap_expr.ensures (formula_mapped map (tree_of c.formula.inside.expr) c.formula.invariant mapped)
