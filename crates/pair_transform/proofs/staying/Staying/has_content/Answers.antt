use Rattle.std.proofs.Common.{◌≡◌, ap, sym, ◌∙◌, subst}
use Rattle.sheet_ops.specs.declared.content.Content.{Content}
use Rattle.sheet_ops.specs.declared.content.Content.TheVariants as content
use Rattle.sheet_ops.specs.Maps.{content_moved}
use Rattle.pair_transform.specs.StayingLines.{lines_map}
use Rattle.pair_transform.specs.Staying.{tree_gone}
use Rattle.pair_transform.proofs.staying.Staying.has_content.Goals as goal

pub returns-in-Formula : goal.returns-in-Formula
returns-in-Formula c = λ yes.
    let staying = c.args.self.now in
    let stays : tree_gone staying c.in-Formula.formula ≡ c.in-Formula.formula =
    ap (tree_gone staying) (sym c.expr.ensures.tree) ∙ (c.tree_stays.ensures yes ∙ c.expr.ensures.tree) in
    subst (λ (w : Content). content_moved (lines_map staying.rows) (lines_map staying.cols) w ≡ w) (sym c.in-Formula.is) (ap content.Formula stays)
