use Rattle.std.proofs.Common.{ap, sym, ◌∙◌, subst}
use Rattle.sheet_ops.specs.declared.content.Content.{Content}
use Rattle.sheet_ops.specs.declared.content.Content.TheVariants as content
use Rattle.sheet_ops.specs.Fits.{ContentFits}
use Rattle.sheet_ops.specs.Maps.{content_moved}
use Rattle.pair_transform.specs.AxisMaps.{line_map}
use Rattle.pair_transform.proofs.Mapped.{formula_renamed}
use Rattle.pair_transform.proofs.sheet_map.SheetMap.content.Goals as goal

pub returns-in_ok-formula-in-Formula : goal.returns-in_ok-formula-in-Formula
returns-in_ok-formula-in-Formula c =
    let m = c.args.self.now in
    let fits = subst (λ (w : Content). ContentFits m.size w) c.in-Formula.is c.requires.fits in
    ap content.Formula (c.in_ok-formula-in-Formula.ensures.value ∙ formula_renamed m c.requires.map c.in-Formula.formula c.in_ok-formula-in-Formula.ensures.formula fits)
    ∙ sym (ap (content_moved (line_map m.rows) (line_map m.cols)) c.in-Formula.is)
