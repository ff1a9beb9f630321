use Rattle.std.proofs.Common.{ap, sym, ◌∙◌, subst, length}
use Rattle.sheet_ops.specs.declared.content.Content.{Content}
use Rattle.sheet_ops.specs.declared.content.Content.TheVariants as content
use Rattle.sheet_ops.specs.Fits.{ContentFits}
use Rattle.sheet_grid.specs.Kept.{content_numbered}
use Rattle.sheet_grid.specs.Numbering.{HasOrderedRanges}
use Rattle.sheet_grid.proofs.ToNumbers.{numbering_renames, ordered_formula}
use Rattle.sheet_grid.proofs.numbering.content_numbered.Goals as goal

pub returns-in_ok-formula_numbered-in-Formula-clause-value : goal.returns-in_ok-formula_numbered-in-Formula-clause-value
returns-in_ok-formula_numbered-in-Formula-clause-value c =
    let rows = c.args.rows.now in
    let cols = c.args.cols.now in
    let fits = subst (λ (w : Content). ContentFits (record { rows = length rows.slots; cols = length cols.slots }) w) c.in-Formula.is c.requires.fits in
    ap content.Formula (c.in_ok-formula_numbered-in-Formula.ensures.value ∙ numbering_renames rows cols c.requires.rows c.requires.cols c.in-Formula.formula fits)
    ∙ sym (ap (content_numbered rows cols) c.in-Formula.is)

pub returns-in_ok-formula_numbered-in-Formula-clause-ordered : goal.returns-in_ok-formula_numbered-in-Formula-clause-ordered
returns-in_ok-formula_numbered-in-Formula-clause-ordered c = subst HasOrderedRanges (sym c.in-Formula.is) (ordered_formula c.in-Formula.formula c.expr-ordered.ensures.formula)
