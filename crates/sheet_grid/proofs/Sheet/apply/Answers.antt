use Rattle.std.proofs.Common.{◌∙◌, sym, subst}
use Rattle.ss_base.specs.declared.types.Size.{Size}
use Rattle.sheet_ops.specs.Fits.{EffectFits}
use Rattle.sheet_grid.specs.Values.{placed_in}
use Rattle.sheet_grid.proofs.PositionReads.{steps_after}
use Rattle.sheet_grid.proofs.NumberedPast.{placed_after, sized_after}
use Rattle.sheet_grid.proofs.Sheet.apply.Goals as goal

pub returns-clause-ok : goal.returns-clause-ok
returns-clause-ok c =
    placed_after c.change.result c.args.self.now c.change.new.self c.args.effect.now c.size-size.ensures.whole
    (subst (λ (s : Size). EffectFits s c.args.effect.now) (sym c.size-size.ensures.size ∙ c.size-size.ensures.numbered) c.requires.fits) c.change.ensures.ok c.change.ensures.ordered

pub returns-clause-step : goal.returns-clause-step
returns-clause-step c =
    steps_after c.change.result (placed_in c.args.self.now) c.args.effect.now (placed_in c.change.new.self) c.requires.fits c.size-size.ensures.inside
    (placed_after c.change.result c.args.self.now c.change.new.self c.args.effect.now c.size-size.ensures.whole
    (subst (λ (s : Size). EffectFits s c.args.effect.now) (sym c.size-size.ensures.size ∙ c.size-size.ensures.numbered) c.requires.fits) c.change.ensures.ok c.change.ensures.ordered)

pub returns-clause-sized : goal.returns-clause-sized
returns-clause-sized c =
    sized_after c.change.result (placed_in c.args.self.now) c.args.effect.now (placed_in c.change.new.self) c.requires.fits
    (placed_after c.change.result c.args.self.now c.change.new.self c.args.effect.now c.size-size.ensures.whole
    (subst (λ (s : Size). EffectFits s c.args.effect.now) (sym c.size-size.ensures.size ∙ c.size-size.ensures.numbered) c.requires.fits) c.change.ensures.ok c.change.ensures.ordered)
