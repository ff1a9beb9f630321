use Rattle.std.proofs.Common.{◌∙◌, sym, subst}
use Rattle.ss_base.specs.declared.types.Size.{Size}
use Rattle.sheet_ops.specs.Fits.{EffectFits}
use Rattle.sheet_ops.specs.declared.operation.Effect.TheVariants as effect
use Rattle.sheet_grid.specs.Values.{placed_in}
use Rattle.sheet_grid.proofs.PositionReads.{steps_after}
use Rattle.sheet_grid.proofs.NumberedPast.{placed_after, sized_after}
use Rattle.sheet_grid.proofs.Sheet.apply_write.Goals as goal

pub returns-clause-ok : goal.returns-clause-ok
returns-clause-ok c =
    placed_after c.write.result c.args.self.now c.write.new.self (effect.Write c.args.puts.now) c.size-size.ensures.whole
    (subst (λ (s : Size). EffectFits s (effect.Write c.args.puts.now)) (sym c.size-size.ensures.size ∙ c.size-size.ensures.numbered) c.requires) c.write.ensures.ok c.write.ensures.ordered

pub returns-clause-step : goal.returns-clause-step
returns-clause-step c =
    steps_after c.write.result (placed_in c.args.self.now) (effect.Write c.args.puts.now) (placed_in c.write.new.self) c.requires c.size-size.ensures.inside
    (placed_after c.write.result c.args.self.now c.write.new.self (effect.Write c.args.puts.now) c.size-size.ensures.whole
    (subst (λ (s : Size). EffectFits s (effect.Write c.args.puts.now)) (sym c.size-size.ensures.size ∙ c.size-size.ensures.numbered) c.requires) c.write.ensures.ok c.write.ensures.ordered)

pub returns-clause-sized : goal.returns-clause-sized
returns-clause-sized c =
    sized_after c.write.result (placed_in c.args.self.now) (effect.Write c.args.puts.now) (placed_in c.write.new.self) c.requires
    (placed_after c.write.result c.args.self.now c.write.new.self (effect.Write c.args.puts.now) c.size-size.ensures.whole
    (subst (λ (s : Size). EffectFits s (effect.Write c.args.puts.now)) (sym c.size-size.ensures.size ∙ c.size-size.ensures.numbered) c.requires) c.write.ensures.ok c.write.ensures.ordered)
