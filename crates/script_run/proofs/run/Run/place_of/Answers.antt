use Rattle.std.proofs.Common.{◌∙◌, ap}
use Rattle.script_run.specs.World.{World, place_in}
use Rattle.script_run.proofs.run.Run.place_of.Goals as goal

pub returns : goal.returns
returns c = c.get.ensures ∙ (c.self.invariant.names c.args.name.now ∙ ap (λ (w : World). place_in w.seats c.args.name.now) c.self.view_is)
