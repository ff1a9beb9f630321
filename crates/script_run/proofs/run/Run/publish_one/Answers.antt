use Rattle.std.proofs.Common.{◌<◌, sym, subst, length}
use Rattle.script_run.specs.World.{World}
use Rattle.script_run.proofs.Publishes.{may_fit, may_grow, short_here, advance_run}
use Rattle.script_run.proofs.run.Run.publish_one.Goals as goal
use Rattle.script_run.proofs.run.Run.publish_one.Goals.{After-index-effect}

module _ (c : After-index-effect) where
  more_here : c.self.inside.published.length < length c.self.inside.history.items
  more_here = subst (λ (w : World). w.published < length w.history) (sym c.self.view_is) c.requires

pub advance-requires-clause-fits : goal.advance-requires-clause-fits
advance-requires-clause-fits c = may_fit _ _ _ _ _ c.self.invariant (more_here (goal.at.advance-requires-clause-fits c).After-index-effect) c.index-effect.result.now c.index-effect.ensures

pub advance-requires-clause-room : goal.advance-requires-clause-room
advance-requires-clause-room c = may_grow _ _ _ _ _ c.self.invariant (more_here (goal.at.advance-requires-clause-room c).After-index-effect) c.index-effect.result.now c.index-effect.ensures

pub advance-requires-clause-few : goal.advance-requires-clause-few
advance-requires-clause-few c = short_here _ _ _ _ _ c.self.invariant (more_here (goal.at.advance-requires-clause-few c).After-index-effect) c.index-effect.result.now c.index-effect.ensures

pub invariant_of-self : goal.invariant_of-self
invariant_of-self c =
    advance_run _ _ _ _ _ c.self.invariant (more_here (goal.at.invariant_of-self c).After-index-effect) c.index-effect.result.now c.index-effect.ensures c.advance.result c.advance.new.self
    c.advance.ensures.length c.advance.ensures.step c.advance.ensures.values c.advance.ensures.err
