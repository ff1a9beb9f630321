use Rattle.std.proofs.Common.{◌<◌, sym, ◌∙◌, ap, subst, length}
use Rattle.sheet_ops.specs.Placed.{placed}
use Rattle.script_run.specs.World.{World, site_view}
use Rattle.script_run.proofs.Looked.{replica_is}
use Rattle.script_run.proofs.run.Run.replica.Goals as goal

pub returns : goal.returns
returns c =
    let place = subst (λ (w : World). c.args.place < length w.seats) (sym c.self.view_is) c.requires in
    c.sheet.ensures ∙ (replica_is _ _ _ c.self.invariant.run c.args.place c.index-client.result.now place c.index-client.ensures
    ∙ ap (λ (w : World). placed (site_view w c.args.place)) c.self.view_is)
