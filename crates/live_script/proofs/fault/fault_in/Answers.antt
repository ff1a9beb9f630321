use Rattle.live_script.specs.SoFar.{declared_by}
use Rattle.std.proofs.Common.{true}
use Rattle.live_script.proofs.Faults.{by_kind}
use Rattle.live_script.proofs.fault.fault_in.Goals as goal

pub returns-in-Edit : goal.returns-in-Edit
returns-in-Edit c = by_kind (declared_by true c.args.sites.now c.args.closed) c.args.command.now _ _ (c.site_missing.ensures c.args.closed) c.in-Edit.is
