use Rattle.std.proofs.Common.{◌*◌, ◌^◌}
use native.Mathlib.Nat.{mod-add-mod}
use Rattle.generated_run.specs.Generator.{next}
use Rattle.generated_run.proofs.draws.Generator.draw.Goals as goal

pub returns-clause-number : goal.returns-clause-number
unfolding next
returns-clause-number c = mod-add-mod (c.args.self.now.number * 6364136223846793005) (2 ^ 64) 1442695040888963407
