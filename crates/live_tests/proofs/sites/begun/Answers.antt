use Rattle.std.proofs.Common.{◌∙◌, arith}
use Rattle.live_tests.proofs.sites.begun.Goals as goal

pub new-requires-clause-opening : goal.new-requires-clause-opening
new-requires-clause-opening g c = (1, (λ i. (c.requires.passes.1 i).opening) ∙ c.requires.passes.2, omega arith)
