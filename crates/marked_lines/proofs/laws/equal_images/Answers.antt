use Rattle.marked_lines.proofs.Canonical.{moves_same}
use Rattle.marked_lines.proofs.laws.equal_images.Goals as goal

pub returns : goal.returns
returns c = moves_same
