use Rattle.marked_lines.proofs.Canonical.{below_stay, stay_below}
use Rattle.marked_lines.proofs.Permuting.{image_inside}
use Rattle.marked_lines.proofs.laws.bounds.Goals as goal

pub returns-clause-stay : goal.returns-clause-stay
returns-clause-stay c = λ moves perm n. (below_stay moves n, stay_below moves perm n)

pub returns-clause-images : goal.returns-clause-images
returns-clause-images c = λ moves perm n below p within. image_inside moves perm n p below within
