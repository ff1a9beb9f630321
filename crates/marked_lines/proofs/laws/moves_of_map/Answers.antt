use Rattle.marked_lines.proofs.Canonical.{IsPerm-moves_of, image_moves_of}
use Rattle.marked_lines.proofs.laws.moves_of_map.Goals as goal

pub returns-clause-perm : goal.returns-clause-perm
returns-clause-perm c = λ f back positions undoes redoes up rest. (IsPerm-moves_of f back undoes redoes positions up rest).0

pub returns-clause-images : goal.returns-clause-images
returns-clause-images c = λ f positions rest p. image_moves_of f positions p (rest p)
