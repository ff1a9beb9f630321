use Rattle.marked_lines.specs.Moves.{image}
use Rattle.marked_lines.proofs.perm.Perm.inverse.Goals as goal

pub settled-requires : goal.settled-requires
settled-requires c = record {
  bijective = rw c.in_ok-pairs.ensures (image c.self.inside.moves.items, c.self.invariant.forth, c.self.invariant.back);
}
