use Rattle.marked_lines.proofs.Indexes.{place_from_index, index_from_place}
use Rattle.marked_lines.proofs.laws.visible_lines.Goals as goal

pub returns : goal.returns
returns c = λ marks p v. (place_from_index marks p v, index_from_place marks p v)
