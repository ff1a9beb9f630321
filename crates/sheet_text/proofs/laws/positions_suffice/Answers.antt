use Rattle.sheet_text.proofs.Seen.{shown-placed}
use Rattle.sheet_text.proofs.laws.positions_suffice.Goals as goal

pub returns : goal.returns
returns c = shown-placed
