use Rattle.sheet_grid.proofs.OpeningSheet.{numbered_first}
use Rattle.sheet_grid.proofs.numbered.Numbered.new.Goals as goal

pub invariant_of-result : goal.invariant_of-result
invariant_of-result c = rw (c.in_ok-numbers.ensures, c.in_ok-places.ensures) (numbered_first c.args.count c.requires)
