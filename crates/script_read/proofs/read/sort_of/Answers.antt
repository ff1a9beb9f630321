use Rattle.script_read.proofs.Cuts.{sort_of-more}
use Rattle.script_read.proofs.read.sort_of.Goals as goal

pub returns-in-Some-others : goal.returns-in-Some-others
returns-in-Some-others c = sort_of-more c.args.rest.now _ c.in-Some.rest.now _ c.in-Some-others.field-0.now _ _ (rw c.in-Some.is at c.cut.ensures) (rw c.in-Some-others.is at c.cut-2.ensures)
