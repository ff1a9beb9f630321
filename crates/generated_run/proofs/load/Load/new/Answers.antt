use Rattle.generated_run.proofs.Sites.{whole_run, whole_count}
use Rattle.generated_run.proofs.load.Load.new.Goals as goal

pub returns-clause-run : goal.returns-clause-run
returns-clause-run c = whole_run c.args.number c.in_ok-run.run' c.turns.new.self.run c.close.new.self.run c.in_ok-run.ensures c.in_ok-turns.ensures.run c.in_ok-close.ensures.run

pub returns-clause-refused : goal.returns-clause-refused
returns-clause-refused c = whole_count c.args.number c.in_ok-run.run' c.turns.new.self.refused c.close.new.self.refused c.in_ok-run.ensures c.in_ok-turns.ensures.refused c.in_ok-close.ensures.refused
