use Rattle.generated_run.proofs.Sites.{push_follows, pull_follows}
use Rattle.generated_run.proofs.load.Load.deliver.Goals as goal

pub returns-in-0-clause-run : goal.returns-in-0-clause-run
returns-in-0-clause-run c = push_follows c.args.self.now.run c.requires.sites c.push.result c.args.place c.requires.place c.args.choice c.push.new.self c.in-0.is c.push.ensures.ok

pub returns-in-1-clause-run : goal.returns-in-1-clause-run
returns-in-1-clause-run c = pull_follows c.args.self.now.run c.requires.sites c.pull.result c.args.place c.requires.place c.args.choice c.pull.new.self c.in-1.is c.pull.ensures.ok
