use Rattle.std.proofs.Common.{◌≡◌, ◌+◌, ◌∙◌, arith, Ok}
use Rattle.generated_run.proofs.Sites.{edit_done, edit_counted, refusal_done}
use Rattle.generated_run.proofs.load.Load.edit.Goals as goal

pub returns-in-Ok-clause-run : goal.returns-in-Ok-clause-run
returns-in-Ok-clause-run c =
    let done = c.in-Ok.ensures.ok in
    done.2 ∙ edit_done c.args.self.now.run c.requires.sites c.args.place c.requires.place c.args.edit.now (Ok done.0) done.1

pub returns-in-Ok-clause-refused : goal.returns-in-Ok-clause-refused
returns-in-Ok-clause-refused c =
    let done = c.in-Ok.ensures.ok in
    let same : c.args.self.now.refused ≡ c.args.self.now.refused + 0 = omega arith in
    same ∙ edit_counted c.args.self.now.run c.requires.sites c.args.place c.requires.place c.args.edit.now (Ok done.0) c.args.self.now.refused done.1

pub returns-in-Err : goal.returns-in-Err
returns-in-Err c =
    let done = refusal_done c.args.self.now.run c.requires.sites c.count.result c.args.place c.requires.place c.args.edit.now c.in-Err.cause c.edit.new.self c.count.new.self.run
    c.args.self.now.refused c.count.new.self.refused c.in-Err.ensures.cause c.in-Err.ensures.err c.count.ensures.run c.count.ensures.cause c.count.ensures.refused in
    record { run = done.0; refused = done.1; few = c.count.ensures.few; generator = c.count.ensures.generator }
