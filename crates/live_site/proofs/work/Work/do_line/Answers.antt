use Rattle.std.proofs.Common.{sym, subst}
use Rattle.std.specs.Prelude.{OnOk}
use Rattle.live_script.specs.declared.script.Action.{Action}
use Rattle.live_site.specs.Lines.{DidLine}
use Rattle.live_site.proofs.work.Work.do_line.Goals as goal

pub returns-in-Edit-clause-did : goal.returns-in-Edit-clause-did
returns-in-Edit-clause-did g c =
    subst (λ (a : Action). OnOk c.edit.result (DidLine c.args.name.now (record { number = c.args.line.now.number; action = a }) c.args.self.now c.edit.new.self)) (sym c.in-Edit.is) (c.edit.ensures.did c.args.name.now)

pub returns-in-Push-clause-did : goal.returns-in-Push-clause-did
returns-in-Push-clause-did g c =
    subst (λ (a : Action). OnOk c.push.result (DidLine c.args.name.now (record { number = c.args.line.now.number; action = a }) c.args.self.now c.push.new.self)) (sym c.in-Push.is) (c.push.ensures.did c.args.name.now)

pub returns-in-Pull-clause-did : goal.returns-in-Pull-clause-did
returns-in-Pull-clause-did g c =
    subst (λ (a : Action). OnOk c.pull.result (DidLine c.args.name.now (record { number = c.args.line.now.number; action = a }) c.args.self.now c.pull.new.self)) (sym c.in-Pull.is) (c.pull.ensures.did c.args.name.now)

pub returns-in-Sync-clause-did : goal.returns-in-Sync-clause-did
returns-in-Sync-clause-did g c =
    subst (λ (a : Action). OnOk c.sync.result (DidLine c.args.name.now (record { number = c.args.line.now.number; action = a }) c.args.self.now c.sync.new.self)) (sym c.in-Sync.is) (c.sync.ensures.did c.args.name.now)

pub returns-in-Read-clause-did : goal.returns-in-Read-clause-did
returns-in-Read-clause-did g c =
    subst (λ (a : Action). OnOk c.read.result (DidLine c.args.name.now (record { number = c.args.line.now.number; action = a }) c.args.self.now c.read.new.self)) (sym c.in-Read.is) c.read.ensures.did
