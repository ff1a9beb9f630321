use Rattle.std.proofs.Common.{◌≡◌}
use Rattle.std.proofs.lemmas.Result.{on_ok_weaker}
use Rattle.jup_client.specs.declared.Down.TheVariants as message
use Rattle.sheet_ops.specs.Represents.{ClientRepresents}
use Rattle.jup_client.specs.declared.client.TakeErr.TheVariants as fault
use Rattle.jup_client.proofs.Causes.{exact, memory_alone, either}
use Rattle.jup_client.proofs.Stays.{sent_admitted, own_taken}
use Rattle.jup_client.proofs.client.Client.take_own.Goals as goal

pub returns-clause-cause : goal.returns-clause-cause
returns-clause-cause c x apart = exact c.args.self.now c.drop_first.ensures.stood message.Own c.drop_first.result c.drop_first.ensures.cause x apart

pub returns-clause-represents : goal.returns-clause-represents
returns-clause-represents c sites H G few valid r more front sent =
    let ok = c.drop_first.ensures.stood in
    either (ClientRepresents c.drop_first.new.self H G) (λ x. x ≡ fault.Memory) c.drop_first.result
    (on_ok_weaker c.drop_first.result (λ taken. own_taken c.args.self.now ok sites H G few valid r more front c.drop_first.new.self taken sent) c.drop_first.ensures.done)
    (memory_alone c.args.self.now message.Own c.drop_first.result c.drop_first.ensures.cause (sent_admitted c.args.self.now ok sites H G few valid r more front message.Own sent))
