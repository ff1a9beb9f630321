use Rattle.std.proofs.Common.{◌≡◌}
use Rattle.std.proofs.lemmas.Result.{on_ok_weaker}
use Rattle.jup_client.specs.declared.Down.TheVariants as message
use Rattle.sheet_ops.specs.Represents.{ClientRepresents}
use Rattle.jup_client.specs.declared.client.TakeErr.TheVariants as fault
use Rattle.jup_client.proofs.Causes.{exact, memory_alone, either}
use Rattle.jup_client.proofs.Stays.{sent_admitted, other_taken}
use Rattle.jup_client.proofs.client.Client.take_other.Goals as goal

pub returns-clause-cause : goal.returns-clause-cause
returns-clause-cause c x apart = exact c.args.self.now c.do_other.ensures.stood (message.Other c.args.effect.now) c.do_other.result c.do_other.ensures.cause x apart

pub returns-clause-done : goal.returns-clause-done
returns-clause-done c = on_ok_weaker c.do_other.result (λ taken. taken.0) c.do_other.ensures.done

pub returns-clause-represents : goal.returns-clause-represents
returns-clause-represents c sites H G few valid r more front sent =
    let ok = c.do_other.ensures.stood in
    let message = message.Other c.args.effect.now in
    either (ClientRepresents c.do_other.new.self H G) (λ x. x ≡ fault.Memory) c.do_other.result
    (on_ok_weaker c.do_other.result (λ taken. other_taken c.args.self.now ok sites H G few valid r more front c.args.effect.now c.do_other.new.self taken.0 taken.1 sent) c.do_other.ensures.done)
    (memory_alone c.args.self.now message c.do_other.result c.do_other.ensures.cause (sent_admitted c.args.self.now ok sites H G few valid r more front message sent))
