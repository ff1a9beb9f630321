use Rattle.std.proofs.Common.{◌≡◌, sym, subst}
use Rattle.sheet_ops.specs.Represents.{ClientState, ClientRepresents}
use Rattle.jup_client.specs.declared.client.TakeErr.TheVariants as fault
use Rattle.live_session.proofs.Deliveries.{took_none, took_more, taken_small, take_next}
use Rattle.live_close.proofs.closing.take_all.Goals as goal

pub loop-down-init : goal.loop-down-init
loop-down-init c = record { took = took_none c.args.client.now; represents = λ H G next. next.represents }

pub loop-down-preserved : goal.loop-down-preserved
loop-down-preserved c =
    let old = c.args.client.now in
    let downs = c.args.downs.now in
    let client = c.loop-down.client in
    let i = c.loop-down.down-index in
    let was = c.loop-down.invariant in
    let h = c.loop-down-test.true in
    record {
      took = took_more old client c.take.new.self i c.down-item.result was.took c.in-Ok.ensures.done (taken_small old c.requires.0 c.requires.1 downs c.requires.2 client i was.took h);
      represents = λ H G next. take_next old H G downs next client i was.took h (λ K L. ClientRepresents c.take.new.self K L) c.down-item.result c.down-item.is (was.represents H G next) c.in-Ok.ensures.represents;
    }

pub untaken-requires : goal.untaken-requires
untaken-requires c =
    let H = c.requires.0 in
    let G = c.requires.1 in
    let was = c.loop-down.invariant in
    take_next c.args.client.now H G c.args.downs.now c.requires.2 c.loop-down.client c.loop-down.down-index was.took c.loop-down-test.true (λ K L. c.in-Err.err ≡ fault.Memory) c.down-item.result c.down-item.is (was.represents H G c.requires.2)
    c.in-Err.ensures.represents

pub returns-in-Err-clause-represents : goal.returns-in-Err-clause-represents
returns-in-Err-clause-represents c H G next = subst (λ (x : ClientState). ClientRepresents x H G) (sym c.in-Err.ensures.err) (c.loop-down.invariant.represents H G next)
