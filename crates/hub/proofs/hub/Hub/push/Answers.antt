use Rattle.std.proofs.Common.{◌≡◌, ◌++◌, ◌∷◌, [], List, subst, sym, ◌∙◌, arith, refl}
use Rattle.std.specs.Prelude.{◌⊎◌}
use Rattle.sheet_ops.specs.declared.operation.Entry.{Entry}
use Rattle.sheet_ops.specs.declared.operation.Effect.{Effect}
use Rattle.sheet_ops.specs.Represents.{ServerState, ServerRepresents}
use Rattle.jup_server.specs.declared.SubmitErr.TheVariants as fault
use Rattle.jup_server.specs.Servers.{entry_of, IsRefused, IsAdmitted}
use Rattle.hub.specs.Hubs.{HubOf, IsHub}
use Rattle.hub.specs.Messages.{effects_of}
use Rattle.hub.proofs.Causes.{admitted, caused}
use Rattle.hub.proofs.Effects.{effects_more}
use Rattle.hub.proofs.hub.Hub.push.Goals as goal

pub invariant_of-self-in-Ok : goal.invariant_of-self-in-Ok
invariant_of-self-in-Ok c =
    let size = c.self.inside.server.size in
    let H = c.self.inside.history in
    let e = entry_of c.args.site.0 c.args.up.now in
    let represents = c.self.invariant.represents in
    let stays = c.in-Ok.ensures.stays in
    let entries : c.push.new.self ≡ H ++ e ∷ [] = c.in_ok-push.ensures.ok ∙ (λ i. H ++ record { site = c.args.site; seen = c.args.up.now.seen; intent = c.in_ok-intent.ensures i } ∷ []) in
    let kept = c.reserve.ensures.items ∙ c.self.invariant.effects_are in
    let effect = c.in-Ok.ensures.effect H represents in
    record {
      represents = subst (ServerRepresents c.submit.new.self) (sym entries) (c.in-Ok.ensures.represents H represents);
      effects_are = c.push_reserved.ensures.items ∙ ((λ i. kept i ++ effect i ∷ []) ∙ (sym (effects_more size H e) ∙ (λ i. effects_of (sym stays.0 i) (sym entries i))));
      few = omega (arith, stays.1, c.self.invariant.few);
    }

pub invariant_of-self-in-Err : goal.invariant_of-self-in-Err
invariant_of-self-in-Err c =
    let H = c.self.inside.history in
    let front = c.take_last.ensures H _ c.in_ok-push.ensures.ok in
    subst (λ (h : ServerState × (List Entry × List Effect)). IsHub h.0 h.1.0 h.1.1) (λ i. (sym c.in-Err.ensures.err i, (sym front i, sym c.reserve.ensures.items i))) c.self.invariant

pub returns-in-Ok-clause-cause : goal.returns-in-Ok-clause-cause
returns-in-Ok-clause-cause c =
    let H = c.self.inside.history in
    let s = c.self.inside.server in
    let e = entry_of c.args.site.0 c.args.up.now in
    subst (λ (h : HubOf). IsAdmitted h.size h.sites h.entries e) c.self.view_is
    (admitted s.size s.sites H e (λ x other refused. let is = (c.in-Ok.ensures.cause H c.self.invariant.represents x other).1 refused in absurd (cc)))

pub returns-in-Err-clause-cause : goal.returns-in-Err-clause-cause
returns-in-Err-clause-cause c =
    let H = c.self.inside.history in
    let s = c.self.inside.server in
    let e = entry_of c.args.site.0 c.args.up.now in
    subst (λ (h : HubOf). (c.in-Err.cause ≡ fault.Memory) ⊎ IsRefused h.size h.sites h.entries e c.in-Err.cause) c.self.view_is
    (caused s.size s.sites H e c.in-Err.cause (λ other. (c.in-Err.ensures.cause H c.self.invariant.represents c.in-Err.cause other).0 refl))

pub returns-in-Err-clause-err : goal.returns-in-Err-clause-err
returns-in-Err-clause-err c =
    let front = c.take_last.ensures c.self.inside.history _ c.in_ok-push.ensures.ok in
    (λ i. record { size = (c.in-Err.ensures.err i).size; sites = (c.in-Err.ensures.err i).sites; entries = front i; ended = c.self.inside.ended }) ∙ c.self.view_is
