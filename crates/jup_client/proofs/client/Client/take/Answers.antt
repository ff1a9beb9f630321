use Rattle.std.proofs.Common.{◌≡◌, sym, ◌∙◌, subst, Err}
use Rattle.std.specs.Prelude.{◌↔◌}
use Rattle.std.proofs.lemmas.Result.{on_ok_weaker}
use Rattle.jup_client.specs.declared.Down.{Down}
use Rattle.jup_client.specs.Clients.{RefusesMessage, IsTaken}
use Rattle.jup_client.proofs.client.Client.take.Goals as goal

pub returns-in-Own-clause-cause : goal.returns-in-Own-clause-cause
returns-in-Own-clause-cause c x apart = subst (λ (d : Down). (c.take_own.result ≡ Err x) ↔ RefusesMessage c.args.self.now d x) (sym c.in-Own.is) (c.take_own.ensures.cause x apart)

pub returns-in-Own-clause-done : goal.returns-in-Own-clause-done
returns-in-Own-clause-done c = on_ok_weaker c.take_own.result (λ taken. subst (λ (d : Down). IsTaken c.args.self.now d c.take_own.new.self) (sym c.in-Own.is) taken) c.take_own.ensures.done

pub returns-in-Own-clause-represents : goal.returns-in-Own-clause-represents
returns-in-Own-clause-represents c sites H G few valid r more front sent = c.take_own.ensures.represents sites H G few valid r more front (sym c.in-Own.is ∙ sent)

pub returns-in-Other-clause-cause : goal.returns-in-Other-clause-cause
returns-in-Other-clause-cause c x apart = subst (λ (d : Down). (c.take_other.result ≡ Err x) ↔ RefusesMessage c.args.self.now d x) (sym c.in-Other.is) (c.take_other.ensures.cause x apart)

pub returns-in-Other-clause-done : goal.returns-in-Other-clause-done
returns-in-Other-clause-done c = on_ok_weaker c.take_other.result (λ taken. subst (λ (d : Down). IsTaken c.args.self.now d c.take_other.new.self) (sym c.in-Other.is) taken) c.take_other.ensures.done

pub returns-in-Other-clause-represents : goal.returns-in-Other-clause-represents
returns-in-Other-clause-represents c sites H G few valid r more front sent = c.take_other.ensures.represents sites H G few valid r more front (sym c.in-Other.is ∙ sent)
