use Rattle.std.proofs.Common.{◌≡◌, ℕ, List, Bool, None, Some, Option, sym, subst}
use Rattle.script_read.specs.Script.{fault_of}
use Rattle.script_run.specs.World.{World}
use Rattle.script_run.specs.States.{RunState, run_state_of, IsState, StepGives, run_opened}
use Rattle.script_run.proofs.Outcomes.{if_ok}
use Rattle.script_run.proofs.Turns.{may_step, opened_gives, stepped}
use Rattle.script_run.proofs.state.ScriptState.step.Goals as goal
use Rattle.script_run.proofs.state.ScriptState.step.Goals.{In-Some}

module _ (c : In-Some) where
  before : run_state_of (Some c.in-Some.run') c.self.inside.closed ≡ c.args.self.now
  before = subst (λ (o : Option World). run_state_of o c.self.inside.closed ≡ c.args.self.now) c.in-Some.is c.self.view_is

  accepted_here : fault_of (run_state_of (Some c.in-Some.run') c.self.inside.closed).declared c.args.command.now ≡ None
  accepted_here = subst (λ (t : RunState). fault_of t.declared c.args.command.now ≡ None) (sym before) c.requires.accepted

pub step-requires : goal.step-requires
step-requires c =
    may_step c.in-Some.run' c.self.inside.closed c.args.command.now (subst (λ (o : Option World). IsState o c.self.inside.closed) c.in-Some.is c.self.invariant) c.requires.within
    (accepted_here (goal.at.step-requires c).In-Some)

pub returns-in-Some : goal.returns-in-Some
returns-in-Some c =
    let at = (goal.at.returns-in-Some c).In-Some in
    if_ok c.step.result (λ t k.
    subst (λ (old : RunState). StepGives old (run_state_of (Some c.step.new.self) c.closed_after-self-inside.result) c.args.number c.args.command.now t) (before at)
    (subst (λ (b : Bool). StepGives (run_state_of (Some c.in-Some.run') c.self.inside.closed) (run_state_of (Some c.step.new.self) b) c.args.number c.args.command.now t) (sym c.closed_after-self-inside.ensures)
    (stepped c.in-Some.run' c.self.inside.closed c.args.number c.args.command.now c.step.new.self t (accepted_here at) k.0 k.1))) c.step.ensures.ok

pub returns-in_ok-self-inside-in-None : goal.returns-in_ok-self-inside-in-None
returns-in_ok-self-inside-in-None c =
    let closed = c.self.inside.closed in
    let number = c.args.number in
    let command = c.args.command.now in
    let unopened : run_state_of None closed ≡ c.args.self.now = subst (λ (o : Option World). run_state_of o closed ≡ c.args.self.now) c.in-None.is c.self.view_is in
    let free = subst (λ (t : RunState). fault_of t.declared command ≡ None) (sym unopened) c.requires.accepted in
    subst (λ (old : RunState). StepGives old (run_state_of c.in_ok-self-inside-in-None.field-0 closed) number command c.nothing.result) unopened
    (subst (λ (o : Option World). StepGives (run_state_of None closed) (run_state_of o closed) number command c.nothing.result) (sym c.in_ok-self-inside-in-None.ensures)
    (subst (λ (t : List ℕ). StepGives (run_state_of None closed) (run_state_of (run_opened command) closed) number command t) (sym c.nothing.ensures) (opened_gives closed number command free)))
