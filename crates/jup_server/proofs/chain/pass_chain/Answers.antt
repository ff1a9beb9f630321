use Rattle.std.proofs.Common.{◌≡◌, ◌<◌, List, [], ◌∷◌, ap, sym, ◌∙◌, subst, drop, length, refl, arith, Option, None}
use Rattle.std.specs.Prelude.{unwrap_or}
use Rattle.std.proofs.lemmas.List.{take_all, length-drop, get_or-drop}
use Rattle.ss_base.specs.declared.types.Size.{Size}
use Rattle.sheet_ops.specs.declared.operation.Intent.{Intent}
use Rattle.sheet_ops.specs.declared.operation.Effect.{Effect}
use Rattle.sheet_ops.specs.Chains.{PassesChain}
use Rattle.sheet_ops.specs.Fits.{IntentFits}
use Rattle.pair_transform.specs.Changes.{replaced}
use Rattle.pair_transform.proofs.Replaced.{or_else, replaced_behind}
use Rattle.jup_server.specs.Servers.{step_past}
use Rattle.jup_server.specs.Steps.{PassesStep}
use Rattle.jup_server.proofs.Along.{front_small, along_next, step_fits, passed_next}
use Rattle.jup_server.proofs.chain.pass_chain.Goals as goal

pub loop-i-init : goal.loop-i-init
loop-i-init c = rw (c.new-steps.ensures.items) (record { sized = refl; fits = c.requires.own; passed = (refl, refl); few = omega arith })

pub pass_step-requires-clause-rows : goal.pass_step-requires-clause-rows
pass_step-requires-clause-rows c = let h = front_small c.args.base (drop c.args.from c.args.chain.now.items) c.loop-i.i in omega (arith, h.0, c.requires.rows, ap (λ (z : Size). z.rows) c.loop-i.invariant.sized)

pub pass_step-requires-clause-cols : goal.pass_step-requires-clause-cols
pass_step-requires-clause-cols c = let h = front_small c.args.base (drop c.args.from c.args.chain.now.items) c.loop-i.i in omega (arith, h.1, c.requires.cols, ap (λ (z : Size). z.cols) c.loop-i.invariant.sized)

pub pass_step-requires-clause-own : goal.pass_step-requires-clause-own
pass_step-requires-clause-own c = subst (IntentFits c.loop-i.size) (sym c.changed_or-before.ensures) c.loop-i.invariant.fits

pub pass_step-requires-clause-step : goal.pass_step-requires-clause-step
pass_step-requires-clause-step c =
    let rest = drop c.args.from c.args.chain.now.items in
    let n = length-drop c.args.from c.args.chain.now.items in
    step_fits c.args.base rest c.loop-i.i c.index-step.result.now (omega (arith, n, c.loop-i-test.true, c.len.ensures, c.args.chain.now.ok, c.requires.within))
    (c.index-step.ensures ∙ sym (get_or-drop c.args.from c.args.chain.now.items c.loop-i.i c.index-step.result.now)) c.loop-i.size c.loop-i.invariant.sized c.requires.chain

pub step_past-size-requires-clause-rows : goal.step_past-size-requires-clause-rows
step_past-size-requires-clause-rows c = let h = front_small c.args.base (drop c.args.from c.args.chain.now.items) c.loop-i.i in omega (arith, h.0, c.requires.rows, ap (λ (z : Size). z.rows) c.loop-i.invariant.sized)

pub step_past-size-requires-clause-cols : goal.step_past-size-requires-clause-cols
step_past-size-requires-clause-cols c = let h = front_small c.args.base (drop c.args.from c.args.chain.now.items) c.loop-i.i in omega (arith, h.1, c.requires.cols, ap (λ (z : Size). z.cols) c.loop-i.invariant.sized)

pub loop-i-preserved : goal.loop-i-preserved
loop-i-preserved c =
    let rest = drop c.args.from c.args.chain.now.items in
    let n = length-drop c.args.from c.args.chain.now.items in
    let x = c.index-step.result.now in
    let below : c.loop-i.i < length rest = omega (arith, n, c.loop-i-test.true, c.len.ensures, c.args.chain.now.ok, c.requires.within) in
    let at = c.index-step.ensures ∙ sym (get_or-drop c.args.from c.args.chain.now.items c.loop-i.i x) in
    let inv = c.loop-i.invariant in
    let past = c.in_ok-own_change.ensures in
    let as_before = c.changed_or-before.ensures in
    let is_last : unwrap_or c.in_ok-own_change.own_change c.changed_or-before.result.now ≡ unwrap_or c.or-last.result c.args.own.now =
    ap (unwrap_or c.in_ok-own_change.own_change) as_before ∙ or_else c.in_ok-own_change.own_change c.loop-i.last c.args.own.now c.or-last.result c.or-last.ensures in
    let passes : PassesStep c.loop-i.size (unwrap_or c.loop-i.last c.args.own.now) x (unwrap_or c.in_ok-own_change.step_change x) (unwrap_or c.or-last.result c.args.own.now) =
    subst (λ (l : Intent). PassesStep c.loop-i.size (unwrap_or c.loop-i.last c.args.own.now) x (unwrap_or c.in_ok-own_change.step_change x) l) is_last
    (subst (λ (d : Intent). PassesStep c.loop-i.size d x (unwrap_or c.in_ok-own_change.step_change x) (unwrap_or c.in_ok-own_change.own_change c.changed_or-before.result.now)) as_before past.passes) in
    record {
      sized = c.step_past-size.ensures ∙ along_next c.args.base rest c.loop-i.i x below at c.loop-i.size inv.sized;
      fits = subst (λ (z : Size). IntentFits z (unwrap_or c.or-last.result c.args.own.now)) (sym c.step_past-size.ensures) (subst (IntentFits (step_past c.loop-i.size x)) is_last past.fits);
      passed = passed_next c.args.base rest c.loop-i.i x below at c.loop-i.size inv.sized c.args.own.now c.loop-i.steps.items (unwrap_or c.loop-i.last c.args.own.now) inv.passed
          c.in_ok-own_change.step_change (unwrap_or c.or-last.result c.args.own.now) passes c.note_change.new.changes.items c.in_ok-note_change.ensures.noted;
      few = c.in_ok-note_change.ensures.few;
    }

-- a step that the operation leaves and that leaves it
pub loop-i-preserved-then-leaves_step : goal.loop-i-preserved-then-leaves_step
loop-i-preserved-then-leaves_step c =
    let rest = drop c.args.from c.args.chain.now.items in
    let n = length-drop c.args.from c.args.chain.now.items in
    let x = c.index-step.result.now in
    let below : c.loop-i.i < length rest = omega (arith, n, c.loop-i-test.true, c.len.ensures, c.args.chain.now.ok, c.requires.within) in
    let at = c.index-step.ensures ∙ sym (get_or-drop c.args.from c.args.chain.now.items c.loop-i.i x) in
    let inv = c.loop-i.invariant in
    let size = c.loop-i.size in
    let mid = unwrap_or c.loop-i.last c.args.own.now in
    let as_before = c.changed_or-before.ensures in
    let same_size = c.if-leaves_step.ensures.size refl size in
    let step_fit = step_fits c.args.base rest c.loop-i.i x below at size inv.sized c.requires.chain in
    let passes : PassesStep size mid x x mid =
    subst (λ (d : Intent). PassesStep size d x x d) as_before (c.if-leaves_step.ensures.passes refl size (subst (IntentFits size) (sym as_before) inv.fits) step_fit) in
    record {
      sized = sym same_size ∙ along_next c.args.base rest c.loop-i.i x below at size inv.sized;
      fits = inv.fits;
      passed = passed_next c.args.base rest c.loop-i.i x below at size inv.sized c.args.own.now c.loop-i.steps.items mid inv.passed None mid passes c.loop-i.steps.items
          (λ ys y many. replaced_behind c.loop-i.steps.items ys (y ∷ []) (omega (arith, inv.few, many)));
      few = omega (arith, inv.few);
    }

pub returns-clause-passes : goal.returns-clause-passes
returns-clause-passes c =
    let rest = drop c.args.from c.args.chain.now.items in
    let n = length-drop c.args.from c.args.chain.now.items in
    let whole = take_all c.loop-i.i rest (omega (arith, n, c.loop-i-test.false, c.len.ensures, c.args.chain.now.ok)) in
    subst (λ (ps : List (Option Effect)). PassesChain c.args.base c.args.own.now ps (replaced c.loop-i.steps.items ps) (unwrap_or c.loop-i.last c.args.own.now)) whole c.loop-i.invariant.passed
