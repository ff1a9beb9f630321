use Rattle.std.proofs.Common.{List, sym, ◌∙◌, ap, subst, All}
use Rattle.sheet_ops.specs.declared.operation.Effect.{Effect}
use Rattle.sheet_text.specs.Operations.{EffectWithin, wire_text}
use Rattle.script_run.specs.World.{World}
use Rattle.script_run.specs.Transcript.{effects}
use Rattle.script_run.proofs.Outcomes.{if_ok}
use Rattle.script_run.proofs.Histories.{effects_short, effects_all}
use Rattle.script_run.proofs.run.Run.wire.Goals as goal

pub wire_lines-requires : goal.wire_lines-requires
wire_lines-requires c = subst (λ (es : List Effect). All (EffectWithin 16000) es) (sym c.as_slice.ensures.value) (effects_short _ _ _ _ _ c.self.invariant)

pub returns : goal.returns
returns c =
    if_ok c.wire_lines.result (λ t is.
    is ∙ (ap wire_text (c.as_slice.ensures.value ∙ effects_all _ _ _ _ _ c.self.invariant)
    ∙ ap (λ (w : World). wire_text (effects w.size w.history)) c.self.view_is)) c.wire_lines.ensures
