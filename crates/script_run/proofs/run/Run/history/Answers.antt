use Rattle.std.proofs.Common.{List, map, sym, ◌∙◌, ap, subst, All}
use Rattle.sheet_ops.specs.declared.operation.Entry.{Entry}
use Rattle.sheet_text.specs.Operations.{IntentWithin, history_text}
use Rattle.script_run.specs.declared.seat.Seat.{Seat}
use Rattle.script_run.specs.World.{World}
use Rattle.script_run.specs.Transcript.{site_names}
use Rattle.script_run.proofs.Outcomes.{if_ok}
use Rattle.script_run.proofs.Histories.{entries_short}
use Rattle.script_run.proofs.run.Run.history.Goals as goal

pub history_lines-requires : goal.history_lines-requires
history_lines-requires c = subst (λ (es : List Entry). All (λ e. IntentWithin 16000 e.intent) es) (sym c.as_slice-3.ensures.value) (entries_short _ _ _ _ _ c.self.invariant)

pub returns : goal.returns
returns c =
    let names = c.as_slice-2.ensures.value ∙ (c.in_ok-names.ensures ∙ ap (map (λ (s : Seat). s.name)) c.as_slice.ensures.value) in
    if_ok c.history_lines.result (λ t is.
    is ∙ ((λ i. history_text (names i) (c.as_slice-3.ensures.value i)) ∙ ap (λ (w : World). history_text (site_names w) w.history) c.self.view_is)) c.history_lines.ensures
