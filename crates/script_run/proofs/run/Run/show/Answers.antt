use Rattle.std.proofs.Common.{◌<◌, sym, ◌∙◌, ap, subst, length}
use Rattle.sheet_text.specs.Shown.{shown_placed}
use Rattle.sheet_text.specs.Texts.{sheet_text, head_text}
use Rattle.script_run.specs.World.{World}
use Rattle.script_run.specs.Transcript.{show_text}
use Rattle.script_run.proofs.Outcomes.{if_ok}
use Rattle.script_run.proofs.Edited.{shown_here}
use Rattle.script_run.proofs.run.Run.show.Goals as goal
use Rattle.script_run.proofs.run.Run.show.Goals.{After-index-client}

module _ (c : After-index-client) where
  place_here : c.args.place < length c.self.inside.seats.items
  place_here = subst (λ (w : World). c.args.place < length w.seats) (sym c.self.view_is) c.requires

pub returns : goal.returns
returns c =
    let at = (goal.at.returns c).After-index-client in
    let s = c.index-seat.result.now in
    let k = c.index-client.result.now in
    if_ok c.sheet_lines.result (λ t is.
    is ∙ ((λ i. sheet_text (c.in_ok-head.ensures i) (shown_placed (c.sheet-2.ensures i)))
    ∙ ((λ i. sheet_text (head_text s.name s.taken (c.pending.ensures i) (shown_placed (c.sheet.ensures i))) (shown_placed k.sheet))
    ∙ (shown_here _ _ _ c.self.invariant.run c.args.place (place_here at) s c.index-seat.ensures k c.index-client.ensures
    ∙ ap (λ (w : World). show_text w c.args.place) c.self.view_is)))) c.sheet_lines.ensures
