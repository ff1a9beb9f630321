use Rattle.std.proofs.Common.{◌∙◌, ap, sym, Some}
use Rattle.std.proofs.lemmas.Option.{slice_get-get_or}
use Rattle.sheet_graph.specs.Cursor.{areas_next, areas_found, areas_end}
use Rattle.sheet_graph.proofs.areas.next_in_areas.Goals as goal

pub returns-in-Some-next_in_area : goal.returns-in-Some-next_in_area
returns-in-Some-next_in_area c =
    let l = rw c.in-Some.is at c.get.ensures.lookup in
    let at = slice_get-get_or c.args.areas.now c.loop-area.place.reference c.in-Some.area.now l.3.0 ∙ ap Some (sym l.1) in (
      c.in-Some-next_in_area.ensures.0,
      c.loop-area.invariant ∙ areas_found c.args.columns.now c.args.areas.now c.in-Some.area.now c.loop-area.place.reference c.loop-area.place.col c.in-Some-next_in_area.run' _ at c.in-Some-next_in_area.ensures.1,
    )

pub loop-area-preserved : goal.loop-area-preserved
loop-area-preserved c =
    let l = rw c.in-Some.is at c.get.ensures.lookup in
    let at = slice_get-get_or c.args.areas.now c.loop-area.place.reference c.in-Some.area.now l.3.0 ∙ ap Some (sym l.1) in
    c.loop-area.invariant ∙ areas_next c.args.columns.now c.args.areas.now c.in-Some.area.now c.loop-area.place.reference c.loop-area.place.col at c.in_default-next_in_area.ensures

pub returns : goal.returns
returns c =
    let l = rw c.in_default.is at c.get.ensures.lookup in
    c.loop-area.invariant ∙ areas_end c.args.columns.now c.args.areas.now c.loop-area.place.reference c.loop-area.place.col l.3
