use Rattle.std.proofs.Common.{◌≡◌, ℕ, List, length, sym, ◌∙◌, ap, subst}
use Rattle.std.specs.List.{filter_map}
use Rattle.std.proofs.lemmas.List.{take_all}
use Rattle.marked_lines.specs.Marks.{visible_of, visible_places}
use Rattle.sheet_ops.proofs.Visible.{visible_below}
use Rattle.sheet_grid.specs.Values.{placed_in}
use Rattle.sheet_graph.specs.Graphs.{HoldsFilled}
use Rattle.sheet_graph.proofs.Filled.{seen_more, no_row_filled, row_filled}
use Rattle.sheet_graph.proofs.cells.filled_in_row.Goals as goal

pub filled-requires : goal.filled-requires
filled-requires c = visible_below (placed_in c.args.sheet.now).rows c.args.row c.in-Some.place (sym c.in-Some.ensures)

pub returns-in_default : goal.returns-in_default
returns-in_default c =
    let P = placed_in c.args.sheet.now in
    subst (λ (cs : List ℕ). HoldsFilled P c.args.row (length (visible_places P.cols)) cs) (sym c.new.ensures.items) (no_row_filled P c.args.row (length (visible_places P.cols)) (sym c.in_default.ensures))

pub loop-col-init : goal.loop-col-init
loop-col-init c = c.in_ok-seen.ensures.items

pub loop-col-preserved : goal.loop-col-preserved
loop-col-preserved c =
    seen_more (visible_of (placed_in c.args.sheet.now).cols) c.deref-col-items.result.now c.loop-col.seen.items c.push_seen.new.seen.items c.loop-col.col-index c.loop-col-test.true c.loop-col.invariant c.in_ok-push_seen.ensures

pub returns : goal.returns
returns c =
    let P = placed_in c.args.sheet.now in
    let all : c.loop-col.seen.items ≡ filter_map (visible_of P.cols) c.deref-col-items.result.now = c.loop-col.invariant ∙ ap (λ (ps : List ℕ). filter_map (visible_of P.cols) ps) (take_all c.loop-col.col-index c.deref-col-items.result.now c.loop-col-test.false) in
    let same = all ∙ ap (λ (ps : List ℕ). filter_map (visible_of P.cols) ps) (c.deref-col-items.ensures.value ∙ c.in_ok-places.ensures) in
    subst (λ (cs : List ℕ). HoldsFilled P c.args.row (length (visible_places P.cols)) cs) (sym same) (row_filled P c.args.row c.in-Some.place (sym c.in-Some.ensures))
