use Rattle.std.proofs.Common.{◌≡◌, ◌≤◌, ◌∙◌, ◌*◌, List, [], length, ap, sym, subst, arith, ℕ, ◌<◌}
use Rattle.std.specs.List.{AllByRecursion}
use Rattle.std.proofs.lemmas.List.{length-replicate, get_or_default}
use Rattle.ss_base.specs.declared.types.Size.{Size}
use Rattle.sheet_grid.specs.Values.{placed_in}
use Rattle.sheet_grid.specs.Cells.{visible_size}
use Rattle.sheet_graph.specs.declared.columns.FormulaCell.{FormulaCell}
use Rattle.sheet_graph.specs.declared.graph.Node.{Node}
use Rattle.sheet_graph.specs.Columns.{IsRising, number_in}
use Rattle.sheet_graph.specs.Filled.{HoldsRows}
use Rattle.sheet_graph.proofs.Building.{begun, all_done}
use Rattle.sheet_graph.proofs.Seats.{no_rising}
use Rattle.sheet_graph.proofs.Gathered.{rows_held}
use Rattle.sheet_graph.proofs.Within.{mentions_alike, listed_within}
use Rattle.sheet_graph.proofs.graph.graph_of.Goals as goal

pub loop-col-init : goal.loop-col-init
loop-col-init c =
    let columns = c.in_ok-empty_columns.field-0.items in
    let empty = c.in_ok-empty_columns.ensures in
    record {
      len = ap (λ (cs : List (List FormulaCell)). length cs) empty ∙ (length-replicate c.visible-seen.result.cols [] ∙ ap (λ (s : Size). s.cols) c.visible-seen.ensures.size);
      few = subst (λ (ns : List Node). length ns ≤ 16000 * 0) (sym c.new.ensures.items) (omega arith);
      rising = subst (λ (cs : List (List FormulaCell)). AllByRecursion IsRising cs) (sym empty) (no_rising c.visible-seen.result.cols);
      graph = begun (placed_in c.args.sheet.now) c.new.result.items columns c.visible-seen.result.cols c.new.ensures.items empty;
    }

pub pass_col-requires-clause-filled : goal.pass_col-requires-clause-filled
pass_col-requires-clause-filled c =
    let lists = c.in_ok-lists.lists.items in
    let inside : c.loop-col.col < length lists = let len = c.in_ok-lists.ensures.len in let more = c.loop-col-test.true in let seen = ap (λ (s : Size). s.cols) c.visible-seen.ensures.size in omega (arith, len, more, seen) in
    subst (λ (rows : List ℕ). HoldsRows (placed_in c.args.sheet.now) c.loop-col.col (visible_size (placed_in c.args.sheet.now)).rows rows)
    (sym (c.as_slice.ensures ∙ (c.index.ensures ∙ get_or_default lists c.loop-col.col c.index.result.now [] inside)))
    (rows_held (placed_in c.args.sheet.now) (visible_size (placed_in c.args.sheet.now)).rows c.loop-col.col lists c.in_ok-lists.ensures.lists inside)

pub returns-clause-graph : goal.returns-clause-graph
returns-clause-graph c =
    let seen : c.visible-seen.result.cols ≡ (visible_size (placed_in c.args.sheet.now)).cols = ap (λ (s : Size). s.cols) c.visible-seen.ensures.size in
    let past = c.loop-col-test.false in
    all_done (placed_in c.args.sheet.now) c.loop-col.col c.loop-col.graph.nodes.items (number_in c.loop-col.graph.columns.items) c.loop-col.invariant.graph (omega (arith, seen, past))

pub returns-clause-listed : goal.returns-clause-listed
returns-clause-listed c = mentions_alike c.loop-col.graph.columns.items c.loop-col.invariant.rising c.loop-col.graph.nodes.items

pub returns-clause-within : goal.returns-clause-within
returns-clause-within c =
    listed_within (placed_in c.args.sheet.now) c.loop-col.graph.nodes.items c.loop-col.graph.columns.items (returns-clause-graph c) c.loop-col.invariant.rising
