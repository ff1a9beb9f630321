use Rattle.std.proofs.Common.{◌≡◌, ℕ, [], ap, subst, arith}
use Rattle.ss_base.specs.declared.types.Size.{Size}
use Rattle.sheet_grid.specs.Values.{placed_in}
use Rattle.sheet_grid.specs.Cells.{visible_size}
use Rattle.sheet_graph.specs.Filled.{AreFilledTo}
use Rattle.sheet_graph.proofs.by_column.filled_rows.Goals as goal

pub returns-clause-lists : goal.returns-clause-lists
returns-clause-lists c =
    let seen : c.visible-seen.result.rows ≡ (visible_size (placed_in c.args.sheet.now)).rows = ap (λ (s : Size). s.rows) c.visible-seen.ensures.size in
    let past = c.loop-row-test.false in
    let end = c.loop-row.auto.row-end in
    subst (λ (r : ℕ). AreFilledTo (placed_in c.args.sheet.now) r [] c.loop-row.lists.items) (let e : c.loop-row.row ≡ (visible_size (placed_in c.args.sheet.now)).rows = omega (arith, seen, past, end) in e) c.loop-row.invariant.lists
