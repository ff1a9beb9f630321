use Rattle.std.proofs.Common.{◌≡◌, ℕ, ◌+◌, ◌≤◌, ◌<◌, ◌++◌, [], ap, sym, ◌∙◌, arith}
use Rattle.std.specs.Prelude.{length}
use Rattle.std.proofs.lemmas.List.{append-nil}
use Rattle.std.proofs.Math.ListN.{get_or-eq_default}
use Rattle.sheet_value.specs.declared.value.Value.TheVariants as value
use Rattle.sheet_value.specs.Tables.{kept_at}
use Rattle.recalc_loop.specs.Changes.{cell_changes}
use Rattle.recalc_loop.proofs.Ranges.{flat_map_range_more, flat_map_short}
use Rattle.recalc_loop.proofs.changes.add_column.Goals as goal

pub loop-row-init : goal.loop-row-init
loop-row-init c = sym (append-nil c.args.changes.now)

pub loop-row-preserved : goal.loop-row-preserved
loop-row-preserved c =
    let old = kept_at c.args.old.now in
    let new = kept_at c.args.new.now in
    let here = cell_changes c.loop-row.row c.args.col (old c.loop-row.row) (new c.loop-row.row) in
    c.in_ok-add_cell.ensures
    ∙ ap (λ l. l ++ here) c.loop-row.invariant
    ∙ flat_map_range_more (λ row. cell_changes row c.args.col (old row) (new row)) c.args.changes.now c.loop-row.row

pub returns : goal.returns
returns c =
    let old = c.args.old.now in
    let new = c.args.new.now in
    let none : (k : ℕ) → 0 + c.loop-row.row ≤ k → k < 0 + c.args.rows → cell_changes k c.args.col (kept_at old k) (kept_at new k) ≡ [] =
    (λ k low high.
    let height : length old ≤ k = omega (arith, low, high) in
    let height_too : length new ≤ k = omega (arith, low, high) in
    λ i. cell_changes k c.args.col (get_or-eq_default old value.Empty height i) (get_or-eq_default new value.Empty height_too i)) in
    c.loop-row.invariant
    ∙ ap (λ l. c.args.changes.now ++ l) (flat_map_short (λ row. cell_changes row c.args.col (kept_at old row) (kept_at new row)) 0 c.loop-row.row c.args.rows (omega arith) none)
