use Rattle.std.proofs.Math.ListN.{length-set}
use Rattle.std.proofs.Common.{rules, ◌≡◌, ◌<◌, ◌∙◌, ◌∷◌, List, map, refl, ap, sym, length, arith}
use Rattle.sheet_ops.specs.declared.content.Put.{Put}
use Rattle.sheet_grid.specs.Kept.{cell_kept}
use Rattle.sheet_grid.specs.Numbering.{put_numbered}
use Rattle.sheet_grid.specs.Rows.{puts_kept}
use Rattle.sheet_grid.proofs.StoredCells.{held-set_same, written_all, no_empty_added, key_there, all_back}
use Rattle.sheet_grid.proofs.write.+write_puts.Goals as goal

pub returns-in_err-old-clause-err : goal.returns-in_err-old-clause-err
returns-in_err-old-clause-err t c =
    let same = held-set_same c.args.cells.now c.in_ok-numbered.numbered.row c.index-cells-row.result c.store.new.row c.in_err-old.ensures.err in
    search rules

pub put_back-requires : goal.put_back-requires
put_back-requires t c =
    let inside : c.in_ok-numbered.numbered.row < length c.args.cells.now = omega (arith, c.in_ok-numbered.ensures.row, c.requires.many) in
    key_there c.args.cells.now c.in_ok-numbered.numbered c.in_ok-numbered.numbered.content c.index-cells-row.result c.store.new.row inside c.in_ok-old.ensures.ok c.write_puts-done.new.cells c.index-cells-row-in-Err.result c.store.new.row (omega (arith, length-set c.args.cells.now c.in_ok-numbered.numbered.row c.store.new.row, inside)) c.in-Err.ensures.err

pub returns-in-Ok-clause-ok : goal.returns-in-Ok-clause-ok
returns-in-Ok-clause-ok t c =
    let inside : c.in_ok-numbered.numbered.row < length c.args.cells.now = omega (arith, c.in_ok-numbered.ensures.row, c.requires.many) in
    let numbered = put_numbered c.args.rows.now c.args.cols.now in
    let split : c.args.puts.now ≡ c.in-Some.put.now ∷ c.in-Some.rest.now = c.in-Some.ensures.cases.0 in
    rw c.in-Ok.is
    (written_all c.args.cells.now c.in_ok-numbered.numbered c.in_ok-numbered.numbered.content c.index-cells-row.result c.store.new.row inside c.in_ok-old.ensures.ok c.write_puts-done.new.cells c.index-cells-row-in-Ok.result c.settle.new.row (omega (arith, length-set c.args.cells.now c.in_ok-numbered.numbered.row c.store.new.row, inside)) c.settle.ensures (map numbered c.in-Some.rest.now) refl c.in-Ok.ensures.ok
    ∙ (ap (λ (p : Put). puts_kept (cell_kept c.args.cells.now) (p ∷ map numbered c.in-Some.rest.now)) c.in_ok-numbered.ensures.value
    ∙ ap (λ (ps : List Put). puts_kept (cell_kept c.args.cells.now) (map numbered ps)) (sym split)))

pub returns-in-Ok-clause-empties : goal.returns-in-Ok-clause-empties
returns-in-Ok-clause-empties t c =
    let inside : c.in_ok-numbered.numbered.row < length c.args.cells.now = omega (arith, c.in_ok-numbered.ensures.row, c.requires.many) in
    rw c.in-Ok.is
    (no_empty_added c.args.cells.now c.in_ok-numbered.numbered c.in_ok-numbered.numbered.content c.index-cells-row.result c.store.new.row inside c.in_ok-old.ensures.ok c.write_puts-done.new.cells c.index-cells-row-in-Ok.result c.settle.new.row (omega (arith, length-set c.args.cells.now c.in_ok-numbered.numbered.row c.store.new.row, inside)) c.settle.ensures c.in-Ok.ensures.empties)

pub returns-in-Err-clause-err : goal.returns-in-Err-clause-err
returns-in-Err-clause-err t c =
    let inside : c.in_ok-numbered.numbered.row < length c.args.cells.now = omega (arith, c.in_ok-numbered.ensures.row, c.requires.many) in
    rw c.in-Err.is
    (all_back c.args.cells.now c.in_ok-numbered.numbered c.in_ok-numbered.numbered.content c.index-cells-row.result c.store.new.row inside c.in_ok-old.ensures.ok c.write_puts-done.new.cells c.index-cells-row-in-Err.result c.put_back.new.row (omega (arith, length-set c.args.cells.now c.in_ok-numbered.numbered.row c.store.new.row, inside)) c.in-Err.ensures.err c.in_ok-old.old c.in_ok-old.ensures.old c.put_back.ensures)
