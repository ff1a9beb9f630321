use Rattle.std.proofs.Common.{◌∙◌, refl, ap, length, map, arith, drop}
use Rattle.sheet_grid.specs.Numbering.{put_numbered}
use Rattle.sheet_grid.specs.Values.{numbered_sheet_of}
use Rattle.sheet_grid.proofs.TidySheets.{Maps, whole_front}
use Rattle.sheet_grid.proofs.SheetValues.{puts_fit, written}
use Rattle.sheet_grid.proofs.Sheet.write.Goals as goal

pub write_puts-requires-clause-fit : goal.write_puts-requires-clause-fit
write_puts-requires-clause-fit c = puts_fit c.self.inside.rows c.self.inside.cols c.self.inside.cells.items c.self.invariant c.args.self.now c.self.view_is c.args.puts.now c.requires

pub write_puts-requires-clause-many : goal.write_puts-requires-clause-many
write_puts-requires-clause-many c = rw c.as_mut_slice.ensures.value (omega (arith, c.self.invariant.as_many))

pub invariant_of-self : goal.invariant_of-self
invariant_of-self c =
    rw (whole_front c.write_puts.new.cells (drop (length c.write_puts.new.cells) c.self.inside.cells.items) c.self.inside.cells.len (omega arith))
    (written c.self.inside.rows c.self.inside.cols c.as_mut_slice.result.now (rw c.as_mut_slice.ensures.value c.self.invariant) c.args.self.now
    (ap (λ (maps : Maps). numbered_sheet_of c.self.inside.rows c.self.inside.cols maps) c.as_mut_slice.ensures.value ∙ c.self.view_is)
    c.write_puts.result c.write_puts.new.cells c.args.puts.now (map (put_numbered c.self.inside.rows c.self.inside.cols) c.args.puts.now) c.requires refl (omega arith)
    c.write_puts.ensures.ok c.write_puts.ensures.empties c.write_puts.ensures.err).0

pub returns-clause-ok : goal.returns-clause-ok
returns-clause-ok c =
    rw (whole_front c.write_puts.new.cells (drop (length c.write_puts.new.cells) c.self.inside.cells.items) c.self.inside.cells.len (omega arith))
    (written c.self.inside.rows c.self.inside.cols c.as_mut_slice.result.now (rw c.as_mut_slice.ensures.value c.self.invariant) c.args.self.now
    (ap (λ (maps : Maps). numbered_sheet_of c.self.inside.rows c.self.inside.cols maps) c.as_mut_slice.ensures.value ∙ c.self.view_is)
    c.write_puts.result c.write_puts.new.cells c.args.puts.now (map (put_numbered c.self.inside.rows c.self.inside.cols) c.args.puts.now) c.requires refl (omega arith)
    c.write_puts.ensures.ok c.write_puts.ensures.empties c.write_puts.ensures.err).1

pub returns-clause-err : goal.returns-clause-err
returns-clause-err c =
    rw (whole_front c.write_puts.new.cells (drop (length c.write_puts.new.cells) c.self.inside.cells.items) c.self.inside.cells.len (omega arith))
    (written c.self.inside.rows c.self.inside.cols c.as_mut_slice.result.now (rw c.as_mut_slice.ensures.value c.self.invariant) c.args.self.now
    (ap (λ (maps : Maps). numbered_sheet_of c.self.inside.rows c.self.inside.cols maps) c.as_mut_slice.ensures.value ∙ c.self.view_is)
    c.write_puts.result c.write_puts.new.cells c.args.puts.now (map (put_numbered c.self.inside.rows c.self.inside.cols) c.args.puts.now) c.requires refl (omega arith)
    c.write_puts.ensures.ok c.write_puts.ensures.empties c.write_puts.ensures.err).2
