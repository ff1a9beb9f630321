use Rattle.std.proofs.Common.{◌++◌, [], ◌∷◌, ap, ◌∙◌}
use Rattle.sheet_grid.proofs.TidySheets.{Maps, empty_held}
use Rattle.sheet_grid.proofs.SheetValues.{row_inserted}
use Rattle.sheet_grid.proofs.Sheet.ins_row.Goals as goal

pub invariant_of-self-2 : goal.invariant_of-self-2
invariant_of-self-2 c =
    (row_inserted c.self.inside.rows c.self.inside.cols c.self.inside.cells.items c.self.invariant c.args.self.now c.self.view_is c.args.p c.requires.place c.requires.room _ _ c.new.result c.in_ok-add_line.ensures.ok (c.in-Ok.ensures.items ∙ ap (λ (ms : Maps). ms ++ c.new.result ∷ []) c.in_ok-reserve.ensures.items) (empty_held c.new.result c.new.ensures.empty)).0

pub returns-clause-ok : goal.returns-clause-ok
returns-clause-ok c =
    (row_inserted c.self.inside.rows c.self.inside.cols c.self.inside.cells.items c.self.invariant c.args.self.now c.self.view_is c.args.p c.requires.place c.requires.room _ _ c.new.result c.in_ok-add_line.ensures.ok (c.in-Ok.ensures.items ∙ ap (λ (ms : Maps). ms ++ c.new.result ∷ []) c.in_ok-reserve.ensures.items) (empty_held c.new.result c.new.ensures.empty)).1
