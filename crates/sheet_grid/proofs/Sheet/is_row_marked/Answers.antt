use Rattle.std.proofs.Common.{◌≡◌, subst, arith, List, Bool, Some}
use Rattle.std.specs.Prelude.{slice_get}
use Rattle.sheet_grid.proofs.PositionReads.{row_places, row_marks}
use Rattle.sheet_grid.proofs.Sheet.is_row_marked.Goals as goal

pub is_marked-requires : goal.is_marked-requires
is_marked-requires c = let n = row_places c.self.inside.rows c.self.inside.cols c.self.inside.cells.items c.self.invariant c.args.self.now c.self.view_is in omega (arith, n, c.requires)

pub returns : goal.returns
returns c = subst (λ (ms : List Bool). slice_get ms c.args.p ≡ Some c.is_marked.result) (row_marks c.self.inside.rows c.self.inside.cols c.self.inside.cells.items c.self.invariant c.args.self.now c.self.view_is) c.is_marked.ensures
