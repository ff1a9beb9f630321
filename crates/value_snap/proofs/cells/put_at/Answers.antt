use Rattle.std.proofs.Common.{ap, sym, ◌∙◌}
use Rattle.std.specs.Prelude.{Some, None}
use Rattle.sheet_value.specs.declared.value.Value.{Value}
use Rattle.sheet_value.specs.Snapshots.{with_cell}
use Rattle.sheet_value.specs.Tables.{filled}
use Rattle.value_snap.specs.Kept.{cells_of}
use Rattle.value_snap.proofs.CellValues.{put_is, filled-is}
use Rattle.value_snap.proofs.cells.put_at.Goals as goal

pub returns-in-Empty-clause-ok : goal.returns-in-Empty-clause-ok
returns-in-Empty-clause-ok c =
    put_is c.args.values.now c.remove.new.self c.args.at None c.remove.ensures.updates
    ∙ ap (λ (v : Value). with_cell (cells_of c.args.values.now) c.args.at (filled v)) (sym c.in-Empty.is)

pub returns-in_ok-insert-in_default : goal.returns-in_ok-insert-in_default
returns-in_ok-insert-in_default c = record {
  ok = put_is c.args.values.now c.insert.new.self c.args.at (Some c.args.value) c.in_ok-insert-in_default.ensures.updates
      ∙ ap (with_cell (cells_of c.args.values.now) c.args.at) (sym (filled-is c.args.value c.in_default.not-Empty));
  err = tt;
}
