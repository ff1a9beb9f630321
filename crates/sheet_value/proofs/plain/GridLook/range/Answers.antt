use Rattle.std.proofs.Common.{◌∙◌, suc, min, ◌-◌, ap}
use Rattle.std.specs.Prelude.{Some}
use Rattle.ss_base.specs.declared.types.Size.{Size}
use Rattle.sheet_value.specs.Tables.{Table}
use Rattle.sheet_value.proofs.Between.{range_is}
use Rattle.sheet_value.proofs.plain.GridLook.range.Goals as goal

pub returns : goal.returns
returns c =
    let span = c.args.span.now in
    ap (λ (T : Table). Some T) c.new.ensures
    ∙ range_is c.args.self.now span _ _
    (c.count_between-rows.ensures ∙ ap (λ (s : Size). min (suc span.bottom) s.rows - span.top) c.size-size.ensures.size)
    (c.count_between-cols.ensures ∙ ap (λ (s : Size). min (suc span.right) s.cols - span.left) c.size-size.ensures.size)
    c.if-rows-eq0.false c.if-cols-eq0.false
