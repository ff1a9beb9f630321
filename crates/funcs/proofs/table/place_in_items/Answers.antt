use Rattle.std.proofs.Common.{◌∙◌, sym}
use Rattle.funcs.specs.Refs.{owned}
use Rattle.funcs.specs.Areas.{items, same}
use Rattle.funcs.proofs.Walks.{position-here, position-later}
use Rattle.funcs.proofs.table.place_in_items.Goals as goal

pub returns-then-is_same-clause-place : goal.returns-then-is_same-clause-place
returns-then-is_same-clause-place c =
    sym (c.loop-i.invariant
    ∙ position-here (items c.args.area.now) c.loop-i.i (owned c.item.result) c.item.ensures (λ v. same v (owned c.args.x)) c.loop-i.i (sym c.if-is_same.ensures))

pub loop-i-preserved : goal.loop-i-preserved
loop-i-preserved c =
    c.loop-i.invariant
    ∙ position-later (items c.args.area.now) c.loop-i.i (owned c.item.result) c.item.ensures (λ v. same v (owned c.args.x)) c.loop-i.i (sym c.if-is_same.ensures)
