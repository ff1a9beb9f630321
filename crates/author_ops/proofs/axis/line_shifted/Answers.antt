use Rattle.std.proofs.Common.{◌≡◌, Bool, false, None, sym, subst, arith}
use Rattle.sheet_grid.specs.Values.{placed_in}
use Rattle.author_ops.specs.Copies.{line_shifted}
use Rattle.author_ops.specs.Placed.{marks_on}
use Rattle.author_ops.proofs.Runs.{shifted_before, shifted_past}
use Rattle.author_ops.proofs.axis.line_shifted.Goals as goal
use Rattle.author_ops.proofs.axis.line_shifted.Goals.{then-moved-from-via-then-moved-from, then-moved-from-via-else-moved-from+then-moved-from-2}

pub returns-then-moved-from : goal.returns-then-moved-from
returns-then-moved-from c =
    let ms = marks_on (placed_in c.args.sheet.now) c.args.axis in
    let free : c.args.abs ≡ false = c.if-abs.false in
    subst (λ (b : Bool). None ≡ line_shifted ms c.args.shift.from c.args.shift.to b c.args.seen) (sym free)
    (elim c.then-moved-from.branch [
      | then-moved-from-via-then-moved-from w ↦ shifted_before ms c.args.shift.from c.args.shift.to c.args.seen (omega arith)
      | then-moved-from-via-else-moved-from+then-moved-from-2 w ↦ shifted_past ms c.args.shift.from c.args.shift.to c.args.seen (omega arith) (omega (arith, w.visible.ensures.value))
    ])
