use Rattle.std.proofs.Common.{sym, ◌∙◌}
use Rattle.sheet_text.proofs.RowLines.{some_text, filled_line}
use Rattle.sheet_text.proofs.lines.push_cell.Goals as goal

pub returns : goal.returns
returns c =
    filled_line c.args.row c.args.col c.args.text.now c.args.out.now.items c.push_address.new.out.items c.push.new.self.items c.extend_from_slice.new.self.items c.push-2.new.self.items
    (some_text c.args.text.now (sym c.is_empty.ensures ∙ c.if-is_empty.false)) c.in_ok-push_address.ensures c.in_ok-push.ensures.items c.in_ok-extend_from_slice.ensures.items c.in_ok-push-2.ensures.items
