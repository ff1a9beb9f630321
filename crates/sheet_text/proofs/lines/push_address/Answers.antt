use Rattle.std.proofs.Common.{take, ◌∙◌}
use Rattle.sheet_text.proofs.RowLines.{address_put}
use Rattle.sheet_text.proofs.lines.push_address.Goals as goal

pub returns : goal.returns
returns c =
    address_put c.args.row c.args.col c.args.out.now.items c.extend_from_slice.new.self.items c.extend_from_slice-2.new.self.items (take c.letters_of-count.result c.letters_of-count.new.out) c.as_bytes.result.now
    c.letters_of-count.ensures.text c.in_ok-extend_from_slice.ensures.items (c.as_bytes.ensures.value ∙ c.in_ok-number.ensures.ok) c.in_ok-extend_from_slice-2.ensures.items
