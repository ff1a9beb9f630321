use Rattle.std.proofs.Common.{◌∙◌, ap}
use Rattle.std.specs.List.{list_any}
use Rattle.sheet_ops.specs.Fits.{writes_cell}
use Rattle.pair_transform.proofs.Kept.{write_leaves}
use Rattle.pair_transform.proofs.changes.leaves_puts.Goals as goal

pub returns-in-Write : goal.returns-in-Write
returns-in-Write c = λ yes size.
    write_leaves size c.args.own.now c.in-Write.puts c.args.other.now c.in-Write.is c.write_some.result (c.write_some.ensures ∙ ap (list_any (λ put. writes_cell c.args.own.now put)) c.as_slice.ensures) yes
