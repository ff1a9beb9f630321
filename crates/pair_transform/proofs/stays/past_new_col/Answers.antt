use Rattle.std.proofs.Common.{ap, sym, ◌∙◌}
use Rattle.sheet_ops.specs.declared.operation.Effect.TheVariants as effect
use Rattle.sheet_ops.specs.declared.operation.Intent.TheVariants as intent
use Rattle.sheet_ops.specs.Maps.{unmoved, past_insertion}
use Rattle.sheet_ops.specs.Transforms.{other_past}
use Rattle.pair_transform.proofs.Kept.{write_stays}
use Rattle.pair_transform.proofs.stays.past_new_col.Goals as goal

pub returns-in-Write : goal.returns-in-Write
returns-in-Write c = λ yes size.
    ap (other_past size (intent.InsCol c.args.at)) c.in-Write.is
    ∙ (ap effect.Write (write_stays unmoved (past_insertion c.args.at) c.in-Write.puts c.as_slice.result.now c.as_slice.ensures (c.has_puts.ensures yes)) ∙ sym c.in-Write.is)
