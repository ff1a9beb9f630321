use Rattle.std.proofs.Common.{ap, sym, ◌∙◌}
use Rattle.sheet_ops.specs.Lines.{sort_moves}
use Rattle.sheet_ops.specs.Maps.{unmoved, past_moves}
use Rattle.sheet_ops.specs.Transforms.{other_past}
use Rattle.sheet_ops.specs.declared.operation.Effect.TheVariants as effect
use Rattle.sheet_ops.specs.declared.operation.Intent.TheVariants as intent
use Rattle.pair_transform.proofs.Kept.{write_stays}
use Rattle.pair_transform.proofs.stays.past_sort.Goals as goal

pub returns-in-Write : goal.returns-in-Write
returns-in-Write c = λ yes size.
    let slots = c.args.slots.now in
    let recs = c.args.recs.now in
    ap (other_past size (intent.Sort slots recs)) c.in-Write.is
    ∙ (ap effect.Write (write_stays (past_moves (sort_moves slots recs)) unmoved c.in-Write.puts c.as_slice.result.now c.as_slice.ensures (c.has_puts.ensures yes)) ∙ sym c.in-Write.is)
