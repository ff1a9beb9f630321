use Rattle.std.proofs.Common.{ap, sym, ◌∙◌}
use Rattle.sheet_ops.specs.declared.operation.Effect.TheVariants as effect
use Rattle.sheet_ops.specs.declared.operation.Intent.TheVariants as intent
use Rattle.sheet_ops.specs.Maps.{unmoved, past_insertion}
use Rattle.sheet_ops.specs.Transforms.{other_past}
use Rattle.pair_transform.proofs.Kept.{puts_left}
use Rattle.pair_transform.proofs.other.past_col_insertion.Goals as goal

pub returns-in_ok-puts-in-Write : goal.returns-in_ok-puts-in-Write
returns-in_ok-puts-in-Write c =
    ap effect.Write (c.in_ok-puts-in-Write.ensures ∙ puts_left unmoved (past_insertion c.args.at) c.in-Write.puts)
    ∙ ap (other_past c.args.size (intent.InsCol c.args.at)) (sym c.in-Write.is)
