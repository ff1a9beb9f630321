use Rattle.std.proofs.Common.{List, ap, sym, ◌∙◌}
use Rattle.sheet_ops.specs.declared.content.Put.{Put}
use Rattle.sheet_ops.specs.declared.operation.Effect.TheVariants as effect
use Rattle.sheet_ops.specs.declared.operation.Intent.TheVariants as intent
use Rattle.sheet_ops.specs.Effects.{uncovered}
use Rattle.sheet_ops.specs.Transforms.{other_past}
use Rattle.pair_transform.proofs.Kept.{write_covered}
use Rattle.pair_transform.proofs.other.past_write.Goals as goal

pub returns-in_ok-uncovered-in-Write : goal.returns-in_ok-uncovered-in-Write
returns-in_ok-uncovered-in-Write c = λ size.
    ap effect.Write (c.in_ok-uncovered-in-Write.ensures ∙ ap (λ (ps : List Put). uncovered ps c.in-Write.puts) c.as_slice.ensures)
    ∙ (write_covered size c.args.own.now c.in-Write.puts ∙ ap (other_past size (intent.Write c.args.own.now)) (sym c.in-Write.is))
