use Rattle.std.proofs.Common.{◌≡◌, ◌∙◌}
use Rattle.std.proofs.lemmas.Result.{IfOk-weaker}
use Rattle.sheet_ops.specs.declared.operation.Effect.{Effect}
use Rattle.sheet_ops.specs.Transforms.{other_past}
use Rattle.pair_transform.proofs.Kept.{deletion_leaves}
use Rattle.pair_transform.proofs.other.other_past.Goals as goal

pub returns-in-DelRow : goal.returns-in-DelRow
returns-in-DelRow c =
    let own = c.args.own.now in
    let other = c.args.other.now in
    IfOk-weaker c.copy.result (λ (e : Effect). e ≡ other) (λ (e : Effect). e ≡ other_past c.args.size own other) (λ e is. is ∙ deletion_leaves c.args.size own other c.in-DelRow.is) c.copy.ensures
