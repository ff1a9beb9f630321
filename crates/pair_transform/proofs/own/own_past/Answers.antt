use Rattle.std.proofs.Common.{◌≡◌, ◌∙◌}
use Rattle.std.proofs.lemmas.Result.{IfOk-weaker}
use Rattle.sheet_ops.specs.declared.operation.Intent.{Intent}
use Rattle.sheet_ops.specs.Transforms.{own_past}
use Rattle.pair_transform.proofs.Kept.{own_left}
use Rattle.pair_transform.proofs.own.own_past.Goals as goal

pub returns-in-Write : goal.returns-in-Write
returns-in-Write c =
    let own = c.args.own.now in
    let other = c.args.other.now in
    IfOk-weaker c.copy.result (λ (i : Intent). i ≡ own) (λ (i : Intent). i ≡ own_past own other) (λ i e. e ∙ own_left own other c.in-Write.is) c.copy.ensures
