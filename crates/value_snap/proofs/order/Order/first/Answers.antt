use Rattle.std.proofs.Common.{ap, ◌∙◌, arith, length}
use Rattle.std.proofs.lemmas.List.FromFn.{length-range_with_len}
use Rattle.value_snap.proofs.order.Order.first.Goals as goal

pub invariant_of-result : goal.invariant_of-result
invariant_of-result c =
    let many = ap (λ v. length v.items) c.in_ok-numbers.ensures.ok ∙ ap length c.in_ok-numbers_below.ensures ∙ length-range_with_len 0 c.args.count in
    omega (arith, many, c.requires.few)
