use Rattle.std.proofs.Common.{◌≡◌, ◌+◌, suc, ◌+ℤ◌, ap, ◌∙◌, Some, arith}
use Rattle.std.specs.Prelude.{◌&&◌, ◌||◌, not}
use Rattle.std.proofs.lemmas.Int.{ints, to_z-of_z}
use mir.Val.{to_z, of_z}
use mir.Syntax.{w64, w128}
use Rattle.funcs.specs.Numbers.{is_zero}
use Rattle.funcs.specs.Tallies.{least_with, greatest_with, with_number}
use Rattle.funcs.proofs.tally.Tally.add.Goals as goal

pub returns : goal.returns
returns c =
    let n = to_z-of_z w64 c.args.n c.ranges.n in
    let before = c.self.inside in
    let same = ap (λ s. s.count) c.self.view_is in
    let count : before.count + 1 ≡ suc before.count = omega arith in
    let total : to_z w128 (of_z w128 (to_z w128 (of_z w128 before.total) +ℤ to_z w128 (of_z w128 c.from.result))) ≡ before.total +ℤ c.args.n =
    omega (arith, ints, n, same, c.from.ensures, c.requires, c.self.invariant) in
    let kept : to_z w64 (of_z w64 c.least_with.result) ≡ c.least_with.result = omega (arith, ints) in
    let least = kept ∙ (c.least_with.ensures ∙ ap (λ m. least_with before.least m) n) in
    let held : to_z w64 (of_z w64 c.greatest_with.result) ≡ c.greatest_with.result = omega (arith, ints) in
    let greatest = held ∙ (c.greatest_with.ensures ∙ ap (λ m. greatest_with before.greatest m) n) in
    let all = c.all_with-self-inside.ensures ∙ ap (λ m. before.all_true && not (is_zero m)) n in
    let any = c.any_with-self-inside.ensures ∙ ap (λ m. before.any_true || not (is_zero m)) n in
    (λ i. record { count = count i; total = total i; least = Some (least i); greatest = Some (greatest i); all_true = all i; any_true = any i })
    ∙ ap (λ s. with_number s c.args.n) c.self.view_is
