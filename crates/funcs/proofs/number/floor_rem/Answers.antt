use Rattle.std.proofs.Common.{◌≡◌, pos, ◌-ℤ◌, ◌*ℤ◌, neg_ℤ, false, arith, ◌∙◌}
use lib.Signed.{lt_z}
use mir.Syntax.{w64, w128}
use mir.Val.{to_z, of_z}
use Rattle.std.proofs.lemmas.Int.{ints, to_z-of_z}
use Rattle.std.specs.Int.{int_rem_euclid}
use Rattle.funcs.specs.Numbers.{floor_div}
use Rattle.funcs.proofs.Floors.{below}
use Rattle.funcs.proofs.number.floor_rem.Goals as goal

pub returns-else-b-gt0 : goal.returns-else-b-gt0
returns-else-b-gt0 c =
    let a : c.from-a.result ≡ c.args.a = c.from-a.ensures ∙ to_z-of_z w64 c.args.a c.ranges.a in
    let b : c.from-b.result ≡ c.args.b = c.from-b.ensures ∙ to_z-of_z w64 c.args.b c.ranges.b in
    let na : to_z w128 (of_z w128 (pos 0 -ℤ to_z w128 (of_z w128 c.from-a.result))) ≡ neg_ℤ c.args.a = omega (arith, ints) in
    let nb : to_z w128 (of_z w128 (pos 0 -ℤ to_z w128 (of_z w128 c.from-b.result))) ≡ neg_ℤ c.args.b = omega (arith, ints) in
    let negative : lt_z (pos 0) c.args.b ≡ false = grind (arith, ints) in
    let floored : neg_ℤ c.rem_euclid-else-b-gt0.result ≡ c.args.a -ℤ c.args.b *ℤ floor_div c.args.a c.args.b =
    below c.args.a c.args.b c.rem_euclid-else-b-gt0.result c.requires negative (c.rem_euclid-else-b-gt0.ensures.value ∙ (λ i. int_rem_euclid (na i) (nb i))) in
    omega (arith, ints)
