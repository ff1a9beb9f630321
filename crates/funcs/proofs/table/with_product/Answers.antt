use Rattle.std.proofs.Common.{◌≡◌, ℤ, ◌∙◌, Ok, ap, arith}
use Rattle.std.proofs.lemmas.Int.{ints}
use mir.Val.{to_z, of_z}
use mir.Syntax.{w64}
use Rattle.funcs.specs.Tallies.{with_number}
use Rattle.funcs.proofs.Walks.{product-one}
use Rattle.funcs.proofs.table.with_product.Goals as goal

pub returns-clause-numbers : goal.returns-clause-numbers
returns-clause-numbers c =
    let n : to_z w64 (of_z w64 c.in_ok-n.n) ≡ c.in_ok-n.n = omega (arith, ints) in
    let with = c.with.ensures ∙ ap (λ (m : ℤ). with_number c.args.found m) n in
    (λ i. Ok (with i)) ∙ product-one c.args.found c.in_ok-n.n _ c.in_ok-n.ensures
