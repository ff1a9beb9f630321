use Rattle.std.proofs.Common.{◌<◌, [], ◌∷◌, arith, All}
use Rattle.std.proofs.lemmas.List.Elements.{All-contains, All-from_recursion}
use Rattle.marked_lines.proofs.Canonical.{stay_below}
use Rattle.grid_tests.proofs.lines.five.Goals as goal

pub returns : goal.returns
returns c =
    let small : All (λ q. q < 5) (0 ∷ 1 ∷ 2 ∷ 3 ∷ 4 ∷ []) = All-from_recursion (λ q. q < 5) (0 ∷ 1 ∷ 2 ∷ 3 ∷ 4 ∷ []) (omega arith, (omega arith, (omega arith, (omega arith, (omega arith, tt))))) in
    stay_below c.in_ok-perm.perm c.in_ok-perm.ensures.bijective 5
    (λ p le. c.in_ok-perm.ensures.others p (λ at. let h = All-contains (λ q. q < 5) (0 ∷ 1 ∷ 2 ∷ 3 ∷ 4 ∷ []) p small at in omega (arith, h, le)))
