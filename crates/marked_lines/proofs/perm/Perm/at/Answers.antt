use Rattle.std.proofs.Common.{rules, ◌≡◌, ◌<◌, ℕ, length, get_or, arith}
use Rattle.std.proofs.lemmas.List.Sorted.{answers_always}
use Rattle.std.specs.Ordering.{nat_cmp}
use Rattle.std.specs.declared.cmp.Ordering.TheVariants.{Equal}
use Rattle.marked_lines.proofs.Images.{image_found, image_missing}
use Rattle.marked_lines.proofs.perm.Perm.at.Goals as goal

pub returns-in-Ok-clause-value : goal.returns-in-Ok-clause-value
returns-in-Ok-clause-value c =
    let equal = c.in-Ok.ensures.position (λ m. m.0) (answers_always _ (λ a r. r ≡ a.0.now.0) _ (λ f a r q k. search rules)) in
    let within : c.in-Ok.i < length c.self.inside.moves.items = grind arith in
    let here : (d : ℕ × ℕ) → nat_cmp (get_or c.self.inside.moves.items c.in-Ok.i d).0 c.args.p ≡ Equal = rw c.deref.ensures.value at equal in
    rw (← c.self.view_is) (image_found c.self.inside.moves.items c.args.p c.in-Ok.i c.self.invariant.ascending within here c.index.result.now c.index.ensures)

pub returns-in-Err-clause-value : goal.returns-in-Err-clause-value
returns-in-Err-clause-value c =
    let point = c.in-Err.ensures.position (λ m. m.0) (answers_always _ (λ a r. r ≡ a.0.now.0) _ (λ f a r q k. search rules)) in
    rw (← c.self.view_is) (image_missing c.self.inside.moves.items c.args.p c.in-Err.field-0 c.self.invariant.ascending (rw c.deref.ensures.value at point))
