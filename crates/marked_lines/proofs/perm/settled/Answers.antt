use Rattle.std.proofs.Common.{◌≡◌, ℕ, ◌∙◌, ap, rules, not, nat_eq}
use Rattle.std.proofs.lemmas.List.Sorted.{answers_always}
use Rattle.std.proofs.lemmas.Fn.{filter_same, dedup_same}
use Rattle.std.specs.List.{filter}
use Rattle.marked_lines.specs.Moves.{image, IsPerm}
use Rattle.marked_lines.proofs.Settling.{same_position, settles}
use Rattle.marked_lines.proofs.perm.settled.Goals as goal
use Rattle.marked_lines.proofs.perm.settled.Goals.{After-retain}

left_settled : (c : After-retain) → IsPerm c.retain.new.self.items × ((p : ℕ) → image c.retain.new.self.items p ≡ image c.args.pairs.items p)
left_settled c =
    let by_position = answers_always _ (λ a r. r ≡ a.0.now.0) _ (λ f a r q k. search rules) in
    let firsts = dedup_same _ same_position _ (λ x y b f' x' y' k. search rules) _ _ c.dedup_by_key.ensures.filtered in
    let moving = filter_same _ (λ m. not (nat_eq m.0 m.1)) _ (λ x b f' k. search rules) _ _ c.retain.ensures.filtered in
    settles c.args.pairs.items c.sort_by_key.new.self.items (c.in_ok-sort_by_key.ensures.stable (λ m. m.0) by_position) (c.in_ok-sort_by_key.ensures.sorted (λ m. m.0) by_position)
    c.requires.bijective c.retain.new.self.items (moving ∙ ap (filter (λ m. not (nat_eq m.0 m.1))) firsts)

pub invariant_of-result : goal.invariant_of-result
invariant_of-result c = (left_settled c).0

pub returns : goal.returns
returns c = left_settled c
