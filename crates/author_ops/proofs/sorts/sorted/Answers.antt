use Rattle.std.proofs.Common.{rules, ◌≡◌, ℕ, List, ap, ◌∙◌, subst, map}
use Rattle.std.specs.Prelude.{slice_index}
use Rattle.std.specs.List.Sorted.{IsPermutation}
use Rattle.std.specs.Ordering.{is_lt}
use Rattle.std.proofs.lemmas.Fn.{always_returns_same}
use Rattle.author_ops.specs.Orders.{row_order, row_at}
use Rattle.author_ops.proofs.Ordered.{order_is_sorted, index_weak}
use Rattle.author_ops.proofs.sorts.sorted.Goals as goal

pub returns : goal.returns
returns c =
    let slots = c.args.slots.now in
    let keys = c.args.keys.now in
    let order = c.sort_unstable_by.new.self.items in
    let perm = subst (λ (xs : List ℕ). IsPermutation xs order) c.in_ok-order.ensures c.sort_unstable_by.ensures.permutation in
    let sorted = c.sort_unstable_by.ensures.sorted (λ (i j : ℕ). is_lt (row_order c.args.down (row_at slots keys i) (row_at slots keys j))) (index_weak c.order_is_total.ensures.total c.args.down slots keys c.requires.many c.requires.ascending)
    (always_returns_same _ (λ a r. is_lt r ≡ is_lt (row_order c.args.down (row_at slots keys a.0.now) (row_at slots keys a.1.0.now))) _
    (λ a r q k. (let e : r ≡ row_order c.args.down (row_at slots keys a.0.now) (row_at slots keys a.1.0.now) = search rules in ap is_lt e, search rules))) in
    c.in_ok-places_at.ensures ∙ (ap (map (slice_index slots)) c.deref.ensures.value ∙ order_is_sorted c.order_is_total.ensures.total c.args.down slots keys c.requires.many c.requires.ascending order perm sorted)
