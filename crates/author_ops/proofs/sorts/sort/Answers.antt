use Rattle.std.proofs.Common.{◌≡◌, ◌<◌, ◌≤◌, ◌+◌, ℕ, List, ap, sym, ◌∙◌, ◌-◌, subst, arith, length, take, drop, refl, AllPairs, Ok}
use Rattle.ss_base.specs.declared.types.Size.{Size}
use Rattle.marked_lines.specs.Marks.{visible_count, visible_places}
use Rattle.sheet_grid.specs.Values.{placed_in}
use Rattle.sheet_ops.specs.declared.operation.Intent.TheVariants as intent
use Rattle.sheet_ops.specs.Placed.{placed_size}
use Rattle.author_ops.specs.Copies.{line_count}
use Rattle.author_ops.specs.Orders.{places_sorted}
use Rattle.author_ops.proofs.Denoting.{count_seen}
use Rattle.author_ops.proofs.Ordered.{sort_outside, sort_long, sort_done, sort_by_fits}
use Rattle.author_ops.proofs.Shifted.{length_run, run_up}
use Rattle.author_ops.proofs.sorts.sort.Goals as goal

pub returns-then-last-visible-clause-cause : goal.returns-then-last-visible-clause-cause
returns-then-last-visible-clause-cause c other =
    let seen = ap (λ (s : Size). s.rows) c.visible.ensures.size ∙ count_seen (placed_in c.args.sheet.now).rows in
    sort_outside (placed_in c.args.sheet.now).rows c.args.first c.args.last c.args.keys.now c.args.down (omega (arith, seen, c.if-last-visible.true))

pub returns-then-count-gt-MOST_ROWS-clause-cause : goal.returns-then-count-gt-MOST_ROWS-clause-cause
returns-then-count-gt-MOST_ROWS-clause-cause c other =
    let seen = ap (λ (s : Size). s.rows) c.visible.ensures.size ∙ count_seen (placed_in c.args.sheet.now).rows in
    sort_long (placed_in c.args.sheet.now).rows c.args.first c.args.last c.args.keys.now c.args.down (c.args.last - c.args.first + 1) (omega (arith, seen, c.if-last-visible.false)) (omega (arith, c.requires.order)) (omega (arith, c.if-count-gt-MOST_ROWS.true))

pub slots_from-requires : goal.slots_from-requires
slots_from-requires c =
    let seen = ap (λ (s : Size). s.rows) c.visible.ensures.size ∙ count_seen (placed_in c.args.sheet.now).rows in
    omega (arith, seen, c.if-last-visible.false, c.requires.order)

pub sorted-requires-clause-many : goal.sorted-requires-clause-many
sorted-requires-clause-many c =
    let seen = ap (λ (s : Size). s.rows) c.visible.ensures.size ∙ count_seen (placed_in c.args.sheet.now).rows in
    let inside : c.args.last < visible_count (placed_in c.args.sheet.now).rows = omega (arith, seen, c.if-last-visible.false) in
    let count : c.args.last - c.args.first + 1 ≡ line_count c.args.first c.args.last = omega (arith, c.requires.order) in
    let long = length_run (placed_in c.args.sheet.now).rows c.args.first (c.args.last - c.args.first + 1) (omega (arith, inside, c.requires.order)) in
    c.requires.keys inside ∙ (sym count ∙ sym (ap (λ (xs : List ℕ). length xs) (c.deref.ensures.value ∙ c.in_ok-slots.ensures) ∙ long))

pub sorted-requires-clause-ascending : goal.sorted-requires-clause-ascending
sorted-requires-clause-ascending c =
    subst (λ (xs : List ℕ). AllPairs (λ p q. p < q) xs) (sym (c.deref.ensures.value ∙ c.in_ok-slots.ensures)) (run_up (placed_in c.args.sheet.now).rows c.args.first (c.args.last - c.args.first + 1))

pub returns-clause-intent : goal.returns-clause-intent
returns-clause-intent c =
    let rows = (placed_in c.args.sheet.now).rows in
    let seen = ap (λ (s : Size). s.rows) c.visible.ensures.size ∙ count_seen rows in
    let count : c.args.last - c.args.first + 1 ≡ line_count c.args.first c.args.last = omega (arith, c.requires.order) in
    let slots = c.in_ok-slots.ensures ∙ ap (λ (n : ℕ). take n (drop c.args.first (visible_places rows))) count in
    let recs = c.in_ok-recs.ensures ∙ ap (λ (xs : List ℕ). places_sorted c.args.down xs c.args.keys.now) (c.deref.ensures.value ∙ slots) in
    sort_done rows c.args.first c.args.last c.args.keys.now c.args.down (omega (arith, seen, c.if-last-visible.false)) (omega (arith, count, c.if-count-gt-MOST_ROWS.false))
    ∙ sym (λ i. Ok (intent.Sort ((c.from_vec.ensures ∙ slots) i) ((c.from_vec-2.ensures ∙ recs) i)))

pub returns-clause-fits : goal.returns-clause-fits
returns-clause-fits c =
    sort_by_fits c.order_is_total.ensures.total (placed_in c.args.sheet.now).rows c.args.first c.args.last c.args.keys.now c.args.down c.requires.order c.requires.keys (placed_size (placed_in c.args.sheet.now)) refl _ (returns-clause-intent c)
