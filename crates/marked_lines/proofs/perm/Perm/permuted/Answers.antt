use Rattle.std.proofs.Common.{◌<◌, ◌∙◌, length, get_or, arith, ap}
use Rattle.std.proofs.lemmas.List.{get_or_default, length-set, take_all}
use Rattle.marked_lines.specs.Moves.{IsPerm, MovesBelow, source}
use Rattle.marked_lines.proofs.Shifts.{images_below}
use Rattle.marked_lines.proofs.Permuting.{placed_more, permute_from_places}
use Rattle.marked_lines.proofs.perm.Perm.permuted.Goals as goal
use Rattle.marked_lines.proofs.perm.Perm.permuted.Goals.{After-deref-from-items}

perm : (g : _) (c : After-deref-from-items g) → IsPerm c.deref-from-items.result.now
perm g c = rw c.deref-from-items.ensures.value c.self.invariant

below : (g : _) (c : After-deref-from-items g) → MovesBelow (length c.args.list.now) c.deref-from-items.result.now
below g c = rw (c.deref-from-items.ensures.value, c.self.view_is) c.requires

pub index_mut-requires : goal.index_mut-requires
index_mut-requires g c =
    let d = (goal.at.index_mut-requires g c).After-deref-from-items in
    let moves = c.deref-from-items.result.now in
    let h = (images_below moves (perm g d) (length c.args.list.now) (below g d) c.loop-from.from-index (0, 0) c.loop-from-test.true).1 in
    omega (arith, h, c.loop-from.invariant.long, c.loop-from.after.ok.0)

pub loop-from-preserved : goal.loop-from-preserved
loop-from-preserved g c =
    let d = (goal.at.loop-from-preserved g c).After-deref-from-items in
    let moves = c.deref-from-items.result.now in
    let xs = c.args.list.now in
    let m = get_or moves c.loop-from.from-index (0, 0) in
    let from_below : m.0 < length xs = below g d c.loop-from.from-index (0, 0) c.loop-from-test.true in
    let to_below = (images_below moves (perm g d) (length xs) (below g d) c.loop-from.from-index (0, 0) c.loop-from-test.true).1 in
    record {
      long = rw length-set c.loop-from.invariant.long;
      placed = placed_more moves (perm g d) xs c.loop-from.after.items c.loop-from.from-index m c.index-list-from.result c.loop-from-test.true
          (get_or_default moves c.loop-from.from-index m (0, 0) c.loop-from-test.true)
          (omega (arith, to_below, c.loop-from.invariant.long))
          (λ e. c.index-list-from.is ∙ get_or_default xs m.0 c.index-list-from.result e from_below)
          c.loop-from.invariant.placed;
    }

pub returns : goal.returns
returns g c =
    let moves = c.deref-from-items.result.now in
    let whole = take_all c.loop-from.from-index moves (omega (arith, c.loop-from-test.false)) in
    rw (← c.self.view_is, ← c.deref-from-items.ensures.value) (permute_from_places moves c.args.list.now c.loop-from.after.items (rw (c.deref-from-items.ensures.value, c.self.view_is) c.requires) c.loop-from.invariant.long
    (λ j d. c.loop-from.invariant.placed j d ∙ ap (λ ms. get_or c.args.list.now (source ms j) d) whole))
