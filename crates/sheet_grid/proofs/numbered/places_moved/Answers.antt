use Rattle.std.proofs.Common.{◌≡◌, ◌<◌, ℕ, List, length, map, get_or, refl, ap, sym, ◌∙◌, arith}
use Rattle.std.proofs.lemmas.List.{get_or_default, get_or-map, length-map, length-set, same_lists, take_all}
use Rattle.marked_lines.specs.Moves.{image, MovesBelow}
use Rattle.sheet_grid.proofs.MovedPlaces.{place_more}
use Rattle.sheet_grid.proofs.numbered.places_moved.Goals as goal
use Rattle.sheet_grid.proofs.numbered.places_moved.Goals.{At-loop-from}

moves_below : (c : At-loop-from) → MovesBelow (length c.args.numbers.now) c.moves-from-items.result.now
moves_below c = rw c.moves-from-items.ensures.value c.requires.below

pub index_mut-requires : goal.index_mut-requires
index_mut-requires c =
    let from_below = moves_below (goal.at.index_mut-requires c).At-loop-from c.loop-from.from-index (0, 0) c.loop-from-test.true in
    let number = (c.requires.numbered.back (get_or c.moves-from-items.result.now c.loop-from.from-index (0, 0)).0 from_below).0 in
    omega (arith, number, c.requires.numbered.as_many, c.loop-from.invariant.long, c.loop-from.after.ok.0)

pub loop-from-preserved : goal.loop-from-preserved
loop-from-preserved c =
    let moves = c.moves-from-items.result.now in
    let m = get_or moves c.loop-from.from-index (0, 0) in
    let from_below = moves_below (goal.at.loop-from-preserved c).At-loop-from c.loop-from.from-index (0, 0) c.loop-from-test.true in
    record {
      long = length-set c.loop-from.after.items (get_or c.args.numbers.now m.0 0) m.1 ∙ c.loop-from.invariant.long;
      placed = place_more c.args.numbers.now c.args.places.now.items c.requires.numbered moves (rw c.moves-from-items.ensures.value c.moves-from-items.ensures.bijective) c.loop-from.after.items c.loop-from.from-index m (get_or c.args.numbers.now m.0 0)
          c.loop-from-test.true (get_or_default moves c.loop-from.from-index m (0, 0) c.loop-from-test.true) from_below refl c.loop-from.invariant.long c.loop-from.invariant.placed;
    }

pub returns : goal.returns
returns c =
    let moves = c.moves-from-items.result.now in
    let places = c.args.places.now.items in
    let after = c.loop-from.after.items in
    let whole = take_all c.loop-from.from-index moves (omega (arith, c.loop-from-test.false)) in
    let same : after ≡ map (image moves) places = same_lists after (map (image moves) places) (c.loop-from.invariant.long ∙ sym (length-map places (image moves))) (λ k d within.
    let inside : k < length places = omega (arith, within, c.loop-from.invariant.long) in
    get_or_default after k d 0 within ∙ (c.loop-from.invariant.placed k inside ∙ (ap (λ (ms : List (ℕ × ℕ)). image ms (get_or places k 0)) whole ∙ sym (get_or-map (image moves) places k 0 d inside)))) in
    same ∙ ap (λ (ms : List (ℕ × ℕ)). map (image ms) places) c.moves-from-items.ensures.value
