use Rattle.std.proofs.Common.{◌≤◌, ◌<◌, length, refl, ap, arith, List, ℕ}
use Rattle.sheet_grid.proofs.InsertedNumbers.{numbered_inserted}
use Rattle.sheet_grid.proofs.numbered.add_line.Goals as goal

pub invariant_of-slots-2 : goal.invariant_of-slots-2
invariant_of-slots-2 c =
    let numbers = c.slots.inside.numbers.items in
    let view = ap (λ (ns : List ℕ). length ns) c.slots.view_is in
    let place : c.args.p ≤ length numbers = omega (arith, c.requires.place, view) in
    let room : length numbers < 16000 = omega (arith, c.requires.room, view) in
    rw (c.put_in.ensures.numbers, c.put_in.ensures.places, c.in_ok-reserve.ensures.items, c.in_ok-reserve-2.ensures.items)
    (numbered_inserted numbers c.slots.inside.places.items c.slots.invariant c.args.p (length numbers) place room refl)

pub invariant_of-recs-2 : goal.invariant_of-recs-2
invariant_of-recs-2 c =
    let numbers = c.recs.inside.numbers.items in
    let view = ap (λ (ns : List ℕ). length ns) c.recs.view_is in
    let place : c.args.p ≤ length numbers = omega (arith, c.requires.place, c.requires.recs, view) in
    let room : length numbers < 16000 = omega (arith, c.requires.room, c.requires.recs, view) in
    rw (c.put_in-2.ensures.numbers, c.put_in-2.ensures.places, c.in_ok-reserve-3.ensures.items, c.in_ok-reserve-4.ensures.items)
    (numbered_inserted numbers c.recs.inside.places.items c.recs.invariant c.args.p (length numbers) place room refl)
