use Rattle.std.proofs.Common.{◌≡◌, ◌≤◌, ◌<◌, ◌+◌, ◌-◌, ◌^◌, length, arith, ap, sym, refl, false, insert, ◌∙◌}
use Rattle.std.proofs.lemmas.List.Elements.{All-weaker}
use Rattle.std.proofs.lemmas.List.Edits.{length-insert}
use Rattle.marked_lines.specs.Marks.{visible_places, visible_before}
use Rattle.marked_lines.proofs.Positions.{visible_places-insert, places_from-high, length-places_from}
use Rattle.marked_lines.proofs.lines.Lines.insert.Goals as goal
use Rattle.marked_lines.specs.declared.lines.TheConstants.{MOST_LINES}

pub insert_place-requires-clause-within : goal.insert_place-requires-clause-within
insert_place-requires-clause-within c =
    let marks : c.reserve.new.self.items ≡ c.self.inside.marks.items = c.reserve.ensures.items in
    let within = rw marks at c.visible_before-v.ensures.within in
    let n = length-places_from 0 c.self.inside.marks.items in
    let h = ap length c.self.invariant.visible in
    omega (arith, within, n, h, c.self.inside.places.ok.0)

pub insert_place-requires-clause-fits : goal.insert_place-requires-clause-fits
insert_place-requires-clause-fits c =
    let marks = c.self.inside.marks.items in
    let short = c.self.invariant.short in
    rw c.self.invariant.visible (All-weaker (λ q. q < 0 + length marks) (λ q. q < 2 ^ 32 - 1) (λ q h. omega (arith, h, short)) (visible_places marks) (places_from-high 0 marks))

pub insert_place-requires-clause-place : goal.insert_place-requires-clause-place
insert_place-requires-clause-place c =
    let place : c.args.p ≤ length c.self.inside.marks.items = rw c.self.view_is c.requires.place in
    omega (arith, place, c.self.invariant.short)

pub invariant_of-self-2 : goal.invariant_of-self-2
invariant_of-self-2 c = record { short = rw c.reserve.ensures.items c.self.invariant.short; visible = rw c.reserve.ensures.items c.self.invariant.visible }

pub invariant_of-self-3 : goal.invariant_of-self-3
invariant_of-self-3 c =
    let marks = c.self.inside.marks.items in
    let made : c.insert.new.self.items ≡ insert marks c.args.p false = c.in-Ok.ensures.items ∙ rw c.reserve.ensures.items refl in
    let place : c.args.p ≤ length marks = rw c.self.view_is c.requires.place in
    let room : length marks < MOST_LINES = rw c.self.view_is c.requires.room in
    let index : c.visible_before-v.result ≡ visible_before marks c.args.p = rw c.reserve.ensures.items at c.visible_before-v.ensures.value in
    record {
      short = let n = length-insert marks c.args.p false place in rw made (omega (arith, n, room));
      visible = c.in_ok-insert_place.ensures.ok ∙ rw (c.self.invariant.visible, index, made) (sym (visible_places-insert marks c.args.p place));
    }
