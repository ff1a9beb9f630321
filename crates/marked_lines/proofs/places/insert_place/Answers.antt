use Rattle.std.proofs.Common.{◌≡◌, ◌≤◌, ◌<◌, ◌-◌, ◌^◌, ◌∷◌, ℕ, length, take, drop, arith, ap, ◌∙◌, insert}
use Rattle.std.proofs.lemmas.List.{take_at}
use Rattle.std.proofs.lemmas.List.Elements.{All-append, All-take, All-drop, All-cons}
use Rattle.std.proofs.lemmas.List.Edits.{length-insert}
use Rattle.marked_lines.specs.Marks.{raised}
use Rattle.marked_lines.proofs.Positions.{raise_inserted}
use Rattle.marked_lines.proofs.places.insert_place.Goals as goal
use Rattle.marked_lines.proofs.places.insert_place.Goals.{After-as_mut_slice}

holds : (c : After-as_mut_slice) → c.as_mut_slice.result.now ≡ insert c.args.places.now.items c.args.v c.args.p
holds c = c.as_mut_slice.ensures.value ∙ c.in_ok-insert.ensures.items

pub raise_from-requires-clause-within : goal.raise_from-requires-clause-within
raise_from-requires-clause-within c =
    let n = length-insert c.args.places.now.items c.args.v c.args.p (omega (arith, c.args.places.now.ok.0, c.requires.within)) in
    let h = ap length (holds c) in
    omega (arith, n, h, c.args.places.now.ok.0, c.requires.within)

pub raise_from-requires-clause-fits : goal.raise_from-requires-clause-fits
raise_from-requires-clause-fits c =
    let Small : ℕ → Type 0 = λ q. q < 2 ^ 32 - 1 in
    let old = c.args.places.now.items in
    let v = c.args.v in
    rw (holds c) (All-append Small (take v old) (c.args.p ∷ drop v old) (All-take Small v old c.requires.fits) (All-cons Small c.args.p (drop v old) c.requires.place (All-drop Small v old c.requires.fits)))

pub returns-clause-ok : goal.returns-clause-ok
returns-clause-ok c =
    let d = (goal.at.returns-clause-ok c).After-as_mut_slice in
    let within : c.args.v ≤ length c.args.places.now.items = omega (arith, c.args.places.now.ok.0, c.requires.within) in
    let made : c.raise_from.new.places ≡ raised c.args.places.now.items c.args.v c.args.p =
    c.raise_from.ensures ∙ rw (holds d) (raise_inserted c.args.places.now.items c.args.v c.args.p within) in
    let long : length c.raise_from.new.places ≡ c.insert.new.self.len =
    let a = ap length (holds d) in
    let b = c.raise_from.auto.places in
    let e = ap length c.in_ok-insert.ensures.items in
    omega (arith, a, b, e, c.insert.new.self.ok.0) in
    take_at c.raise_from.new.places (drop (length c.raise_from.new.places) c.insert.new.self.items) c.insert.new.self.len long ∙ made
