use Rattle.std.proofs.Common.{◌≡◌, ◌<◌, false, length, get_or, arith, ap, sym, ◌∙◌}
use Rattle.std.proofs.lemmas.List.{get_or_default, length-set}
use Rattle.marked_lines.specs.Marks.{visible_before}
use Rattle.marked_lines.proofs.Positions.{visible_before-lt, places_from-mark, length-places_from}
use Rattle.marked_lines.proofs.lines.Lines.mark.Goals as goal
use Rattle.marked_lines.proofs.lines.Lines.mark.Goals.{After-visible_before-v}

within : (c : After-visible_before-v) → c.args.p < length c.self.inside.marks.items
within c = rw c.self.view_is c.requires

shown : (c : After-visible_before-v) → get_or c.self.inside.marks.items c.args.p false ≡ false
shown c = get_or_default c.self.inside.marks.items c.args.p false c.index.result.now (within c) ∙ sym c.index.ensures ∙ c.if-not-index.true

index : (c : After-visible_before-v) → c.visible_before-v.result ≡ visible_before c.self.inside.marks.items c.args.p
index c = rw c.self.view_is c.visible_before-v.ensures.value

pub remove-requires : goal.remove-requires
remove-requires c =
    let d = (goal.at.remove-requires c).After-visible_before-v in
    let lt = visible_before-lt c.self.inside.marks.items c.args.p (within d) (shown d) in
    let n = length-places_from 0 c.self.inside.marks.items in
    let h = ap length c.self.invariant.visible in
    omega (arith, lt, n, h, index d, c.self.inside.places.ok.0)

pub invariant_of-self : goal.invariant_of-self
invariant_of-self c =
    let d = (goal.at.invariant_of-self c).After-visible_before-v in
    let marks = c.self.inside.marks.items in
    record {
      short = rw length-set c.self.invariant.short;
      visible = c.remove.ensures.items ∙ rw (c.self.invariant.visible, index d) (sym (places_from-mark 0 marks c.args.p (within d) (shown d)));
    }
