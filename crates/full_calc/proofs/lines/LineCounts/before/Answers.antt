use Rattle.std.proofs.Common.{◌≡◌, List, Bool, ◌∙◌, ap, arith, min}
use Rattle.marked_lines.specs.Marks.{visible_before}
use Rattle.full_calc.proofs.Counted.{count_here, count_inside, count_few}
use Rattle.full_calc.proofs.lines.LineCounts.before.Goals as goal

pub index-requires : goal.index-requires
index-requires c =
    let inside = count_inside c.self.inside.marks.items c.self.inside.before.items c.args.p c.min.result c.self.invariant (c.min.ensures ∙ ap (min c.args.p) (c.len.ensures ∙ c.self.inside.marks.ok.0)) in
    let long = c.self.inside.before.ok.0 in
    omega (arith, inside, long)

pub returns-clause-count : goal.returns-clause-count
returns-clause-count c =
    c.index.ensures
    ∙ (count_here c.self.inside.marks.items c.self.inside.before.items c.args.p c.min.result c.index.result.now c.self.invariant (c.min.ensures ∙ ap (min c.args.p) (c.len.ensures ∙ c.self.inside.marks.ok.0))
    ∙ ap (λ (marks : List Bool). visible_before marks c.args.p) c.self.view_is)

pub returns-clause-few : goal.returns-clause-few
returns-clause-few c =
    let is : c.index.result.now ≡ visible_before c.self.inside.marks.items c.args.p =
    c.index.ensures ∙ count_here c.self.inside.marks.items c.self.inside.before.items c.args.p c.min.result c.index.result.now c.self.invariant (c.min.ensures ∙ ap (min c.args.p) (c.len.ensures ∙ c.self.inside.marks.ok.0)) in
    let few = count_few c.self.inside.marks.items c.args.p in
    omega (arith, is, few, c.self.invariant.few)
