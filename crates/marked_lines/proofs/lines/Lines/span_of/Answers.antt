use Rattle.std.proofs.Common.{◌≡◌, suc, arith, add-one, refl}
use Rattle.marked_lines.specs.Marks.{visible_before}
use Rattle.marked_lines.proofs.Positions.{hidden_between, between_hidden}
use Rattle.marked_lines.proofs.Indexes.{span_holds}
use Rattle.marked_lines.proofs.lines.Lines.span_of.Goals as goal

pub returns-then-before-through-clause-none : goal.returns-then-before-through-clause-none
returns-then-before-through-clause-none c =
    let through : c.visible_before-through.result ≡ visible_before c.args.self.now (suc c.args.last) = rw add-one at c.visible_before-through.ensures.value in (
      λ clash. absurd (cc),
      λ hidden. let same = between_hidden c.args.self.now c.args.first c.args.last c.requires.order hidden in absurd (omega (arith, same, through, c.visible_before-before.ensures.value, c.if-before-through.true)),
    )

pub returns-else-before-through-clause-none : goal.returns-else-before-through-clause-none
returns-else-before-through-clause-none c =
    let through : c.visible_before-through.result ≡ visible_before c.args.self.now (suc c.args.last) = rw add-one at c.visible_before-through.ensures.value in (
      λ none. hidden_between c.args.self.now c.args.first c.args.last c.requires.place (omega (arith, through, c.visible_before-before.ensures.value, c.if-before-through.false)),
      λ hidden. refl,
    )

pub returns-then-before-through-clause-between : goal.returns-then-before-through-clause-between
returns-then-before-through-clause-between c =
    let through : c.visible_before-through.result ≡ visible_before c.args.self.now (suc c.args.last) = rw add-one at c.visible_before-through.ensures.value in
    let before = c.visible_before-before.ensures.value in
    λ v p found. rw (before, through) (span_holds c.args.self.now c.args.first c.args.last v p found (omega (arith, before, through, c.if-before-through.true)))
