use Rattle.std.proofs.Common.{ap, ◌∙◌, arith, length, length-drop, length-take}
use Rattle.ss_base.proofs.search.Ahead.fill.Goals as goal

pub returns-then-self-clause-end : goal.returns-then-self-clause-end
returns-then-self-clause-end g c = λ none.
    absurd (let at_hand = simp (length-drop, length-take) at (ap length (c.self.view_is ∙ none)) in omega (arith, at_hand, c.self.invariant))
