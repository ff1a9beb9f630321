use Rattle.std.proofs.Common.{◌+◌, ◌-◌, ◌∙◌, ◌++◌, ◌∷◌, [], List, ℕ, ap, sym, length, take, drop}
use Rattle.formula_tree.specs.Tokens.{doubled}
use Rattle.formula_read.proofs.Values.{undoubled, undone_more, undone_all}
use Rattle.formula_read.proofs.leaves.unquoted.Goals as goal
use Rattle.formula_read.proofs.leaves.unquoted.Goals.{then-inner-at-eq34, else-inner-at-eq34}

pub loop-at-preserved : goal.loop-at-preserved
loop-at-preserved c =
    let inner = take (length c.args.quoted.now - 1 - 1) (drop 1 c.args.quoted.now) in
    let more = undone_more inner c.loop-at.text.items c.loop-at.at c.if-inner-at-eq34.at c.loop-at-test.true in
    let pushed = ap (λ (l : List ℕ). l ++ undoubled (drop (c.loop-at.at + c.if-inner-at-eq34.at) inner)) (sym c.in_ok-push.ensures.items) in
    elim c.if-inner-at-eq34.branch [
      | then-inner-at-eq34 w ↦ more (λ _. w.at-is) (λ other. absurd (other w.if-inner-at-eq34.true)) c.loop-at.invariant ∙ pushed
      | else-inner-at-eq34 w ↦ more (λ quote. absurd (w.if-inner-at-eq34.false quote)) (λ _. w.at-is) c.loop-at.invariant ∙ pushed
    ]

pub returns : goal.returns
returns c =
    undone_all c.args.quoted.now c.loop-at.text.items c.loop-at.at c.requires c.loop-at-test.false c.loop-at.invariant
    ∙ ap (λ (t : List ℕ). 34 ∷ doubled t ++ 34 ∷ []) (sym c.from_vec.ensures)
