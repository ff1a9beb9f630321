use Rattle.std.proofs.Common.{◌≡◌, ◌<◌, ℕ, ◌+◌, ◌++◌, ◌∷◌, [], List, take, length, get_or, true, false, Bool, arith, ap, sym, ◌∙◌}
use Rattle.std.proofs.lemmas.List.{take_more, length-take-le, append-nil, get_or_default}
use Rattle.marked_lines.specs.Marks.{visible_places, places_from}
use Rattle.marked_lines.proofs.Positions.{places_from-push}
use Rattle.marked_lines.proofs.places.places_of.Goals as goal
use Rattle.marked_lines.proofs.places.places_of.Goals.{then-not-marked+in_ok-push, else-not-marked}

-- the places of one line more
more : (marks : List Bool) (p : ℕ) (m : Bool) → p < length marks → get_or marks p m ≡ m → visible_places (take (p + 1) marks) ≡ visible_places (take p marks) ++ places_from p (m ∷ [])
more marks p m within is =
    let n : 0 + length (take p marks) ≡ p = omega (arith, length-take-le p marks (omega arith)) in
    ap visible_places (take_more marks p m within) ∙ ap (λ (l : Bool). visible_places (take p marks ++ l ∷ [])) is ∙ places_from-push 0 (take p marks) m
    ∙ ap (λ (o : ℕ). visible_places (take p marks) ++ places_from o (m ∷ [])) n

pub loop-p-preserved : goal.loop-p-preserved
loop-p-preserved c =
    let marks = c.args.marks.now in
    let p = c.loop-p.p in
    elim c.if-not-marked.branch [
      | then-not-marked+in_ok-push w ↦ ap (λ v. v.items) w.places-is ∙ w.in_ok-push.ensures.items ∙ rw c.loop-p.invariant (sym (more marks p false c.loop-p-test.true w.if-not-marked.true))
      | else-not-marked w ↦ ap (λ v. v.items) w.places-is ∙ c.loop-p.invariant ∙ sym (append-nil (visible_places (take p marks))) ∙ sym (more marks p true c.loop-p-test.true (get_or_default marks p true false c.loop-p-test.true ∙ w.if-not-marked.false))
    ]
