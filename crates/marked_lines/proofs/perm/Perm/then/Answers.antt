use Rattle.std.proofs.Common.{◌≡◌, ℕ, ◌∙◌, ap, map, ◌++◌, refl}
use Rattle.std.proofs.lemmas.Result.{IfOk-weaker}
use Rattle.marked_lines.specs.Moves.{image, source}
use Rattle.marked_lines.proofs.Shifts.{image_composed}
use Rattle.marked_lines.proofs.perm.Perm.then.Goals as goal
use Rattle.marked_lines.proofs.perm.Perm.then.Goals.{After-extend_from_slice, In_ok-extend_from_slice}

sends : (c : In_ok-extend_from_slice) (p : ℕ) → image c.extend_from_slice.new.self.items p ≡ image c.next.inside.moves.items (image c.self.inside.moves.items p)
sends c p =
    let pairs : c.extend_from_slice.new.self.items ≡ map (λ m. (m.0, image c.next.inside.moves.items m.1)) c.self.inside.moves.items ++ c.next.inside.moves.items =
    c.in_ok-extend_from_slice.ensures.items ∙ rw (c.in_ok-pairs.ensures, c.deref.ensures.value, ← c.next.view_is) refl in
    ap (λ ps. image ps p) pairs ∙ image_composed c.self.inside.moves.items c.next.inside.moves.items p

pub settled-requires : goal.settled-requires
settled-requires c =
    let to = sends (goal.at.settled-requires c).In_ok-extend_from_slice in
    let first = c.self.invariant in
    let next = c.next.invariant in
    let undo = λ (p : ℕ). source c.self.inside.moves.items (source c.next.inside.moves.items p) in
    record {
      bijective = (
        undo,
        λ p. ap undo (to p) ∙ ap (source c.self.inside.moves.items) (next.back (image c.self.inside.moves.items p)) ∙ first.back p,
        λ q. to (undo q) ∙ ap (image c.next.inside.moves.items) (first.forth (source c.next.inside.moves.items q)) ∙ next.forth q,
      );
    }

pub returns-clause-composed : goal.returns-clause-composed
returns-clause-composed c =
    let to = sends (goal.at.returns-clause-composed c).In_ok-extend_from_slice in
    IfOk-weaker c.settled.result _ _ (λ r h p. h.1 p ∙ to p ∙ rw (c.self.view_is, c.next.view_is) refl) c.settled.ensures
