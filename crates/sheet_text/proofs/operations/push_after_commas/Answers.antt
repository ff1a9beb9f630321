use Rattle.std.proofs.Common.{ℕ, ◌+◌, ◌∷◌, refl, get_or}
use Rattle.std.specs.Prelude.{decimal}
use Rattle.formula_print.proofs.Calls.{both_appended}
use Rattle.sheet_text.proofs.Appended.{pieces_more}
use Rattle.sheet_text.proofs.operations.push_after_commas.Goals as goal

pub loop-place-preserved : goal.loop-place-preserved
loop-place-preserved c =
    both_appended c.args.out.now.items _ _ _ _ c.loop-place.out.items c.push.new.self.items c.push_position.new.out.items
    c.loop-place.invariant c.in_ok-push.ensures.items c.in_ok-push_position.ensures
    (pieces_more (λ (p : ℕ). 44 ∷ decimal (p + 1)) c.args.places.now c.loop-place.place-index 0 (get_or c.args.places.now c.loop-place.place-index 0) c.loop-place-test.true refl)
