use Rattle.std.proofs.Common.{ℕ, List, ◌≡◌, ◌+◌, ◌∷◌, ◌++◌, ap, sym, ◌∙◌, subst, append_assoc}
use Rattle.std.specs.Prelude.{OnOk, decimal}
use Rattle.std.specs.List.{flat_map}
use Rattle.sheet_text.specs.Operations.{positions_text}
use Rattle.sheet_text.proofs.Appended.{parted}
use Rattle.sheet_text.proofs.operations.push_positions.Goals as goal

pub returns : goal.returns
returns c =
    let others = flat_map (λ (p : ℕ). 44 ∷ decimal (p + 1)) c.in-Some.others.now in
    let text : positions_text c.args.places.now ≡ decimal (c.in-Some.first.now + 1) ++ others = ap positions_text c.in-Some.ensures.cases.0 ∙ parted c.in-Some.first.now c.in-Some.others.now in
    subst (λ (t : List ℕ). OnOk c.push_after_commas.result (c.push_after_commas.new.out.items ≡ t))
    (ap (λ (t : List ℕ). t ++ others) c.in_ok-push_position.ensures
    ∙ (append_assoc c.args.out.now.items (decimal (c.in-Some.first.now + 1)) others ∙ ap (λ (t : List ℕ). c.args.out.now.items ++ t) (sym text)))
    c.push_after_commas.ensures
