use Rattle.std.proofs.Common.{ℕ, List, ◌++◌, ap, ◌∙◌, append_assoc, rules}
use Rattle.std.proofs.lemmas.Int.{to_z-of_z}
use mir.Syntax.{w128}
use mir.Val.{SFits}
use Rattle.generated_run.proofs.summary.push_values.Goals as goal

pub returns : goal.returns
returns c =
    let fits : SFits w128 c.args.figures.now.tally.total = search rules in
    let told = simp (append_assoc, to_z-of_z) at c.in_ok-line.ensures.ok in
    c.in_ok-extend_from_slice.ensures.items ∙ ap (λ (bs : List ℕ). c.args.text.now.items ++ bs) (c.as_bytes.ensures.value ∙ told)
