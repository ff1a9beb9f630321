use Rattle.std.proofs.Common.{◌≢◌, ◌∙◌, [], ap}
use Rattle.std.specs.Prelude.{reverse}
use Rattle.formula_read.specs.declared.stack.Side.{Side}
use Rattle.formula_read.specs.Stack.{finished, reduced}
use Rattle.formula_read.proofs.Nestings.{not_alone}
use Rattle.formula_read.proofs.stack.finish.Goals as goal

pub returns-else-is_empty : goal.returns-else-is_empty
returns-else-is_empty c =
    let settled_to = c.in_ok-operand.ensures in
    let some : c.reduce.new.frames ≢ [] = λ none. absurd (let test = c.if-is_empty.ensures.1 none in cc) in
    ap (λ (s : Side). finished s (reverse c.args.frames.now)) c.in-Has.is
    ∙ not_alone c.reduce.new.frames (reduced 1 c.in-Has.operand (reverse c.args.frames.now)) settled_to.1 some
