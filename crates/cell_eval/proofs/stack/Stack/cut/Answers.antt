use Rattle.std.proofs.Common.{List, drop, reverse, length, subst, ap, sym, ◌∙◌, ◌-◌, ℕ, take, ◌≤◌}
use Rattle.std.proofs.lemmas.List.{length-reverse}
use Rattle.funcs.specs.declared.arg.Arg.{Arg}
use Rattle.cell_eval.proofs.Stacks.{cut_below}
use Rattle.cell_eval.proofs.stack.Stack.cut.Goals as goal

pub returns : goal.returns
returns c =
    let args = c.self.inside.args.items in
    let few = subst (λ (l : List Arg). c.args.count ≤ length l) (sym c.self.view_is) c.requires in
    let left = c.truncate.ensures.items ∙ ap (λ (n : ℕ). take (n - c.args.count) args) (c.len.ensures ∙ c.self.inside.args.ok.0) in
    ap (λ (l : List Arg). reverse l) left ∙ (cut_below args c.args.count (subst (λ (n : ℕ). c.args.count ≤ n) (length-reverse args) few) ∙ ap (λ (l : List Arg). drop c.args.count l) c.self.view_is)
