use Rattle.std.proofs.Common.{◌≡◌, ◌∙◌}
use Rattle.formula_tree.specs.declared.functions.Fun.{Fun}
use Rattle.formula_tree.specs.Names.{name_of}
use Rattle.formula_tree.specs.Tokens.{upper_case}
use Rattle.formula_tree.specs.WellFormed.{IsFun}
use Rattle.formula_tree.proofs.FunctionNames.{known_fun, unknown_fun, known_found, none_found, of_equal}
use Rattle.formula_tree.proofs.functions.Fun.named.Goals as goal

pub returns-in-Some-clause-proper : goal.returns-in-Some-clause-proper
returns-in-Some-clause-proper c =
    let (known, _) = known_found c.as_slice.result.now c.in-Some.fun.now c.in-Some.ensures in
    of_equal (λ (f : Fun). IsFun f) c.copy.result c.in-Some.fun.now c.copy.ensures (known_fun c.in-Some.fun.now known)

pub returns-in-Some-clause-name : goal.returns-in-Some-clause-name
returns-in-Some-clause-name c =
    let (_, name) = known_found c.as_slice.result.now c.in-Some.fun.now c.in-Some.ensures in
    of_equal (λ (f : Fun). name_of f ≡ upper_case c.args.name.now) c.copy.result c.in-Some.fun.now c.copy.ensures
    (name ∙ (c.as_slice.ensures.value ∙ c.in_ok-name.ensures))

pub returns-in-None-clause-proper : goal.returns-in-None-clause-proper
returns-in-None-clause-proper c =
    let upper : c.from_vec.result ≡ upper_case c.args.name.now = c.from_vec.ensures ∙ c.in_ok-name.ensures in
    let none = none_found c.as_slice.result.now c.in-None.ensures in
    rw upper (unknown_fun c.args.name.now c.requires (rw (c.as_slice.ensures.value, c.in_ok-name.ensures) at none))
