use Rattle.std.proofs.Common.{rules, ◌≡◌, refl, subst, sym, List, ℕ}
use Rattle.formula_tree.specs.Grammar.{Stands}
use Rattle.formula_tree.specs.Measures.{print_nesting}
use Rattle.formula_tree.specs.Printed.{formula_text}
use Rattle.formula_print.proofs.printer.print.Goals as goal

pub returns-clause-reads : goal.returns-clause-reads
returns-clause-reads c =
    let formula = c.args.formula.now in
    let text : c.from_vec.result ≡ formula_text formula = search rules in
    let (_, stands) = c.formulas_are_read_back.ensures.text formula formula (print_nesting formula) c.expr.ensures.formula in
    subst (λ (l : List ℕ). Stands l formula (print_nesting formula)) (sym text) (stands (refl, refl))
