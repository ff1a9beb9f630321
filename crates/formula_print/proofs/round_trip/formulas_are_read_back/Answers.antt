use Rattle.formula_tree.specs.Measures.{print_nesting}
use Rattle.formula_print.proofs.Cut.{text_stands}
use Rattle.formula_print.proofs.ReadBack.{printed_stands, one_answer}
use Rattle.formula_print.proofs.round_trip.formulas_are_read_back.Goals as goal

pub returns-clause-text : goal.returns-clause-text
returns-clause-text c = printed_stands c.addresses_are_read_back.ensures.cells c.next_tokens.ensures c.one_reading.ensures

pub returns-clause-answer : goal.returns-clause-answer
returns-clause-answer c t answer formula is =
    let stands = text_stands c.addresses_are_read_back.ensures.cells c.next_tokens.ensures t formula.formed in
    one_answer t (print_nesting t) formula.shallow answer (is t (print_nesting t) stands)
