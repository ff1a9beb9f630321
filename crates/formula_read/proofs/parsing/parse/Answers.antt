use Rattle.std.proofs.Common.{Ok, ap, sym, subst}
use Rattle.formula_tree.specs.Grammar.{IsFormulaText}
use Rattle.formula_read.proofs.Answered.{no_place}
use Rattle.formula_read.proofs.parsing.parse.Goals as goal

pub returns-in-None-clause-outside : goal.returns-in-None-clause-outside
returns-in-None-clause-outside c p e formula =
    no_place c.bytes-bytes.result.now c.tree.result p e c.tree.ensures (subst IsFormulaText (sym c.bytes-bytes.ensures) formula)

pub returns-in-None-clause-place : goal.returns-in-None-clause-place
returns-in-None-clause-place c p e = absurd (no_place c.bytes-bytes.result.now c.tree.result p e c.tree.ensures (c.in_ok-p.ensures.formula (ap Ok c.in-None.is)))
