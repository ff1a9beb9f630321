use Rattle.formula_tests.proofs.tests.comes_to.Given as goal

-- a ledger of one part, in which nobody else counts
abbrev pub ghosts-value_of : goal.ghosts-value_of
ghosts-value_of g a = record { name = a.blank.name; parts = a.blank.parts }
