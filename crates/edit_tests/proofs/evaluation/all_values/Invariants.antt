use Rattle.edit_tests.proofs.evaluation.all_values.Given as goal

-- a ledger of one part, in which nobody else counts
abbrev pub ghosts-counted : goal.ghosts-counted
ghosts-counted a = record { name = a.blank.name; parts = a.blank.parts }
