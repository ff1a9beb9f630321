use Rattle.sheet_grid.proofs.numbering.put_numbered.Goals as goal

pub returns-clause-value : goal.returns-clause-value
returns-clause-value c = λ i. record { row = c.rec_number.ensures.number i; col = c.rec_number-2.ensures.number i; content = c.in_ok-content.ensures.value i }
