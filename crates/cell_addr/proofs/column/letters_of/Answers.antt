use Rattle.std.proofs.Common.{◌∙◌, ap, arith}
use Rattle.cell_addr.specs.Columns.{col_named}
use Rattle.cell_addr.proofs.Letters.{take-1-put, take-2-put, take-3-put, letters_1, letters_2, letters_3, col_named-letters}
use Rattle.cell_addr.proofs.column.letters_of.Goals as goal

pub returns-then-col-lt26-clause-text : goal.returns-then-col-lt26-clause-text
returns-then-col-lt26-clause-text c =
    take-1-put c.args.out.now c.letter.result (omega arith) ∙ rw (c.letter.ensures, letters_1 c.args.col c.if-col-lt26.true)

pub returns-then-col-lt26-clause-back : goal.returns-then-col-lt26-clause-back
returns-then-col-lt26-clause-back c =
    ap col_named (returns-then-col-lt26-clause-text c) ∙ col_named-letters c.args.col c.requires

pub returns-then-col-lt702-clause-text : goal.returns-then-col-lt702-clause-text
returns-then-col-lt702-clause-text c =
    take-2-put c.args.out.now c.letter-then-col-lt702.result c.letter-then-col-lt702-2.result (omega arith)
    ∙ rw (c.letter-then-col-lt702.ensures, c.letter-then-col-lt702-2.ensures, letters_2 c.args.col c.if-col-lt26.false c.if-col-lt702.true)

pub returns-then-col-lt702-clause-back : goal.returns-then-col-lt702-clause-back
returns-then-col-lt702-clause-back c =
    ap col_named (returns-then-col-lt702-clause-text c) ∙ col_named-letters c.args.col c.requires

pub returns-else-col-lt702-clause-text : goal.returns-else-col-lt702-clause-text
returns-else-col-lt702-clause-text c =
    take-3-put c.args.out.now c.letter-else-col-lt702.result c.letter-else-col-lt702-2.result c.letter-else-col-lt702-3.result (omega arith)
    ∙ rw (c.letter-else-col-lt702.ensures, c.letter-else-col-lt702-2.ensures, c.letter-else-col-lt702-3.ensures, letters_3 c.args.col c.if-col-lt702.false)

pub returns-else-col-lt702-clause-back : goal.returns-else-col-lt702-clause-back
returns-else-col-lt702-clause-back c =
    ap col_named (returns-else-col-lt702-clause-text c) ∙ col_named-letters c.args.col c.requires
