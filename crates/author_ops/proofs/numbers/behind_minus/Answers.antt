use Rattle.author_ops.proofs.Fronts.{digits_of, minus_outside, minus_front}
use Rattle.author_ops.proofs.numbers.behind_minus.Goals as goal

pub returns-in-Err-clause-outside : goal.returns-in-Err-clause-outside
returns-in-Err-clause-outside c =
    let digits = digits_of c.args.digits.now c.requires.digits in
    minus_outside c.args.digits.now digits.1 c.in-Err.front c.in-Err.ensures.front.0 c.in-Err.ensures.front.1 c.in-Err.ensures.past

pub returns-in-Err-clause-front : goal.returns-in-Err-clause-front
returns-in-Err-clause-front c =
    let digits = digits_of c.args.digits.now c.requires.digits in
    minus_front c.args.digits.now digits.1 c.in-Err.front c.in-Err.ensures.front.0 c.in-Err.ensures.front.1 c.in-Err.ensures.past
