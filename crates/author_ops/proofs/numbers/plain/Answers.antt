use Rattle.author_ops.proofs.Fronts.{digits_of, plain_outside, plain_front}
use Rattle.author_ops.proofs.numbers.plain.Goals as goal

pub returns-in-Err-clause-outside : goal.returns-in-Err-clause-outside
returns-in-Err-clause-outside c =
    let digits = digits_of c.args.digits.now c.requires.digits in
    plain_outside c.args.digits.now digits.1 c.in-Err.front c.in-Err.ensures.front.0 c.in-Err.ensures.front.1 c.in-Err.ensures.past

pub returns-in-Err-clause-front : goal.returns-in-Err-clause-front
returns-in-Err-clause-front c =
    let digits = digits_of c.args.digits.now c.requires.digits in
    plain_front c.args.digits.now digits.1 c.in-Err.front c.in-Err.ensures.front.0 c.in-Err.ensures.front.1 c.in-Err.ensures.past
