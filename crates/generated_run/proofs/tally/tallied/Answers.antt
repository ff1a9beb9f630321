use Rattle.std.proofs.Common.{arith}
use Rattle.std.proofs.lemmas.Int.{ints}
use Rattle.generated_run.proofs.Counting.{byte_small}
use Rattle.generated_run.proofs.tally.tallied.Goals as goal

pub returns-clause-within : goal.returns-clause-within
returns-clause-within c n w =
    let numbers = byte_small c.is_number_value.result in
    let texts = byte_small c.is_text_value.result in
    let errors = byte_small c.is_error_value.result in
    let circular = byte_small c.is_circle_value.result in
    let added = c.from-5.ensures in
    record {
      numbers = let is = c.from.ensures in omega arith;
      texts = let is = c.from-2.ensures in omega arith;
      errors = let is = c.from-3.ensures in omega arith;
      circular = let is = c.from-4.ensures in omega arith;
      least = omega (arith, ints);
      greatest = omega (arith, ints);
    }
