use Rattle.formula_read.proofs.Syntax.{formula_read, front_is_read, read_is_front, read_is_formula}
use Rattle.formula_read.proofs.Functions.{lexed_proper, text_is_read}
use Rattle.formula_read.proofs.laws.token_fronts.Goals as goal

pub returns : goal.returns
returns c = record {
  fronts = λ ts h. (front_is_read ts, read_is_front ts h);
  names = λ bs ls l. lexed_proper l;
  texts = text_is_read;
  formulas = λ ts h. (formula_read ts, read_is_formula ts h);
}
