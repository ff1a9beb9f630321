use Rattle.std.proofs.Common.{◌∙◌, sym, refl, arith}
use Rattle.sheet_value.specs.declared.value.Value.TheVariants as value
use Rattle.funcs.specs.Refs.{owned}
use Rattle.funcs.specs.Areas.{items}
use Rattle.funcs.proofs.Found.{value-ok, value-err, no_fault}
use Rattle.funcs.proofs.list.with_items.Goals as goal

pub returns-in-Err-clause-numbers : goal.returns-in-Err-clause-numbers
returns-in-Err-clause-numbers c =
    sym (c.loop-i.invariant.numbers ∙ value-err c.loop-i.found (items c.args.area.now) c.loop-i.i (value.Err c.in-Err.e) c.in-Err.ensures c.in-Err.e refl)

pub loop-i-preserved : goal.loop-i-preserved
loop-i-preserved c = record {
  numbers = c.loop-i.invariant.numbers
      ∙ value-ok c.loop-i.found (items c.args.area.now) c.loop-i.i (owned c.item-v.result) c.item-v.ensures c.add_number_of.new.found
      (c.add_number_of.ensures.numbers (no_fault c.item-v.result c.in_default.not-Err));
  few = omega (arith, c.loop-i.invariant.few, c.add_number_of.ensures.few);
}
