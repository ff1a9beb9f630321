use Rattle.std.proofs.Common.{◌≡◌, ◌≤◌, length, ap, sym, ◌∙◌, arith}
use Rattle.std.proofs.lemmas.Int.{ints}
use Rattle.std.proofs.lemmas.Result.{err_from_is_err_and}
use mir.Val.{to_z, of_z}
use mir.Syntax.{w128}
use Rattle.funcs.specs.Refs.{owned}
use Rattle.funcs.specs.Areas.{items}
use Rattle.funcs.specs.Numbers.{number_value}
use Rattle.funcs.specs.Tables.{products}
use Rattle.funcs.proofs.Tallies.{tally-total, tally-err}
use Rattle.funcs.proofs.Walks.{product-ok, product-err, product-end}
use Rattle.funcs.specs.Steps.{all_of}
use Rattle.funcs.proofs.table.product_total.Goals as goal

pub returns-in_err-found : goal.returns-in_err-found
returns-in_err-found c =
    let p = err_from_is_err_and c.from_residual.result c.from_residual.ensures.1 in
    rw (p.1, p.2) (sym (tally-err (all_of (products (items c.args.xs.now) (items c.args.ys.now))) _ _ (sym (c.loop-i.invariant.numbers
    ∙ product-err (items c.args.xs.now) (items c.args.ys.now) c.loop-i.i (owned c.item.result) (owned c.item-in-loop-i.result) c.item.ensures c.item-in-loop-i.ensures
    c.loop-i.found _ c.in_err-found.ensures.numbers))))

pub loop-i-preserved : goal.loop-i-preserved
loop-i-preserved c = record {
  numbers = c.loop-i.invariant.numbers
      ∙ product-ok (items c.args.xs.now) (items c.args.ys.now) c.loop-i.i (owned c.item.result) (owned c.item-in-loop-i.result) c.item.ensures c.item-in-loop-i.ensures
      c.loop-i.found c.in_ok-found.found c.in_ok-found.ensures.numbers;
  few = omega (arith, c.loop-i.invariant.few, c.in_ok-found.ensures.few);
}

pub returns : goal.returns
returns c =
    let same : to_z w128 (of_z w128 c.total.result) ≡ c.total.result = omega (arith, ints) in
    let h : length (items c.args.xs.now) ≤ c.loop-i.i = omega (arith, c.count-i-end.ensures.count, c.loop-i-test.false) in
    let k : length (items c.args.ys.now) ≤ c.loop-i.i = omega (arith, h, c.requires) in
    c.number_value.ensures
    ∙ (ap number_value (same ∙ c.total.ensures)
    ∙ sym (tally-total c.loop-i.found (all_of (products (items c.args.xs.now) (items c.args.ys.now))) (sym (c.loop-i.invariant.numbers ∙ product-end c.loop-i.found (items c.args.xs.now) (items c.args.ys.now) c.loop-i.i h k))))
