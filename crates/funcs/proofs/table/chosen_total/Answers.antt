use Rattle.std.proofs.Common.{◌≡◌, ◌≤◌, length, ap, sym, ◌∙◌, arith}
use Rattle.std.proofs.lemmas.Int.{ints}
use Rattle.std.proofs.lemmas.Result.{err_from_is_err_and}
use mir.Val.{to_z, of_z}
use mir.Syntax.{w128}
use Rattle.funcs.specs.Refs.{owned}
use Rattle.funcs.specs.Areas.{items, sheet_numbers}
use Rattle.funcs.specs.Numbers.{number_value}
use Rattle.funcs.specs.Tables.{chosen}
use Rattle.funcs.proofs.Tallies.{tally-total, tally-err}
use Rattle.funcs.proofs.Walks.{chosen-ok, chosen-err, chosen-end}
use Rattle.funcs.proofs.table.chosen_total.Goals as goal

pub returns-in_err-found : goal.returns-in_err-found
returns-in_err-found c =
    let p = err_from_is_err_and c.from_residual.result c.from_residual.ensures.1 in
    rw (p.1, p.2) (sym (tally-err (sheet_numbers (chosen (owned c.args.x) (items c.args.area.now) (items c.args.sums.now))) _ _ (sym (c.loop-i.invariant.numbers
    ∙ chosen-err (items c.args.area.now) (items c.args.sums.now) c.loop-i.i (owned c.item.result) (owned c.item-in-loop-i.result) c.item.ensures c.item-in-loop-i.ensures (owned c.args.x)
    c.loop-i.found _ c.in_err-found.ensures.numbers))))

pub loop-i-preserved : goal.loop-i-preserved
loop-i-preserved c = record {
  numbers = c.loop-i.invariant.numbers
      ∙ chosen-ok (items c.args.area.now) (items c.args.sums.now) c.loop-i.i (owned c.item.result) (owned c.item-in-loop-i.result) c.item.ensures c.item-in-loop-i.ensures (owned c.args.x)
      c.loop-i.found c.in_ok-found.found c.in_ok-found.ensures.numbers;
  few = omega (arith, c.loop-i.invariant.few, c.in_ok-found.ensures.few);
}

pub returns : goal.returns
returns c =
    let same : to_z w128 (of_z w128 c.total.result) ≡ c.total.result = omega (arith, ints) in
    let h : length (items c.args.area.now) ≤ c.loop-i.i = omega (arith, c.count-i-end.ensures.count, c.loop-i-test.false) in
    let k : length (items c.args.sums.now) ≤ c.loop-i.i = omega (arith, h, c.requires) in
    c.number_value.ensures
    ∙ (ap number_value (same ∙ c.total.ensures)
    ∙ sym (tally-total c.loop-i.found (sheet_numbers (chosen (owned c.args.x) (items c.args.area.now) (items c.args.sums.now))) (sym (c.loop-i.invariant.numbers ∙ chosen-end (owned c.args.x) c.loop-i.found (items c.args.area.now) (items c.args.sums.now) c.loop-i.i h k))))
