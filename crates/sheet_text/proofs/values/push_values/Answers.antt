use Rattle.std.proofs.Common.{ℕ, refl}
use Rattle.sheet_text.specs.Texts.{cell_line}
use Rattle.sheet_text.specs.Values.{value_text, values_from}
use Rattle.sheet_text.proofs.ValueLines.{none_yet, one_more, all_done}
use Rattle.sheet_text.proofs.values.push_values.Goals as goal

pub loop-col-init : goal.loop-col-init
loop-col-init c = none_yet (λ (col : ℕ). cell_line c.args.row col (value_text (values_from c.args.values.now.top c.args.values.now.left c.args.values.now.grid.now c.args.row col))) c.args.first c.args.end c.args.first c.args.out.now.items c.args.out.now.items refl refl

pub loop-col-preserved : goal.loop-col-preserved
loop-col-preserved c =
    one_more (λ (col : ℕ). cell_line c.args.row col (value_text (values_from c.args.values.now.top c.args.values.now.left c.args.values.now.grid.now c.args.row col))) c.args.first c.args.end c.loop-col.col c.args.out.now.items c.loop-col.out.items c.push_value.new.out.items
    c.loop-col.auto.col c.loop-col-test.true c.loop-col.invariant c.in_ok-push_value.ensures

pub returns : goal.returns
returns c =
    all_done (λ (col : ℕ). cell_line c.args.row col (value_text (values_from c.args.values.now.top c.args.values.now.left c.args.values.now.grid.now c.args.row col))) c.args.first c.args.end c.loop-col.col c.args.out.now.items c.loop-col.out.items c.loop-col-test.false c.loop-col.invariant
